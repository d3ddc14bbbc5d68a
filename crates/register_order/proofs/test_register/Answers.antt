use Rattle.register_layout.proofs.LaidOut.{layout_headed}
use Rattle.register_order.proofs.Tested.{room, layout-refused, layout-passed}
use Rattle.register_order.proofs.test_register.Goals as goal

pub returns-in_err-test_layout : goal.returns-in_err-test_layout
returns-in_err-test_layout c = layout-refused c.args.register.now c.test_layout.ensures c.in_err-test_layout.was c.from_residual.ensures.1

pub test_numbers-requires : goal.test_numbers-requires
test_numbers-requires c =
    let head = layout_headed c.args.register.now c.test_layout.ensures c.in_ok-test_layout.was in
    (head, room c.args.register.now head c.requires.0, room c.args.register.now head c.requires.1)

pub returns : goal.returns
returns c = layout-passed c.args.register.now c.test_layout.ensures c.in_ok-test_layout.was c.test_numbers.ensures
