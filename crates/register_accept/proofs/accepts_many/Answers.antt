use Rattle.std.proofs.Common.{sym, ◌∙◌}
use Rattle.basis.proofs.Answers.{passes-is}
use Rattle.register_layout.proofs.LaidOut.{layout_headed}
use Rattle.register_accept.proofs.Accepted.{layout_nonzero, accepts_none, accepts_last}
use Rattle.register_accept.proofs.accepts_many.Goals as goal

pub numbers_differ-requires : goal.numbers_differ-requires
numbers_differ-requires c =
    let passed = passes-is c.test_layout.result (sym c.if-is_ok.ensures.value) in
    (layout_headed c.args.register.now c.test_layout.ensures passed, layout_nonzero c.args.register.now c.test_layout.ensures passed)

pub returns-then-is_ok : goal.returns-then-is_ok
returns-then-is_ok c =
    accepts_last c.args.register.now c.test_layout.ensures (passes-is c.test_layout.result (sym c.if-is_ok.ensures.value)) c.numbers_differ.ensures

pub returns-else-is_ok : goal.returns-else-is_ok
returns-else-is_ok c = c.if-is_ok.false ∙ accepts_none c.args.register.now c.test_layout.ensures (sym c.if-is_ok.ensures.value)
