use Rattle.input_stock_cards.proofs.Answered.{room-short, room_enough, all-written}
use Rattle.input_stock_cards.proofs.write_amounts.Goals as goal

pub returns-in_err-test_room : goal.returns-in_err-test_room
returns-in_err-test_room c = room-short c.args.worked.now c.args.amounts.now _ c.test_room.ensures c.in_err-test_room.was c.from_residual.ensures.1

pub put_amounts-requires : goal.put_amounts-requires
put_amounts-requires c = room_enough c.args.worked.now c.args.amounts.now c.test_room.ensures c.in_ok-test_room.was

pub returns : goal.returns
returns c = all-written c.args.worked.now c.args.amounts.now c.put_amounts.ensures
