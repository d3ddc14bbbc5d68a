use Rattle.report_text.proofs.Texts.{text-room, text-short, text-made}
use Rattle.report_text.proofs.write_text.Goals as goal

pub returns-in_err-test_room : goal.returns-in_err-test_room
returns-in_err-test_room c = text-short _ c.args.buffer.now c.requires c.measure_text-needed.ensures _ c.test_room.ensures c.in_err-test_room.was c.from_residual.ensures.1

pub put_text-requires : goal.put_text-requires
put_text-requires c = (c.requires, c.measure_text-needed.ensures, text-room _ c.args.buffer.now c.requires c.measure_text-needed.ensures c.test_room.ensures c.in_ok-test_room.was)

pub returns : goal.returns
returns c = text-made _ c.args.buffer.now c.requires c.measure_text-needed.ensures c.put_text.ensures
