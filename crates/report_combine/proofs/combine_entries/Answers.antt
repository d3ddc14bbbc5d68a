use Rattle.report_combine.proofs.Answered.{combination-room, combination-short, combination-made}
use Rattle.report_combine.proofs.combine_entries.Goals as goal

pub returns-in_err-test_room : goal.returns-in_err-test_room
returns-in_err-test_room c =
    combination-short _ _ c.args.report.now c.requires c.entry_count.ensures c.entry_count-2.ensures c.length_of-needed.ensures _ c.test_room.ensures c.in_err-test_room.was c.from_residual.ensures.1

pub put_both-requires : goal.put_both-requires
put_both-requires c =
    (c.requires.0, combination-room _ _ c.args.report.now c.requires c.entry_count.ensures c.entry_count-2.ensures c.length_of-needed.ensures c.test_room.ensures c.in_ok-test_room.was)

pub returns : goal.returns
returns c = combination-made _ _ c.args.report.now c.requires c.entry_count.ensures c.entry_count-2.ensures c.length_of-needed.ensures c.put_both.ensures
