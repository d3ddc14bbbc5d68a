use Rattle.std.proofs.Common.{arith}
use Rattle.report_remove.proofs.Answered.{removal_absent, stands-there, removal-room, removal-short, removal-made}
use Rattle.report_remove.proofs.remove_entry.Goals as goal

pub returns-in_err-i : goal.returns-in_err-i
returns-in_err-i c =
    removal_absent c.args.report.now c.args.number c.args.res.now c.requires c.entry_index_of.ensures c.from_residual.result c.in_err-i.ensures.ok_part c.in_err-i.ensures.value c.from_residual.ensures.1

pub overflow_sub-n : goal.overflow_sub-n
overflow_sub-n c = omega (arith, c.entry_count-n.ensures, stands-there c.args.report.now c.args.number c.args.res.now c.requires c.entry_index_of.ensures c.in_ok-i.ensures.ok_part)

pub returns-in_err-test_room : goal.returns-in_err-test_room
returns-in_err-test_room c =
    removal-short c.args.report.now c.args.number c.args.res.now c.requires c.entry_index_of.ensures c.entry_count-n.ensures c.in_ok-i.ensures.ok_part c.length_of-needed.ensures _ c.test_room.ensures c.in_err-test_room.was c.from_residual-in_err-test_room.ensures.1

pub put_others-requires : goal.put_others-requires
put_others-requires c = (
  c.requires,
  stands-there c.args.report.now c.args.number c.args.res.now c.requires c.entry_index_of.ensures c.in_ok-i.ensures.ok_part,
  removal-room c.args.report.now c.args.number c.args.res.now c.requires c.entry_index_of.ensures c.entry_count-n.ensures c.in_ok-i.ensures.ok_part c.length_of-needed.ensures c.test_room.ensures c.in_ok-test_room.was,
)

pub returns : goal.returns
returns c = removal-made c.args.report.now c.args.number c.args.res.now c.requires c.entry_index_of.ensures c.entry_count-n.ensures c.in_ok-i.ensures.ok_part c.length_of-needed.ensures c.put_others.ensures
