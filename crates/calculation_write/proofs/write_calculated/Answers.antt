use Rattle.std.proofs.Common.{refl, rules, Err}
use Rattle.calculation_write.proofs.Entries.{header_there}
use Rattle.calculation_write.proofs.Answered.{count_small, calculation-room, calculation-short, calculation-made}
use Rattle.calculation_write.proofs.write_calculated.Goals as goal

pub source_count-n-requires : goal.source_count-n-requires
source_count-n-requires c = search (rules, header_there)

pub length_of-needed-requires : goal.length_of-needed-requires
length_of-needed-requires c = count_small c.requires.0 c.source_count-n.ensures

pub returns-in-Err : goal.returns-in-Err
returns-in-Err c = calculation-short c.args.register.now c.requires.1 c.source_count-n.ensures c.length_of-needed.ensures (Err c.in-Err.refusal) c.test_room.ensures c.in-Err.is refl

pub write_report-requires : goal.write_report-requires
write_report-requires c =
    (c.requires.0, calculation-room c.args.register.now c.requires.1 c.source_count-n.ensures c.length_of-needed.ensures _ c.test_room.ensures c.in-Ok.is)

pub returns-in-Ok : goal.returns-in-Ok
returns-in-Ok c = calculation-made c.args.register.now c.requires.1 c.source_count-n.ensures c.length_of-needed.ensures c.write_report.ensures
