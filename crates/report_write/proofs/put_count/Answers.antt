use Rattle.report_write.proofs.Writing.{packed_three}
use Rattle.report_write.proofs.put_count.Goals as goal

pub returns : goal.returns
returns c = search packed_three
