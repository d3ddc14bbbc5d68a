use Rattle.report_write.proofs.Writing.{entry-written}
use Rattle.report_write.proofs.put_entry.Goals as goal

pub returns : goal.returns
returns c = search entry-written
