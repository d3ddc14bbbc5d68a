use Rattle.report_write.proofs.Writing.{entry_fronted}
use Rattle.report_write.proofs.put_entry_front.Goals as goal

pub returns : goal.returns
returns c = search entry_fronted
