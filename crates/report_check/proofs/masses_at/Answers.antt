use Rattle.report_check.proofs.Rules.{masses_read}
use Rattle.report_check.proofs.masses_at.Goals as goal

pub returns : goal.returns
returns c = search masses_read
