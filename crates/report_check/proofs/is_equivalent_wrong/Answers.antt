use Rattle.std.proofs.Common.{rules}
use Rattle.report_check.proofs.Rules.{wrong-above, wrong-stated}
use Rattle.report_check.proofs.is_equivalent_wrong.Goals as goal

pub returns-in-Some : goal.returns-in-Some
returns-in-Some c = search (rules, wrong-stated)

pub returns-in-None : goal.returns-in-None
returns-in-None c = search (rules, wrong-above)
