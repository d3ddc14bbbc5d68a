use Rattle.report_check.proofs.Pass.{Checked}
use Rattle.report_check.proofs.are_entries_right.Given as goal

abbrev pub invariant-loop-i : goal.invariant-loop-i
invariant-loop-i l = Checked l.report l.n l.totals l.before l.i
