use Rattle.report_check.proofs.Pass.{Compared}
use Rattle.report_check.proofs.are_totals_right.Given as goal

abbrev pub invariant-loop-figure : goal.invariant-loop-figure
invariant-loop-figure l = Compared l.report l.figure
