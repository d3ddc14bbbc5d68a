use Rattle.report_text.proofs.Rows.{Measuring}
use Rattle.report_text.proofs.measure_figures.Given as goal

abbrev pub invariant-loop-k : goal.invariant-loop-k
invariant-loop-k l = Measuring l.report l.at l.total l.k
