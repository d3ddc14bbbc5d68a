use Rattle.basis.proofs.Filling.{Filled}
use Rattle.report_read.specs.Figures.{figure_at}
use Rattle.report_read.proofs.read_figures.Given as goal

abbrev pub invariant-loop-k : goal.invariant-loop-k
invariant-loop-k l = Filled (figure_at l.s l.at) l.initial.to l.to l.k
