use Rattle.std.proofs.Common.{◌-◌, get_or}
use Rattle.basis.proofs.Filling.{Filled}
use Rattle.report_read.specs.Figures.{figure_at}
use Rattle.report_read.proofs.take_figures.Given as goal

abbrev pub invariant-loop-k : goal.invariant-loop-k
invariant-loop-k l = Filled (λ k. get_or l.initial.sums k 0 - figure_at l.s l.at k) l.initial.sums l.sums l.k
