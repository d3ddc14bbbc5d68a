use Rattle.std.proofs.Common.{arith}
use Rattle.basis.proofs.Filling.{filled_now, filled_more, filled-all}
use Rattle.report_read.specs.Figures.{added_at}
use Rattle.report_read.proofs.add_figures.Goals as goal

pub loop-k-preserved : goal.loop-k-preserved
loop-k-preserved c = filled_more c.loop-k.invariant (omega arith) (rw (filled_now c.loop-k.invariant, c.number_at.ensures.is))

pub returns : goal.returns
unfolding added_at
returns c = filled-all c.loop-k.invariant (omega arith)
