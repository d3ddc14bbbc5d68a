use Rattle.calculation_write.proofs.Summing.{Adding}
use Rattle.calculation_write.proofs.add_source.Given as goal

abbrev pub invariant-loop-k : goal.invariant-loop-k
invariant-loop-k l = Adding l.figures l.i l.initial.totals l.totals l.k
