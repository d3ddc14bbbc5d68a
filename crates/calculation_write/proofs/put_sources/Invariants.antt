use Rattle.calculation_write.proofs.Entries.{Placing}
use Rattle.calculation_write.proofs.put_sources.Given as goal

abbrev pub invariant-loop-k : goal.invariant-loop-k
invariant-loop-k l = Placing l.register l.initial.report l.k-end l.report l.k
