use Rattle.register_layout.proofs.sources.Passing.{Passing}
use Rattle.register_layout.proofs.sources.test_sources.Given as goal

abbrev pub invariant-loop-i : goal.invariant-loop-i
invariant-loop-i l = Passing l.register l.n l.i l.line l.byte
