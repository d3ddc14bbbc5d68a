use Rattle.register_accept.proofs.numbers.Differing.{Numbering}
use Rattle.register_accept.proofs.numbers.standing_in.Given as goal

abbrev pub invariant-loop-i : goal.invariant-loop-i
invariant-loop-i l = Numbering l.register l.slots l.n l.i
