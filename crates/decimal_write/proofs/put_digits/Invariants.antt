use Rattle.decimal_write.proofs.Digits.{Spelling}
use Rattle.decimal_write.proofs.put_digits.Given as goal

abbrev pub invariant-loop-rest : goal.invariant-loop-rest
invariant-loop-rest l = Spelling l.initial.buf l.end l.n l.buf l.p l.rest

abbrev pub decreases-loop-rest : goal.decreases-loop-rest
decreases-loop-rest l = l.rest
