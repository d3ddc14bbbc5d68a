use Rattle.decimal_read.proofs.Digits.{Reading}
use Rattle.decimal_read.proofs.numeral_in.Given as goal

abbrev pub invariant-loop-byte : goal.invariant-loop-byte
invariant-loop-byte l = Reading l.word l.n l.byte-index
