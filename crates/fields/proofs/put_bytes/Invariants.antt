use Rattle.fields.proofs.Laws.{Copied}
use Rattle.fields.proofs.put_bytes.Given as goal

abbrev pub invariant-loop-i : goal.invariant-loop-i
invariant-loop-i l = Copied l.initial.buf l.at l.bytes l.buf l.i
