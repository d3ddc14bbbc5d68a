use Rattle.register_layout.proofs.sources.Entries.{Looked}
use Rattle.register_layout.proofs.sources.has_bad_byte.Given as goal

abbrev pub invariant-loop-byte : goal.invariant-loop-byte
invariant-loop-byte l = Looked l.name l.bad l.byte-index
