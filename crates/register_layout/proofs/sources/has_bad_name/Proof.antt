use native.Mathlib.Omega.{arith}
use Rattle.register_layout.proofs.sources.Entries.{name-is}
use Rattle.register_layout.proofs.sources.has_bad_name.Statement.{statement}
use Rattle.register_layout.proofs.sources.has_bad_name.Tie as tie

pub has_bad_name_spec : {M : Type 1} → statement M
has_bad_name_spec =
    tie.close
    (tie.spec
    (omega arith)
    (omega arith)
    (omega arith)
    (omega arith)
    (λ c. search name-is))
