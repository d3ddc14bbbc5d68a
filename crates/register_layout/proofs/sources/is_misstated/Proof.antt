use native.Mathlib.Omega.{arith}
use Rattle.register_layout.proofs.sources.Entries.{misstated_is}
use Rattle.register_layout.proofs.sources.is_misstated.Statement.{statement}
use Rattle.register_layout.proofs.sources.is_misstated.Tie as tie

pub is_misstated_spec : {M : Type 1} → statement M
is_misstated_spec =
    tie.close
    (tie.spec
    (omega arith)
    (omega arith)
    (omega arith)
    (omega arith)
    (omega arith)
    (omega arith)
    (λ c. search misstated_is))
