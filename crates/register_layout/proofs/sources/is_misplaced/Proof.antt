use native.Mathlib.Omega.{arith}
use Rattle.register_layout.proofs.sources.Entries.{misplaced-is}
use Rattle.register_layout.proofs.sources.is_misplaced.Statement.{statement}
use Rattle.register_layout.proofs.sources.is_misplaced.Tie as tie

pub is_misplaced_spec : {M : Type 1} → statement M
is_misplaced_spec =
    tie.close
    (tie.spec
    (omega arith)
    (omega arith)
    (omega arith)
    (omega arith)
    (omega arith)
    (omega arith)
    (λ c. search misplaced-is))
