use native.Mathlib.Omega.{arith}
use Rattle.register_layout.proofs.sources.Entries.{has_name, wrong-misplaced, wrong_misstated, wrong_unnamed, wrong-named}
use Rattle.register_layout.proofs.sources.is_wrong.Statement.{statement}
use Rattle.register_layout.proofs.sources.is_wrong.Tie as tie

pub is_wrong_spec : {M : Type 1} → statement M
is_wrong_spec =
    tie.close
    (tie.spec
    (omega arith)
    (λ c. search wrong-misplaced)
    (λ c κs. search has_name)
    (λ c. search wrong_misstated)
    (λ c κs. search has_name)
    (λ c. search wrong-named)
    (λ c. search wrong_unnamed))
