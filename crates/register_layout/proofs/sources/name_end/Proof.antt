use native.Mathlib.Omega.{arith}
use Rattle.register_layout.proofs.sources.Entries.{name-end}
use Rattle.register_layout.proofs.sources.name_end.Statement.{statement}
use Rattle.register_layout.proofs.sources.name_end.Tie as tie

pub name_end_spec : {M : Type 1} → statement M
name_end_spec =
    tie.close
    (tie.spec
    (omega arith)
    (omega arith)
    (omega arith)
    (λ c. search name-end))
