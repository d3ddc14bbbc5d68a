use native.Mathlib.Omega.{arith}
use Rattle.register_name.proofs.look.Looking.{name-there}
use Rattle.register_name.proofs.look.name_at.Statement.{statement}
use Rattle.register_name.proofs.look.name_at.Tie as tie

pub name_at_spec : {M : Type 1} → statement M
name_at_spec =
    tie.close
    (tie.spec
    (λ c κs. omega arith)
    (λ c κs. omega arith)
    (λ c. search name-there))
