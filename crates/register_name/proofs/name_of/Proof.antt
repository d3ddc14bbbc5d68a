use native.Mathlib.Omega.{arith}
use Rattle.register_name.proofs.Names.{within}
use Rattle.register_name.proofs.name_of.Statement.{statement}
use Rattle.register_name.proofs.name_of.Tie as tie

pub name_of_spec : {M : Type 1} → statement M
name_of_spec =
    tie.close
    (tie.spec
    (λ c κs. tt)
    (λ c κs. omega (arith, within _ _ c.name_place-name.ensures))
    (λ c. rw (← c.name_place-name.ensures) c.part.ensures))
