use native.Mathlib.Omega.{arith}
use Rattle.kopristen.proofs.kopristen_combine.Statement.{statement}
use Rattle.kopristen.proofs.kopristen_combine.Tie as tie

pub kopristen_combine_spec : {M : Type 1} → statement M
kopristen_combine_spec =
    tie.close
    (tie.spec
    (λ c κs. tt)
    (λ c. omega arith)
    (λ c. search))
