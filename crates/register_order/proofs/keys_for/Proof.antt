use native.Mathlib.Omega.{arith}
use Rattle.register_order.proofs.Tested.{for_short, for_many, for_few}
use Rattle.register_order.proofs.keys_for.Statement.{statement}
use Rattle.register_order.proofs.keys_for.Tie as tie

pub keys_for_spec : {M : Type 1} → statement M
keys_for_spec =
    tie.close
    (tie.spec
    (λ c. (search for_short, omega arith))
    (omega arith)
    (λ c. (search for_many, omega arith))
    (λ c. (search for_few, omega arith)))
