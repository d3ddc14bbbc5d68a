use native.Mathlib.Omega.{arith}
use Rattle.hash_repeats.proofs.Slots.{all-free}
use Rattle.register_accept.proofs.numbers.standing.Statement.{statement}
use Rattle.register_accept.proofs.numbers.standing.Tie as tie

pub standing_spec : {M : Type 1} → statement M
standing_spec =
    tie.close
    (tie.spec
    (λ c. omega arith)
    (λ c κs. (search, search, all-free))
    (λ c. search))
