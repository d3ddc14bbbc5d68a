use native.Mathlib.Omega.{arith}
use borrow.Author.Rules.{rules}
use Rattle.mass_exact.proofs.Amounts.{added_parted, added-fits}
use Rattle.mass_exact.proofs.add.Statement.{statement}
use Rattle.mass_exact.proofs.add.Tie as tie

pub add_spec : {M : Type 1} → statement M
add_spec =
    tie.close
    (tie.spec
    (search rules)
    (search rules)
    (search rules)
    (search rules)
    (omega arith)
    (λ c. search added-fits)
    (λ c. search added_parted))
