use native.Mathlib.Omega.{arith}
use borrow.Author.Tests.{ltb-false}
use Rattle.mass_exact.specs.Amounts.{value}
use Rattle.mass_exact.proofs.subtract.Statement.{statement}
use Rattle.mass_exact.proofs.subtract.Tie as tie

pub subtract_spec : {M : Type 1} → statement M
unfolding value
subtract_spec =
    tie.close
    (tie.spec
    (omega (arith, ltb-false)) (omega (arith, ltb-false)) (omega arith) (omega arith) (omega (arith, ltb-false))
    (omega (arith, ltb-false)) (omega (arith, ltb-false)))
