use native.Mathlib.Omega.{arith}
use Rattle.meaning.specs.Masses.{rounded}
use Rattle.mass_exact.specs.Amounts.{value}
use Rattle.mass_exact.proofs.round.Statement.{statement}
use Rattle.mass_exact.proofs.round.Tie as tie

pub round_spec : {M : Type 1} → statement M
unfolding rounded value
round_spec = tie.close (tie.spec (omega arith) (omega arith) (omega arith) (omega arith) (omega arith) (omega arith) (omega arith))
