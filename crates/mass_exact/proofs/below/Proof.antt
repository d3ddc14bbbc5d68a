use Rattle.mass_exact.proofs.Amounts.{below_in_low, below_in_high}
use Rattle.mass_exact.proofs.below.Statement.{statement}
use Rattle.mass_exact.proofs.below.Tie as tie

pub below_spec : {M : Type 1} → statement M
below_spec = tie.close (tie.spec (λ c. search below_in_low) (λ c. search below_in_high))
