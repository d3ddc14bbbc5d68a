use borrow.Author.Rules.{rules}
use Rattle.demands_met.proofs.Meeting.{lent, calculates}
use Rattle.demands_met.proofs.calculate.Statement.{statement}
use Rattle.demands_met.proofs.calculate.Tie as tie

pub calculate_spec : {M : Type 1} → statement M
calculate_spec = tie.close (tie.spec (search rules) (search rules) (λ c. calculates (λ i. lent (c.shared_slice_known-1.given i)) (search rules)))
