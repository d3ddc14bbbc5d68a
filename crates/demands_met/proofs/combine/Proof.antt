use borrow.Author.Rules.{rules}
use Rattle.demands_met.proofs.Meeting.{lent, combines}
use Rattle.demands_met.proofs.combine.Statement.{statement}
use Rattle.demands_met.proofs.combine.Tie as tie

pub combine_spec : {M : Type 1} → statement M
combine_spec = tie.close (tie.spec (search rules) (search rules) (λ c. combines (λ i. lent (c.shared_slice_known-1.given i)) (λ i. lent (c.shared_slice_known-2-1.given i)) (search rules)))
