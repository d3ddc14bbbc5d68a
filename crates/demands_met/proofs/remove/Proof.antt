use borrow.Author.Rules.{rules}
use Rattle.demands_met.proofs.Meeting.{lent, removes}
use Rattle.demands_met.proofs.remove.Statement.{statement}
use Rattle.demands_met.proofs.remove.Tie as tie

pub remove_spec : {M : Type 1} → statement M
remove_spec = tie.close (tie.spec (search rules) (search rules) (λ c. removes (λ i. lent (c.shared_slice_known-1.given i)) (search rules)))
