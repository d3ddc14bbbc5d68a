use borrow.Author.Rules.{rules}
use Rattle.demands_met.proofs.Meeting.{lent, checks}
use Rattle.demands_met.proofs.check.Statement.{statement}
use Rattle.demands_met.proofs.check.Tie as tie

pub check_spec : {M : Type 1} → statement M
check_spec = tie.close (tie.spec (search rules) (λ c. checks (λ i. lent (c.shared_slice_known-1.given i)) (search rules)))
