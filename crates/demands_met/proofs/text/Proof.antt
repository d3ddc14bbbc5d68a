use borrow.Author.Rules.{rules}
use Rattle.demands_met.proofs.Meeting.{lent, prints}
use Rattle.demands_met.proofs.text.Statement.{statement}
use Rattle.demands_met.proofs.text.Tie as tie

pub text_spec : {M : Type 1} → statement M
text_spec = tie.close (tie.spec (search rules) (search rules) (λ c. prints (λ i. lent (c.shared_slice_known-1.given i)) (search rules)))
