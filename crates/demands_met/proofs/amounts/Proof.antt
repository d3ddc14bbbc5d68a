use borrow.Author.Rules.{rules}
use Rattle.demands_met.proofs.Meeting.{works_out}
use Rattle.demands_met.proofs.amounts.Statement.{statement}
use Rattle.demands_met.proofs.amounts.Tie as tie

pub amounts_spec : {M : Type 1} → statement M
amounts_spec = tie.close (tie.spec (search rules) (search rules) (λ c. search works_out))
