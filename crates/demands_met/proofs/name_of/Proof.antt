use borrow.Author.Rules.{rules}
use Rattle.demands_met.proofs.Meeting.{hands_back}
use Rattle.demands_met.proofs.name_of.Statement.{statement}
use Rattle.demands_met.proofs.name_of.Tie as tie

pub name_of_spec : {M : Type 1} → statement M
name_of_spec = tie.close (tie.spec (search rules) (λ c. search hands_back))
