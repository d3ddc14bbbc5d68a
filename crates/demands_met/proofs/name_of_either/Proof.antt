use borrow.Author.Rules.{rules}
use Rattle.demands_met.proofs.Meeting.{hands_back_either}
use Rattle.demands_met.proofs.name_of_either.Statement.{statement}
use Rattle.demands_met.proofs.name_of_either.Tie as tie

pub name_of_either_spec : {M : Type 1} → statement M
name_of_either_spec = tie.close (tie.spec (search rules) (λ c. search hands_back_either))
