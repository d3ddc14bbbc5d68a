use borrow.Author.Rules.{rules}
use Rattle.demands_met.proofs.Meeting.{finds_of_two}
use Rattle.demands_met.proofs.name_of_two.Statement.{statement}
use Rattle.demands_met.proofs.name_of_two.Tie as tie

pub name_of_two_spec : {M : Type 1} → statement M
name_of_two_spec = tie.close (tie.spec (search rules) (λ c. search finds_of_two))
