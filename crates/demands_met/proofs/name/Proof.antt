use borrow.Author.Rules.{rules}
use Rattle.demands_met.proofs.Meeting.{finds}
use Rattle.demands_met.proofs.name.Statement.{statement}
use Rattle.demands_met.proofs.name.Tie as tie

pub name_spec : {M : Type 1} → statement M
name_spec = tie.close (tie.spec (search rules) (λ c. search finds))
