use borrow.Author.Tests.{ne_eqb}
use Rattle.register_name.proofs.Names.{within_plant, within_contractor}
use Rattle.register_name.proofs.name_of_either.Statement.{statement}
use Rattle.register_name.proofs.name_of_either.Tie as tie

pub name_of_either_spec : {M : Type 1} → statement M
name_of_either_spec =
    tie.close
    (tie.spec
    (λ c κs. tt)
    (λ c κs. search within_plant)
    (λ c. rw (← c.name_place_of_two-name.ensures, c.if-in_plant.true) c.part.ensures)
    (λ c κs. search within_contractor)
    (λ c. rw (← c.name_place_of_two-name.ensures, ne_eqb c.name_place_of_two-name.result.which 1 c.if-in_plant.false) c.part-2.ensures))
