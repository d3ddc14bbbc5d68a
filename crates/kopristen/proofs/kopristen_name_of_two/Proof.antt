use Rattle.kopristen.proofs.kopristen_name_of_two.Statement.{statement}
use Rattle.kopristen.proofs.kopristen_name_of_two.Tie as tie

pub kopristen_name_of_two_spec : {M : Type 1} → statement M
kopristen_name_of_two_spec =
    tie.close
    (tie.spec
    (λ c κs. tt)
    (λ c. search))
