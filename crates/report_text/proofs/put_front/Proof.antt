use borrow.Author.Rules.{rules}
use Rattle.report_text.proofs.Texts.{year-room, count_room, front-written}
use Rattle.report_text.proofs.put_front.Statement.{statement}
use Rattle.report_text.proofs.put_front.Tie as tie

pub put_front_spec : {M : Type 1} → statement M
put_front_spec =
    tie.close
    (tie.spec
    (λ c κs. search rules)
    (λ c κs. search rules)
    (λ c κs. search (rules, year-room))
    (λ c κs. search (rules, count_room))
    (λ c. search rules)
    (λ c. search front-written))
