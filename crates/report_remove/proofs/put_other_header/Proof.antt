use borrow.Author.Rules.{rules}
use Rattle.report_remove.proofs.Others.{other_header}
use Rattle.report_remove.proofs.put_other_header.Statement.{statement}
use Rattle.report_remove.proofs.put_other_header.Tie as tie

pub put_other_header_spec : {M : Type 1} → statement M
put_other_header_spec =
    tie.close
    (tie.spec
    (λ c κs. search rules)
    (λ c κs. search rules)
    (λ c κs. search rules)
    (λ c. search rules)
    (λ c. search rules)
    (λ c κs. search rules)
    (λ c. search rules)
    (λ c. search other_header))
