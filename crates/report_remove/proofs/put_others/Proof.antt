use borrow.Author.Rules.{rules}
use Rattle.report_write.proofs.Rows.{report-written}
use Rattle.report_remove.proofs.put_others.Statement.{statement}
use Rattle.report_remove.proofs.put_others.Tie as tie

pub put_others_spec : {M : Type 1} → statement M
put_others_spec =
    tie.close
    (tie.spec
    (λ c κs. search rules)
    (λ c κs. search rules)
    (λ c. search rules)
    (λ c. search report-written))
