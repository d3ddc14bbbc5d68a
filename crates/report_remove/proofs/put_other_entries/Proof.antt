use borrow.Author.Rules.{rules}
use Rattle.report_remove.proofs.Others.{others_written}
use Rattle.report_remove.proofs.put_other_entries.Statement.{statement}
use Rattle.report_remove.proofs.put_other_entries.Tie as tie

pub put_other_entries_spec : {M : Type 1} → statement M
put_other_entries_spec =
    tie.close
    (tie.spec
    (λ c κs. search rules)
    (λ c. search rules)
    (λ c. search rules)
    (λ c κs. search rules)
    (λ c. search rules)
    (λ c. search rules)
    (λ c. search rules)
    (λ c κs. search rules)
    (λ c. search rules)
    (λ c. search others_written))
