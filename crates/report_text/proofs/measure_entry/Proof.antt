use borrow.Author.Rules.{rules}
use Rattle.report_text.proofs.Rows.{rowing}
use Rattle.report_text.proofs.measure_entry.Statement.{statement}
use Rattle.report_text.proofs.measure_entry.Tie as tie

pub measure_entry_spec : {M : Type 1} → statement M
measure_entry_spec =
    tie.close
    (tie.spec
    (λ c κs. search rules)
    (λ c κs. search rules)
    (λ c. search rules)
    (λ c. search rules)
    (λ c. search rules)
    (λ c κs. search rules)
    (λ c. search rules)
    (λ c. search rowing)
    (λ c. search rowing))
