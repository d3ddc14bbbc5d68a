use borrow.Author.Rules.{rules}
use Rattle.report_remove.proofs.Parted.{others_held, others_taken}
use Rattle.report_remove.proofs.other_totals.Statement.{statement}
use Rattle.report_remove.proofs.other_totals.Tie as tie

pub other_totals_spec : {M : Type 1} → statement M
other_totals_spec =
    tie.close
    (tie.spec
    (λ c. search rules)
    (λ c κs. search rules)
    (λ c. search rules)
    (λ c. search rules)
    (λ c. search rules)
    (λ c. search rules)
    (λ c κs. search (rules, others_held))
    (λ c. search others_taken))
