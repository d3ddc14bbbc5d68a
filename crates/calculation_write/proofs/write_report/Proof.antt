use borrow.Author.Rules.{rules}
use Rattle.calculation_write.proofs.Entries.{report_put, reporting}
use Rattle.calculation_write.proofs.write_report.Statement.{statement}
use Rattle.calculation_write.proofs.write_report.Tie as tie

pub write_report_spec : {M : Type 1} → statement M
write_report_spec =
    tie.close
    (tie.spec
    (λ c κs. search reporting)
    (λ c κs. search reporting)
    (λ c κs. search reporting)
    (search rules)
    (λ c κs. search reporting)
    (λ c κs. search reporting)
    (search rules)
    (λ c. search report_put))
