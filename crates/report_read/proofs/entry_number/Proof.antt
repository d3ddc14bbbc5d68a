use borrow.Author.Rules.{rules}
use Rattle.report_read.proofs.Entries.{number_read}
use Rattle.report_read.proofs.entry_number.Statement.{statement}
use Rattle.report_read.proofs.entry_number.Tie as tie

pub entry_number_spec : {M : Type 1} → statement M
entry_number_spec =
    tie.close
    (tie.spec
    (search rules)
    (search rules)
    (search rules)
    (λ c. search number_read))
