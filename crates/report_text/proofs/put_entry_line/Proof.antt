use borrow.Author.Rules.{rules}
use Rattle.report_text.proofs.Texts.{entry-figures, entry-pair, entry_put}
use Rattle.report_text.proofs.put_entry_line.Statement.{statement}
use Rattle.report_text.proofs.put_entry_line.Tie as tie

pub put_entry_line_spec : {M : Type 1} → statement M
put_entry_line_spec =
    tie.close
    (tie.spec
    (λ c. search rules)
    (λ c. search rules)
    (λ c κs. search rules)
    (λ c. search rules)
    (λ c κs. search rules)
    (λ c. search rules)
    (λ c κs. (search rules, search (rules, entry-figures)))
    (λ c κs. search (rules, entry-pair))
    (λ c. search rules)
    (λ c. search entry_put))
