use borrow.Author.Rules.{rules}
use Rattle.report_text.proofs.Texts.{figures-second, figures-first, figures_put}
use Rattle.report_text.proofs.put_figure_fields.Statement.{statement}
use Rattle.report_text.proofs.put_figure_fields.Tie as tie

pub put_figure_fields_spec : {M : Type 1} → statement M
put_figure_fields_spec =
    tie.close
    (tie.spec
    (λ c κs. search rules)
    (λ c. search rules)
    (λ c κs. search rules)
    (λ c. search rules)
    (λ c. search rules)
    (λ c κs. search rules)
    (λ c. search rules)
    (λ c. search rules)
    (λ c κs. search rules)
    (λ c κs. search (rules, figures-second))
    (λ c κs. search (rules, figures-first))
    (λ c. search rules)
    (λ c. search figures_put))
