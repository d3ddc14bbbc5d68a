use borrow.Author.Rules.{rules}
use Rattle.report_text.proofs.Texts.{lines-room, totals-room, front-room, text-written}
use Rattle.report_text.proofs.put_text.Statement.{statement}
use Rattle.report_text.proofs.put_text.Tie as tie

pub put_text_spec : {M : Type 1} → statement M
put_text_spec =
    tie.close
    (tie.spec
    (λ c κs. (search rules, search (rules, lines-room)))
    (λ c κs. (search rules, search (rules, totals-room)))
    (λ c κs. (search rules, front-room _ _ _ c.before.before.before.before.before.before.before.before.before.before.before.requires c.before.before.before.before.before.before.before.put_lines-p.ensures c.before.before.before.put_figure_fields.ensures))
    (search rules)
    (λ c. text-written _ _ _ c.before.before.before.before.before.before.before.before.before.before.before.before.before.before.requires c.before.before.before.before.before.before.before.before.before.before.put_lines-p.ensures c.before.before.before.before.before.before.put_figure_fields.ensures c.before.before.put_front.ensures))
