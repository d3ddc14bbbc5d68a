use borrow.Author.Rules.{rules}
use Rattle.report_check.proofs.Form.{form_judged}
use Rattle.report_check.proofs.test_form.Statement.{statement}
use Rattle.report_check.proofs.test_form.Tie as tie

pub test_form_spec : {M : Type 1} → statement M
test_form_spec = tie.close (tie.spec (search rules) (search rules) (λ c. search form_judged))
