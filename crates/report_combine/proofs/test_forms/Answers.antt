use Rattle.std.proofs.Common.{sym, ◌∙◌}
use Rattle.basis.proofs.Answers.{asked, told, single_test}
use Rattle.report_combine.specs.Tests.{form_tests}
use Rattle.report_combine.proofs.test_forms.Goals as goal

pub returns-in_err-test_form : goal.returns-in_err-test_form
unfolding form_tests
returns-in_err-test_form c = told _ c.test_form.ensures c.in_err-test_form.was c.from_residual.ensures.1

pub returns : goal.returns
unfolding form_tests
returns c = asked _ c.test_form.ensures c.in_ok-test_form.was (c.test_form-2.ensures ∙ sym (single_test _))
