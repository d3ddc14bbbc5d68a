use Rattle.basis.proofs.Answers.{asked_behind, told_before}
use Rattle.report_combine.specs.Tests.{form_tests, entry_tests}
use Rattle.report_combine.proofs.Answered.{both_readable}
use Rattle.report_combine.proofs.test_combination.Goals as goal

pub returns-in_err-test_forms : goal.returns-in_err-test_forms
unfolding form_tests entry_tests
returns-in_err-test_forms c = told_before (form_tests _ _) (entry_tests _ _) c.test_forms.ensures c.in_err-test_forms.was c.from_residual.ensures.1

pub test_entries-requires : goal.test_entries-requires
test_entries-requires c = both_readable _ _ c.test_forms.ensures c.in_ok-test_forms.was

pub returns : goal.returns
unfolding form_tests entry_tests
returns c = asked_behind (form_tests _ _) (entry_tests _ _) c.test_forms.ensures c.in_ok-test_forms.was c.test_entries.ensures
