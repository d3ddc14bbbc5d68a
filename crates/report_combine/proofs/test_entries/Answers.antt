use Rattle.std.proofs.Common.{sym, refl, ◌∙◌}
use Rattle.basis.proofs.Answers.{asked, told, single_test}
use Rattle.report_combine.specs.Tests.{entry_tests}
use Rattle.report_combine.proofs.Answered.{shared_told}
use Rattle.report_combine.proofs.test_entries.Goals as goal

pub returns-in_err-refuse_if : goal.returns-in_err-refuse_if
unfolding entry_tests
returns-in_err-refuse_if c = told _ (c.refuse_if.ensures ∙ rw (c.year_of.ensures, c.year_of-2.ensures) refl) c.in_err-refuse_if.was c.from_residual.ensures.1

pub returns-in_err-refuse_if-2 : goal.returns-in_err-refuse_if-2
unfolding entry_tests
returns-in_err-refuse_if-2 c =
    asked _ (c.refuse_if.ensures ∙ rw (c.year_of.ensures, c.year_of-2.ensures) refl) c.in_ok-refuse_if.was
    (told _ (c.refuse_if-2.ensures ∙ shared_told _ _ _ c.shared_number-shared.ensures c.is_some-stands.ensures c.unwrap_or-place.ensures) c.in_err-refuse_if-2.was c.from_residual-in_err-refuse_if-2.ensures.1)

pub returns : goal.returns
unfolding entry_tests
returns c =
    asked _ (c.refuse_if.ensures ∙ rw (c.year_of.ensures, c.year_of-2.ensures) refl) c.in_ok-refuse_if.was
    (asked _ (c.refuse_if-2.ensures ∙ shared_told _ _ _ c.shared_number-shared.ensures c.is_some-stands.ensures c.unwrap_or-place.ensures) c.in_ok-refuse_if-2.was
    (c.refuse_if-3.ensures ∙ rw (c.entry_count.ensures, c.entry_count-2.ensures) (sym (single_test _))))
