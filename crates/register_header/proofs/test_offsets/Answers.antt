use mathlib.Core.Path.{refl, sym, ◌∙◌}
use Rattle.basis.proofs.Answers.{asked, told, single_test}
use Rattle.meaning.specs.Register.{header_tests}
use Rattle.register_header.proofs.Offsets.{names_told}
use Rattle.register_header.proofs.test_offsets.Goals as goal

pub returns-in_err-test_field : goal.returns-in_err-test_field
unfolding header_tests
returns-in_err-test_field c = told _ (c.test_field.ensures ∙ rw c.number_at-sources_stated.ensures.is refl) c.in_err-test_field.was c.from_residual.ensures.1

pub returns-in_err-test_field-2 : goal.returns-in_err-test_field-2
unfolding header_tests
returns-in_err-test_field-2 c =
    asked _ (c.test_field.ensures ∙ rw c.number_at-sources_stated.ensures.is refl) c.in_ok-test_field.was
    (told _ (c.test_field-2.ensures ∙ rw (c.number_at-lines_stated.ensures.is, c.requires.sources) refl) c.in_err-test_field-2.was c.from_residual-in_err-test_field-2.ensures.1)

pub returns-in_err-test_field-3 : goal.returns-in_err-test_field-3
unfolding header_tests
returns-in_err-test_field-3 c =
    asked _ (c.test_field.ensures ∙ rw c.number_at-sources_stated.ensures.is refl) c.in_ok-test_field.was
    (asked _ (c.test_field-2.ensures ∙ rw (c.number_at-lines_stated.ensures.is, c.requires.sources) refl) c.in_ok-test_field-2.was
    (told _ (c.test_field-3.ensures ∙ names_told _ c.number_at-names_stated.ensures.is c.requires.sources c.requires.lines) c.in_err-test_field-3.was c.from_residual-in_err-test_field-3.ensures.1))

pub returns : goal.returns
unfolding header_tests
returns c =
    asked _ (c.test_field.ensures ∙ rw c.number_at-sources_stated.ensures.is refl) c.in_ok-test_field.was
    (asked _ (c.test_field-2.ensures ∙ rw (c.number_at-lines_stated.ensures.is, c.requires.sources) refl) c.in_ok-test_field-2.was
    (asked _ (c.test_field-3.ensures ∙ names_told _ c.number_at-names_stated.ensures.is c.requires.sources c.requires.lines) c.in_ok-test_field-3.was ((c.test_field-4.ensures ∙ rw (c.number_at-stated.ensures.is, c.requires.sources, c.requires.lines, c.requires.names) refl) ∙ sym (single_test _))))
