use mathlib.Core.Path.{refl, ◌∙◌}
use Rattle.basis.proofs.Answers.{asked, told}
use Rattle.meaning.specs.Register.{header_tests}
use Rattle.register_header.proofs.test_counts.Goals as goal

pub returns-in_err-test_field : goal.returns-in_err-test_field
unfolding header_tests
returns-in_err-test_field c = told _ (c.test_field.ensures ∙ rw c.source_count-n.ensures refl) c.in_err-test_field.was c.from_residual.ensures.1

pub returns-in_err-test_field-2 : goal.returns-in_err-test_field-2
unfolding header_tests
returns-in_err-test_field-2 c =
    asked _ (c.test_field.ensures ∙ rw c.source_count-n.ensures refl) c.in_ok-test_field.was
    (told _ (c.test_field-2.ensures ∙ rw c.line_count-m.ensures refl) c.in_err-test_field-2.was c.from_residual-in_err-test_field-2.ensures.1)

pub returns-in_err-test_field-3 : goal.returns-in_err-test_field-3
unfolding header_tests
returns-in_err-test_field-3 c =
    asked _ (c.test_field.ensures ∙ rw c.source_count-n.ensures refl) c.in_ok-test_field.was
    (asked _ (c.test_field-2.ensures ∙ rw c.line_count-m.ensures refl) c.in_ok-test_field-2.was
    (told _ (c.test_field-3.ensures ∙ rw c.name_byte_count-t.ensures refl) c.in_err-test_field-3.was c.from_residual-in_err-test_field-3.ensures.1))

pub returns : goal.returns
unfolding header_tests
returns c =
    asked _ (c.test_field.ensures ∙ rw c.source_count-n.ensures refl) c.in_ok-test_field.was
    (asked _ (c.test_field-2.ensures ∙ rw c.line_count-m.ensures refl) c.in_ok-test_field-2.was
    (asked _ (c.test_field-3.ensures ∙ rw c.name_byte_count-t.ensures refl) c.in_ok-test_field-3.was c.test_offsets.ensures))
