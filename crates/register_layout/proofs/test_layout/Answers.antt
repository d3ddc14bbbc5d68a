use Rattle.std.proofs.Common.{sym, ◌∙◌}
use Rattle.basis.proofs.Answers.{asked, told, asked_behind, told_before}
use Rattle.meaning.specs.Register.{header_tests}
use Rattle.register_header.proofs.Headed.{headed}
use Rattle.register_layout.specs.Layout.{layout_tests}
use Rattle.register_layout.proofs.test_layout.Goals as goal

pub returns-in_err-refuse_if : goal.returns-in_err-refuse_if
unfolding layout_tests
returns-in_err-refuse_if c = told _ c.refuse_if.ensures c.in_err-refuse_if.was c.from_residual.ensures.1

pub returns-in_err-test_header : goal.returns-in_err-test_header
unfolding layout_tests
returns-in_err-test_header c =
    asked _ c.refuse_if.ensures c.in_ok-refuse_if.was
    (told_before (header_tests c.args.register.now) _ c.test_header.ensures c.in_err-test_header.was c.from_residual-in_err-test_header.ensures.1)

pub test_sources-requires : goal.test_sources-requires
test_sources-requires c = headed c.args.register.now (sym c.test_header.ensures ∙ c.in_ok-test_header.was)

pub returns : goal.returns
unfolding layout_tests
returns c =
    asked _ c.refuse_if.ensures c.in_ok-refuse_if.was
    (asked_behind (header_tests c.args.register.now) _ c.test_header.ensures c.in_ok-test_header.was c.test_sources.ensures)
