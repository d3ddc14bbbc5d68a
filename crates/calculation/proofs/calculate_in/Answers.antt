use Rattle.std.proofs.Common.{rules}
use Rattle.calculation.proofs.Calculating.{keyed, register-refused}
use Rattle.calculation.proofs.calculate_in.Goals as goal

pub returns-in_err-test_register : goal.returns-in_err-test_register
returns-in_err-test_register c = register-refused _ c.test_register.ensures c.in_err-test_register.was c.from_residual.ensures.1

pub judge_and_write-requires : goal.judge_and_write-requires
judge_and_write-requires c = keyed c.test_register.ensures c.in_ok-test_register.was (search rules)
