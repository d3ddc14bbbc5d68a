use Rattle.report_combine.proofs.Answered.{combinable, combination-refused}
use Rattle.report_combine.proofs.combine_or_refuse.Goals as goal

pub returns-in_err-test_combination : goal.returns-in_err-test_combination
returns-in_err-test_combination c = combination-refused _ _ _ _ c.test_combination.ensures c.in_err-test_combination.was c.from_residual.ensures.1

pub combine_entries-requires : goal.combine_entries-requires
combine_entries-requires c = combinable _ _ c.test_combination.ensures c.in_ok-test_combination.was
