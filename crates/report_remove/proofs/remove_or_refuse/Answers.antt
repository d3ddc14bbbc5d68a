use Rattle.report_check.proofs.Form.{readable}
use Rattle.report_remove.proofs.Answered.{removal_malformed}
use Rattle.report_remove.proofs.remove_or_refuse.Goals as goal

pub returns-in_err-test_form : goal.returns-in_err-test_form
returns-in_err-test_form c = removal_malformed c.args.report.now c.args.number c.args.res.now _ c.test_form.ensures c.in_err-test_form.was c.from_residual.ensures.1

pub remove_entry-requires : goal.remove_entry-requires
remove_entry-requires c = readable c.args.report.now 1 c.test_form.ensures c.in_ok-test_form.was
