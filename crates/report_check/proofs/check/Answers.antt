use Rattle.report_check.proofs.Form.{report-judged}
use Rattle.report_check.proofs.check.Goals as goal

pub returns : goal.returns
returns c = report-judged c.args.report.now c.test_form.ensures c.and.ensures c.answer_of.ensures
