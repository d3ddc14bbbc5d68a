use Rattle.report_check.proofs.Form.{readable}
use Rattle.report_text.proofs.Texts.{text_malformed}
use Rattle.report_text.proofs.text_or_refusal.Goals as goal

pub returns-in_err-test_form : goal.returns-in_err-test_form
returns-in_err-test_form c = text_malformed _ c.args.buffer.now _ c.test_form.ensures c.in_err-test_form.was c.from_residual.ensures.1

pub write_text-requires : goal.write_text-requires
write_text-requires c = readable c.args.report.now 1 c.test_form.ensures c.in_ok-test_form.was
