use Rattle.report_check.proofs.Form.{header_judged}
use Rattle.report_check.proofs.is_header_right.Goals as goal

pub returns : goal.returns
returns c = search header_judged
