use Rattle.report_check.proofs.Form.{front-judged}
use Rattle.report_check.proofs.is_front_right.Goals as goal

pub returns : goal.returns
returns c = front-judged c.args.report.now c.requires c.starts_with-tagged.ensures c.number_at-layout.ensures c.number_at-year.ensures
