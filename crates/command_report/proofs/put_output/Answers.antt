use Rattle.command_report.proofs.Saying.{report-within, report-part, output-made, output-refused}
use Rattle.command_report.proofs.put_output.Goals as goal

pub slice_bounds-report-end : goal.slice_bounds-report-end
slice_bounds-report-end c = report-within _ c.calculate-answer.ensures

pub slice_bounds-put_text_or_refusal-end : goal.slice_bounds-put_text_or_refusal-end
slice_bounds-put_text_or_refusal-end c = report-part _ c.calculate-answer.ensures

pub returns-then-answer-eq0 : goal.returns-then-answer-eq0
returns-then-answer-eq0 c = output-made _ c.calculate-answer.ensures c.if-answer-eq0.true c.put_text_or_refusal.ensures

pub returns-else-answer-eq0 : goal.returns-else-answer-eq0
returns-else-answer-eq0 c = output-refused _ c.calculate-answer.ensures c.if-answer-eq0.false c.put_refusal.ensures
