use Rattle.command_answer.proofs.Saying.{text-made, text-refused}
use Rattle.command_answer.proofs.put_text_or_refusal.Goals as goal

pub returns-then-answer-eq0 : goal.returns-then-answer-eq0
returns-then-answer-eq0 c = text-made _ _ c.text-answer.ensures c.if-answer-eq0.true

pub returns-else-answer-eq0 : goal.returns-else-answer-eq0
returns-else-answer-eq0 c = text-refused _ _ c.text-answer.ensures c.if-answer-eq0.false c.put_refusal.ensures
