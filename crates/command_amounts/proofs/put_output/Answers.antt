use Rattle.command_amounts.proofs.Saying.{amounts-within, amounts-part, output-made, output-refused}
use Rattle.command_amounts.proofs.put_output.Goals as goal

pub slice_bounds-put_amounts-end : goal.slice_bounds-put_amounts-end
slice_bounds-put_amounts-end c = amounts-within _ _ c.amounts-answer.ensures

pub slice_bounds-put_amounts-end-then-answer-eq0 : goal.slice_bounds-put_amounts-end-then-answer-eq0
slice_bounds-put_amounts-end-then-answer-eq0 c = amounts-part _ _ c.amounts-answer.ensures

pub returns-then-answer-eq0-clause-fronted : goal.returns-then-answer-eq0-clause-fronted
returns-then-answer-eq0-clause-fronted c = output-made _ _ c.amounts-answer.ensures c.if-answer-eq0.true c.put_amounts-length.ensures

pub returns-else-answer-eq0-clause-fronted : goal.returns-else-answer-eq0-clause-fronted
returns-else-answer-eq0-clause-fronted c = output-refused _ _ c.amounts-answer.ensures c.if-answer-eq0.false c.put_refusal-length.ensures
