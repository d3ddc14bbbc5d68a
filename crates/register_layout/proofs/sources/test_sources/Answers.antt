use Rattle.std.proofs.Common.{◌∙◌}
use Rattle.basis.proofs.Answers.{nothing-wrong, something-wrong}
use Rattle.register_layout.proofs.sources.Passing.{passing_none, passing_wrong, passing_more, passing_all}
use Rattle.register_layout.proofs.sources.test_sources.Goals as goal

pub loop-i-init : goal.loop-i-init
loop-i-init c = search passing_none

pub is_wrong-requires-clause-starts_at : goal.is_wrong-requires-clause-starts_at
is_wrong-requires-clause-starts_at c = c.loop-i.invariant.begins

pub returns-in_err-refuse_if : goal.returns-in_err-refuse_if
returns-in_err-refuse_if c =
    let w = something-wrong _ _ _ c.refuse_if.ensures c.in_err-refuse_if.was c.from_residual.ensures.1 in
    w.1 ∙ passing_wrong c.loop-i.invariant c.loop-i-test.true c.is_wrong.ensures w.0

pub loop-i-preserved : goal.loop-i-preserved
loop-i-preserved c =
    passing_more c.loop-i.invariant c.loop-i-test.true c.is_wrong.ensures (nothing-wrong _ _ _ c.refuse_if.ensures c.in_ok-refuse_if.was) c.lines_end-line.ensures c.name_end-byte.ensures

pub returns : goal.returns
returns c = passing_all c.loop-i.invariant c.loop-i-test.false c.line_count-m.ensures c.name_byte_count-t.ensures c.refuse_if-2.ensures
