use Rattle.std.proofs.Common.{arith, rules}
use Rattle.calculation_judge.proofs.Pass.{begins-first, begins_next, end_fits, span_at, passing_none, passing_bad, passing_more, passing_all, figures_or}
use Rattle.calculation_judge.proofs.judge_sources.Goals as goal

pub loop-i-init : goal.loop-i-init
loop-i-init c = (passing_none _ _ c.requires.0, c.source_count-i-end.ensures, c.lines_at-base.ensures, begins-first _)

pub overflow_add-end : goal.overflow_add-end
overflow_add-end c = search (rules, end_fits)

pub judge_entry-requires : goal.judge_entry-requires
judge_entry-requires c = (c.requires.0, omega (arith, c.loop-i.invariant.1), search (rules, span_at))

pub returns-in_err-judged : goal.returns-in_err-judged
returns-in_err-judged c = passing_bad c.requires.0 c.loop-i.invariant.0 (omega (arith, c.loop-i.invariant.1)) c.in_err-judged.ensures c.from_residual.ensures.1

pub loop-i-preserved : goal.loop-i-preserved
loop-i-preserved c =
    let kept = rw (c.unwrap_or-figures.ensures, figures_or c.in_ok-judged.judged) at c.keep_figures.ensures in (
      passing_more c.requires.0 c.loop-i.invariant.0 (omega (arith, c.loop-i.invariant.1)) c.in_ok-judged.ensures kept c.waits-waiting.ensures,
      c.loop-i.invariant.1,
      c.loop-i.invariant.2,
      search (rules, begins_next),
    )

pub returns : goal.returns
returns c = passing_all c.requires.0 c.loop-i.invariant.0 (omega (arith, c.loop-i.invariant.1))
