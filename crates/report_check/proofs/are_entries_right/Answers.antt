use Rattle.std.proofs.Common.{arith}
use Rattle.report_check.proofs.Pass.{checked-none, checked-wrong, checked-adds, checked_more, checked-totals, checked-all}
use Rattle.report_check.proofs.are_entries_right.Goals as goal

pub loop-i-init : goal.loop-i-init
loop-i-init c = search checked-none

pub returns-then-wrong : goal.returns-then-wrong
returns-then-wrong c = search checked-wrong

pub add_figures-requires : goal.add_figures-requires
add_figures-requires c = search checked-adds

pub loop-i-preserved : goal.loop-i-preserved
loop-i-preserved c = search checked_more

pub are_totals_right-requires : goal.are_totals_right-requires
are_totals_right-requires c = (omega (arith, c.requires.0), search checked-totals)

pub returns : goal.returns
returns c = search checked-all
