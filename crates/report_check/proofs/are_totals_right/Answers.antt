use Rattle.report_check.proofs.Pass.{compared_none, comparing}
use Rattle.report_check.proofs.are_totals_right.Goals as goal

pub loop-figure-init : goal.loop-figure-init
loop-figure-init c = search compared_none

pub returns-then-wrong : goal.returns-then-wrong
returns-then-wrong c = search comparing

pub loop-figure-preserved : goal.loop-figure-preserved
loop-figure-preserved c = search comparing

pub returns : goal.returns
returns c = search comparing
