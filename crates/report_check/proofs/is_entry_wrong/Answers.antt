use Rattle.report_check.proofs.Rules.{front-wrong, front-right}
use Rattle.report_check.proofs.is_entry_wrong.Goals as goal

pub returns-then-not-wrong : goal.returns-then-not-wrong
returns-then-not-wrong c = search front-right

pub returns : goal.returns
returns c = search front-wrong
