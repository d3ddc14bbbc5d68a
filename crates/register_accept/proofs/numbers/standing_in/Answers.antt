use Rattle.register_accept.proofs.numbers.Differing.{number-none, number_more, number_met, number-last}
use Rattle.register_accept.proofs.numbers.standing_in.Goals as goal

pub loop-i-init : goal.loop-i-init
loop-i-init c = number-none c.requires c.source_count-n.ensures

pub returns-in-Twice : goal.returns-in-Twice
returns-in-Twice c = number_met c.loop-i.invariant c.loop-i-test.true c.source_number-number.ensures c.in-Twice.ensures.0

pub loop-i-preserved : goal.loop-i-preserved
loop-i-preserved c = number_more c.loop-i.invariant c.loop-i-test.true c.source_number-number.ensures c.in-Once.ensures

pub returns : goal.returns
returns c = number-last c.loop-i.invariant c.loop-i-test.false
