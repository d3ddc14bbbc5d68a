use Rattle.input_stock_cards.proofs.Pass.{putting_none, putting_more, putting_all}
use Rattle.input_stock_cards.proofs.put_amounts.Goals as goal

pub loop-i-init : goal.loop-i-init
loop-i-init c = putting_none _ _ c.requires

pub loop-i-preserved : goal.loop-i-preserved
loop-i-preserved c = putting_more c.loop-i.invariant c.loop-i-test.true c.put_number.ensures

pub returns : goal.returns
returns c = putting_all c.loop-i.invariant c.loop-i-test.false
