use Rattle.input_stock_cards.proofs.Answered.{some-wrong, worked_few, cards-refused, cards-written}
use Rattle.std.proofs.Common.{rules}
use Rattle.input_stock_cards.proofs.amounts_in.Goals as goal

pub refusal-requires : goal.refusal-requires
refusal-requires c = (c.requires.0, some-wrong c.args.cards.now c.requires.0 c.work_out-right.ensures c.if-not-right.true)

pub write_amounts-requires : goal.write_amounts-requires
write_amounts-requires c = search (rules, worked_few)

pub returns-then-not-right : goal.returns-then-not-right
returns-then-not-right c = cards-refused c.args.cards.now c.requires.0 c.work_out-right.ensures c.args.amounts.now c.refusal.ensures

pub returns : goal.returns
returns c = cards-written c.args.cards.now c.requires.0 c.work_out-right.ensures c.args.amounts.now c.if-not-right.false c.write_amounts.ensures
