use Rattle.std.proofs.Common.{◌-◌, ◌*◌, length, refl, arith}
use Rattle.meaning.specs.Cards.{card_length}
use Rattle.input_stock_cards.proofs.Parts.{cut-card}
use Rattle.input_stock_cards.proofs.Pass.{working-none, worked-there, working_more, working-all}
use Rattle.input_stock_cards.proofs.work_out.Goals as goal

pub loop-i-init : goal.loop-i-init
loop-i-init c = working-none _ _

pub loop-i-preserved : goal.loop-i-preserved
loop-i-preserved c =
    let b = c.args.cards.now in
    let i = c.loop-i.i in
    let card = cut-card b i (card_length * i) (length b - card_length * i) refl (omega (arith, c.loop-i-test.true)) (omega (arith, c.loop-i-test.true)) in
    working_more c.loop-i.invariant c.loop-i-test.true c.requires (worked-there c.work_out_card-worked.ensures card)

pub returns : goal.returns
returns c = working-all c.loop-i.invariant c.loop-i-test.false
