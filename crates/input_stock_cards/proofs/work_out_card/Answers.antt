use Rattle.std.proofs.Common.{refl, arith}
use Rattle.input_stock_cards.proofs.Entries.{card_worked}
use Rattle.input_stock_cards.proofs.work_out_card.Goals as goal

pub returns : goal.returns
returns c =
    card_worked c.args.card.now c.number_at-received.ensures c.number_at-dispatched.ensures c.number_at-opening.ensures c.number_at-closing.ensures
    refl
    refl
    (omega arith)
    (record { fits = omega arith })
    c.bits_of.ensures
    c.bits_of-2.ensures
    c.bits_of-3.ensures
    c.bits_of-4.ensures
    c.bits_of-5.ensures
