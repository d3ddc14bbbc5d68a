use Rattle.input_stock_cards.proofs.Pass.{wrong-told}
use Rattle.input_stock_cards.proofs.is_card_wrong.Goals as goal

pub returns : goal.returns
returns c = wrong-told c.work_out_card.ensures
