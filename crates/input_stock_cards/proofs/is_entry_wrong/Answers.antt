use Rattle.input_stock_cards.proofs.Entries.{entries-judged}
use Rattle.input_stock_cards.proofs.is_entry_wrong.Goals as goal

pub returns : goal.returns
returns c = entries-judged c.args.card.now c.number_at-received.ensures c.number_at-dispatched.ensures c.number_at-opening.ensures c.number_at-closing.ensures
