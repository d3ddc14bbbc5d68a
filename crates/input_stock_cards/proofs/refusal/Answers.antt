use Rattle.std.proofs.Common.{sym, le_refl}
use Rattle.input_stock_cards.proofs.Answered.{entry-refused, amount-refused}
use Rattle.input_stock_cards.proofs.refusal.Goals as goal

pub returns-in-Some : goal.returns-in-Some
returns-in-Some c = entry-refused _ c.requires.0 c.in-Some.ensures.1 c.in-Some.ensures.0

pub returns : goal.returns
returns c = let place = rw c.unwrap.ensures at c.first_wrong_card.ensures in amount-refused _ c.requires.0 (sym c.in_default.ensures) (le_refl _) place.1 c.requires.1
