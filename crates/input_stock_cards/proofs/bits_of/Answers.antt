use Rattle.std.proofs.Common.{refl}
use Rattle.input_stock_cards.proofs.Bits.{bits_tell}
use Rattle.input_stock_cards.proofs.bits_of.Goals as goal

pub returns : goal.returns
returns c = bits_tell _ _ refl
