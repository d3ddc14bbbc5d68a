use Rattle.std.proofs.Common.{rules}
use Rattle.input_stock_cards.proofs.test_length.Statement.{statement}
use Rattle.input_stock_cards.proofs.test_length.Tie as tie

pub test_length_spec : {M : Type 1} → statement M
test_length_spec = tie.close (tie.spec (λ c κs. search rules) (λ c. search rules))
