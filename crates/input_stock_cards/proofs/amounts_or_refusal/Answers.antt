use Rattle.input_stock_cards.proofs.Answered.{length_whole, length-refused}
use Rattle.input_stock_cards.proofs.amounts_or_refusal.Goals as goal

pub returns-in_err-test_length : goal.returns-in_err-test_length
returns-in_err-test_length c = length-refused c.args.cards.now c.test_length.ensures c.args.amounts.now _ c.in_err-test_length.was c.from_residual.ensures.1

pub amounts_by_count-requires : goal.amounts_by_count-requires
amounts_by_count-requires c = length_whole c.args.cards.now c.test_length.ensures c.in_ok-test_length.was
