use Rattle.input_stock_cards.proofs.Pass.{Putting}
use Rattle.input_stock_cards.proofs.put_amounts.Given as goal

abbrev pub invariant-loop-i : goal.invariant-loop-i
invariant-loop-i l = Putting l.worked l.initial.amounts l.amounts l.i
