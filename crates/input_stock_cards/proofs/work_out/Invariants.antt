use Rattle.input_stock_cards.proofs.Pass.{Working}
use Rattle.input_stock_cards.proofs.work_out.Given as goal

abbrev pub invariant-loop-i : goal.invariant-loop-i
invariant-loop-i l = Working l.cards l.initial.amounts l.amounts l.bits l.i
