use Rattle.std.proofs.Common.{length}
use Rattle.meaning.specs.Cards.{amount_length}
use Rattle.input_stock_cards.proofs.Parts.{Parted}
use Rattle.command_answer.proofs.Amounts.{Lined}
use Rattle.command_answer.proofs.put_amounts.Given as goal

abbrev pub invariant-loop-amount : goal.invariant-loop-amount
invariant-loop-amount l =
    record {
      can : (goal.iterator-loop-amount).can_next l.amount-iterator;
      finite : (goal.iterator-loop-amount).is_finite l.amount-iterator;
      parted : Parted amount_length l.amounts l.amount-iterator (length l.yielded);
      lined : Lined l.amounts l.initial.output l.output l.at (length l.yielded);
    }
