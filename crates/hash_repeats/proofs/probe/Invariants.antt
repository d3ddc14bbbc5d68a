use Rattle.hash_repeats.proofs.Slots.{Probing}
use Rattle.hash_repeats.proofs.probe.Given as goal

abbrev pub invariant-loop-at : goal.invariant-loop-at
invariant-loop-at l = Probing l.slots l.number l.home l.at
