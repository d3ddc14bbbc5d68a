use Rattle.std.proofs.Common.{◌≡◌}
use Rattle.calculation_write.specs.Ready.{totals_of}
use Rattle.calculation_write.proofs.totals_of.Given as goal

abbrev pub invariant-loop-i : goal.invariant-loop-i
invariant-loop-i l = l.totals ≡ totals_of l.figures l.i
