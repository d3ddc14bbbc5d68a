use Rattle.std.proofs.Common.{drop}
use Rattle.meaning.specs.Masses.{warming}
use Rattle.mass_exact.proofs.Equivalents.{Weighing}
use Rattle.mass_exact.proofs.equivalent.Given as goal

abbrev pub invariant-loop-gas : goal.invariant-loop-gas
invariant-loop-gas l = Weighing l.fn.masses l.sum (drop l.gas l.fn.masses) (drop l.gas warming)
