use Rattle.mass_sums.proofs.Reading.{Summed}
use Rattle.mass_sums.proofs.read_lines.Given as goal

abbrev pub invariant-loop-at : goal.invariant-loop-at
invariant-loop-at l = Summed l.register l.method l.parameter l.first l.end l.sums l.at
