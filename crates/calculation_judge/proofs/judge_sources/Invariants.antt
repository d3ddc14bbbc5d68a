use Rattle.std.proofs.Common.{◌≡◌}
use Rattle.meaning.specs.Register.{lines_at, source_count, line_start}
use Rattle.calculation_judge.proofs.Pass.{Passing}
use Rattle.calculation_judge.proofs.judge_sources.Given as goal

abbrev pub invariant-loop-i : goal.invariant-loop-i
invariant-loop-i l = Passing l.register l.initial.kept l.waiting l.kept l.i × (l.i-end ≡ source_count l.register) × (l.base ≡ lines_at (source_count l.register)) × (l.first ≡ line_start l.register l.i)
