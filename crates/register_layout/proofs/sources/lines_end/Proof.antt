use native.Mathlib.Omega.{arith}
use Rattle.register_layout.proofs.sources.Entries.{line-end}
use Rattle.register_layout.proofs.sources.lines_end.Statement.{statement}
use Rattle.register_layout.proofs.sources.lines_end.Tie as tie

pub lines_end_spec : {M : Type 1} → statement M
lines_end_spec =
    tie.close
    (tie.spec
    (omega arith)
    (omega arith)
    (omega arith)
    (λ c. search line-end))
