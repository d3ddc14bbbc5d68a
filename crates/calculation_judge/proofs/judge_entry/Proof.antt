use borrow.Author.Rules.{rules}
use Rattle.calculation_judge.proofs.Judging.{states, lines-stand, comes_at}
use Rattle.calculation_judge.proofs.judge_entry.Statement.{statement}
use Rattle.calculation_judge.proofs.judge_entry.Tie as tie

pub judge_entry_spec : {M : Type 1} → statement M
judge_entry_spec =
    tie.close
    (tie.spec
    (search rules)
    (search rules)
    (λ c κs. search (lines-stand, states))
    (λ c. let h = c.requires in comes_at h.0 h.1 (states _ h.2 c.source_method-method.ensures c.source_parameter-parameter.ensures) c.judge_source.ensures))
