use borrow.Author.Rules.{rules}
use Rattle.mass_sums.proofs.Laws.{line_read}
use Rattle.mass_sums.proofs.line_at.Statement.{statement}
use Rattle.mass_sums.proofs.line_at.Tie as tie

pub line_at_spec : {M : Type 1} → statement M
line_at_spec =
    tie.close
    (tie.spec
    (search rules)
    (search rules)
    (search rules)
    (search rules)
    (search rules)
    (search rules)
    (search rules)
    (search rules)
    (search rules)
    (search rules)
    (search rules)
    (λ c. search line_read))
