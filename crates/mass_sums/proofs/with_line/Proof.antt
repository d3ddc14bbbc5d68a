use native.Mathlib.Omega.{arith}
use borrow.Author.Rules.{rules}
use Rattle.line_term.proofs.Laws.{term_ranges}
use Rattle.mass_sums.proofs.Laws.{third-gas, taking-counts, adding-counts}
use Rattle.mass_sums.proofs.with_line.Statement.{statement}
use Rattle.mass_sums.proofs.with_line.Tie as tie

pub with_line_spec : {M : Type 1} → statement M
with_line_spec =
    tie.close
    (tie.spec
    (λ c κs. search rules)
    (λ c κs. search (rules, term_ranges))
    (λ c κs. search (rules, term_ranges))
    (λ c. search taking-counts)
    (search rules)
    (λ c κs. (c.requires.0.added 0 (omega arith), search (rules, term_ranges)))
    (search rules)
    (search rules)
    (λ c κs. (c.requires.0.added 1 (omega arith), search (rules, term_ranges)))
    (search rules)
    (search rules)
    (λ c κs. (c.requires.0.added 2 (omega arith), search (rules, term_ranges)))
    (search rules)
    (λ c. search adding-counts)
    (λ c. search adding-counts)
    (λ c. search (adding-counts, third-gas, term_ranges)))
