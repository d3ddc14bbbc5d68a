use borrow.Author.Rules.{rules}
use Rattle.calculation_write.proofs.Entries.{entry_put, entering}
use Rattle.calculation_write.proofs.put_source.Statement.{statement}
use Rattle.calculation_write.proofs.put_source.Tie as tie

pub put_source_spec : {M : Type 1} → statement M
put_source_spec =
    tie.close
    (tie.spec
    (search rules)
    (λ c. search entering)
    (λ c κs. search entering)
    (search rules)
    (search rules)
    (search rules)
    (search rules)
    (search rules)
    (search rules)
    (search rules)
    (λ c. search entering)
    (search rules)
    (search rules)
    (λ c. search entry_put))
