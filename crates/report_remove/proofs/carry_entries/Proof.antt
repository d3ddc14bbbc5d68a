use native.Mathlib.Omega.{arith}
use borrow.Author.Rules.{rules}
use Rattle.basis.specs.Bytes.{Bytes}
use Rattle.report_remove.proofs.Others.{entries_carried}
use Rattle.report_remove.proofs.carry_entries.Statement.{statement}
use Rattle.report_remove.proofs.carry_entries.Tie as tie

pub carry_entries_spec : {M : Type 1} → statement M
carry_entries_spec =
    tie.close
    (tie.spec
    (λ c. search rules)
    (λ c. search rules)
    (λ c. search rules)
    (λ c. search rules)
    (λ c. search rules)
    (λ c. search rules)
    (λ c. search rules)
    (λ c κs. search rules)
    (λ c. search rules)
    (λ c.
    let known = c.before.before.before.before.before.before in
    let bytes : Bytes known.before.args.from.now = λ k. omega (arith, known.shared_slice_known-1.given k) in
    search entries_carried))
