use borrow.Author.Rules.{rules}
use borrow.Author.Tests.{ne_eqb}
use Rattle.meaning.specs.Methods.{by_method}
use Rattle.line_kind.proofs.decode_by_method.Statement.{statement}
use Rattle.line_kind.proofs.decode_by_method.Tie as tie

pub decode_by_method_spec : {M : Type 1} → statement M
unfolding by_method
decode_by_method_spec =
    tie.close
    (tie.spec
    (search rules)
    (search rules)
    (search rules)
    (search rules)
    (search rules)
    (search rules)
    (λ c. (rw c.before.in-1.is c.decode_fuel.ensures.0, c.decode_fuel.ensures.1))
    (λ c. (rw c.before.in-2.is c.decode_flare.ensures.0, c.decode_flare.ensures.1))
    (λ c. (rw c.before.in-3.is c.decode_metals.ensures.0, c.decode_metals.ensures.1))
    (λ c. (rw c.before.in-4.is c.decode_petrochemical.ensures.0, c.decode_petrochemical.ensures.1))
    (λ c. (rw c.before.in-5.is c.decode_cement.ensures.0, c.decode_cement.ensures.1))
    (λ c. (rw c.before.in-6.is c.decode_nitric_acid.ensures.0, c.decode_nitric_acid.ensures.1))
    (λ c. let m = c.before.args.method in let r = c.in_default.in_default-own.rest in (rw (ne_eqb m 1 r.0.0.0.0.0.1, ne_eqb m 2 r.0.0.0.0.1, ne_eqb m 3 r.0.0.0.1, ne_eqb m 4 r.0.0.1, ne_eqb m 5 r.0.1, ne_eqb m 6 r.1), search rules)))
