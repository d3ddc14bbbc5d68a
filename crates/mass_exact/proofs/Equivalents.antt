-- The equivalent gas by gas, and its limit exactly. Assumes nothing.
use mathlib.Core.Bool.{Bool, true, false, cond}
use mathlib.Core.List.{List, [], ◌∷◌}
use mathlib.Core.Logic.{◌↔◌, ◌⊎◌, ⊎_elim}
use mathlib.Core.Path.{◌≡◌, refl, sym, ap, ◌∙◌}
use Rattle.std.specs.Prelude.{Some, None}
use Rattle.std.specs.Bool.{then_some}
use Prim.Native.Nat.{ℕ, ◌+◌, ◌*◌, ◌≤◌, ◌<◌}
use native.Mathlib.Nat.{le_trans, mul-le-mul_left, mul-le-mul_right}
use native.Mathlib.Omega.{arith}
use borrow.Author.Tests.{leb-true, leb-false, le-leb, lt-leb}
use Rattle.std.proofs.lemmas.Option.{cond_some, none-some}
use lib.Dec.{leb}
use lib.ListN.{length, get_or, drop}
use lib.Seq.{drop-cons}
use native.Mathlib.Numerals.{add-one}
use mir.Syntax.{w64}
use mir.Val.{Fits}
use Rattle.basis.specs.Lists.{Each}
use Rattle.meaning.specs.Masses.{warming, gas_count, weighed, equivalent, limit}
use Rattle.mass_exact.specs.Equivalents.{within_limit}

pub within-limit : (ms : List ℕ) → equivalent ms ≤ limit → within_limit ms ≡ Some (equivalent ms)
unfolding within_limit
within-limit ms h = rw (le-leb (equivalent ms) limit h)

pub above-limit : (ms : List ℕ) → limit < equivalent ms → within_limit ms ≡ None
unfolding within_limit
above-limit ms h = rw (lt-leb (equivalent ms) limit h)

-- `Some` only where the equivalent is at most the limit, and then it is the equivalent
pub some-within : (ms : List ℕ) {e : ℕ} → within_limit ms ≡ Some e → (e ≤ limit) × (e ≡ equivalent ms)
unfolding within_limit
some-within ms h = let s = cond_some (leb (equivalent ms) limit) _ _ h in (rw s.1 at (leb-true (equivalent ms) limit s.0), sym s.1)

-- `Some` exactly there
pub within-exactly : (ms : List ℕ) (e : ℕ) → within_limit ms ≡ Some e ↔ ((equivalent ms ≤ limit) × (e ≡ equivalent ms))
within-exactly ms e = (λ h. let s = some-within ms h in (omega (arith, s.0, s.1), s.1), λ h. within-limit ms h.0 ∙ ap Some (sym h.1))

-- `None` only where it is above the limit
pub none-above : (ms : List ℕ) → within_limit ms ≡ None → limit < equivalent ms
unfolding within_limit
none-above ms = by (leb (equivalent ms) limit) refl
  where
    by : (b : Bool) → leb (equivalent ms) limit ≡ b → cond b (Some (equivalent ms)) None ≡ None → limit < equivalent ms
    by true t p = absurd (none-some _ (sym p))
    by false t p = leb-false (equivalent ms) limit t

-- `None` exactly there
pub above-exactly : (ms : List ℕ) → within_limit ms ≡ None ↔ limit < equivalent ms
above-exactly ms = (none-above ms, above-limit ms)

-- no gas weighs more than N2O, and none less than CO2
abbrev heaviest : ℕ
heaviest = 298

-- what is left to weigh, each mass by its weight
pub record Weighing (ms : List ℕ) (sum : ℕ) (left weights : List ℕ) : Type 0 where
  pub light : Each (λ w. (0 < w) × (w ≤ heaviest)) weights
  pub sum_fits : sum + heaviest * limit * length weights ≤ heaviest * limit * gas_count
  pub rest : sum + weighed weights left ≡ equivalent ms

weighed-nothing : (weights left : List ℕ) → (length left ≡ 0) ⊎ (length weights ≡ 0) → weighed weights left ≡ 0
unfolding weighed
weighed-nothing [] left end = refl
weighed-nothing (w ∷ weights) [] end = refl
weighed-nothing (w ∷ weights) (m ∷ left) end = ⊎_elim (λ h. absurd (omega arith)) (λ h. absurd (omega arith)) end

pub weighing_first : (ms : List ℕ) → Weighing ms 0 ms warming
unfolding equivalent
weighing_first ms = record { light = omega arith; sum_fits = omega arith; rest = omega arith }

-- the mass of a gas and its weight come first of what is left
pub weighed-now : (xs : List ℕ) (gas : ℕ) → gas < length xs → drop gas xs ≡ get_or xs gas 0 ∷ drop (gas + 1) xs
weighed-now xs gas h = drop-cons xs gas 0 h ∙ ap (λ (k : ℕ). get_or xs gas 0 ∷ drop k xs) (sym (add-one gas))

module _ {ms : List ℕ} {sum : ℕ} {left weights : List ℕ} (l : Weighing ms sum left weights) where
  module _ {mass weight : ℕ} {left' weights' : List ℕ} (next : (left ≡ mass ∷ left') × (weights ≡ weight ∷ weights')) where
    here : Weighing ms sum (mass ∷ left') (weight ∷ weights')
    here = rw (next.0, next.1) at l

    -- a mass that the limit holds
    weighing_holds : mass ≤ limit → weight * mass ≤ heaviest * limit
    weighing_holds h = le_trans (mul-le-mul_right mass here.light.0.1) (mul-le-mul_left heaviest h)

    pub weighing_fits : mass ≤ limit → Fits w64 (sum + weight * mass)
    weighing_fits h = record { fits = omega (arith, weighing_holds h, here.sum_fits) }

    pub weighing_next : mass ≤ limit → Weighing ms (sum + weight * mass) left' weights'
    unfolding weighed
    weighing_next h = record { light = here.light.1; sum_fits = omega (arith, weighing_holds h, here.sum_fits); rest = omega (arith, here.rest) }

    -- a mass that it does not hold passes it
    pub weighing_none : limit < mass → None ≡ within_limit ms
    unfolding weighed
    weighing_none h = sym (above-limit ms (omega (arith, here.rest, mul-le-mul_right mass here.light.0.0)))

  -- where masses or weights are at their end, all are weighed
  module _ (end : (length left ≡ 0) ⊎ (length weights ≡ 0)) where
    weighing_all : sum ≡ equivalent ms
    weighing_all = omega (arith, l.rest, weighed-nothing weights left end)

    pub weighing_end : then_some (leb sum limit) sum ≡ within_limit ms
    unfolding within_limit
    weighing_end = rw (← weighing_all) (by (leb sum limit))
      where
        by : (b : Bool) → then_some b sum ≡ cond b (Some sum) None
        by true = refl
        by false = refl
