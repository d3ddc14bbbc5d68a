-- Tests that hold together, or one of them, and those that do not. Assumes nothing.
use mathlib.Core.Bool.{Bool, true, false, ◌&&◌, ◌||◌, true≢false}
use mathlib.Core.Logic.{◌⊎◌, inl, inr}
use mathlib.Core.Path.{◌≡◌, refl, sym, ◌∙◌}

pub clash : {b : Bool} → b ≡ true → b ≡ false → ⊥
clash p q = true≢false (sym p ∙ q)

pub and-true : (a b : Bool) → a && b ≡ true → (a ≡ true) × (b ≡ true)
and-true true b e = (refl, e)
and-true false b e = absurd (clash e refl)

pub true-and : (a b : Bool) → a ≡ true → b ≡ true → a && b ≡ true
true-and a b p q = rw p q

pub or_false : (a b : Bool) → a || b ≡ false → (a ≡ false) × (b ≡ false)
or_false true b e = absurd (clash refl e)
or_false false b e = (refl, e)

pub false_or : (a b : Bool) → a ≡ false → b ≡ false → a || b ≡ false
false_or a b p q = rw p q

pub or_true : (a : Bool) → a || true ≡ true
or_true true = refl
or_true false = refl

pub not_both : (b : Bool) → (b ≡ true → ⊥) → b ≡ false
not_both true h = absurd (h refl)
not_both false h = refl

-- one of two conditions
pub or_either : (a b : Bool) → a || b ≡ true → (a ≡ true) ⊎ (b ≡ true)
or_either true b e = inl refl
or_either false b e = inr e

pub either_or : (a b : Bool) → (a ≡ true) ⊎ (b ≡ true) → a || b ≡ true
either_or a b (inl e) = rw e
either_or a b (inr e) = rw e (or_true a)

pub or_none : (b : Bool) → b || false ≡ b
or_none true = refl
or_none false = refl

pub or_assoc : (a b c : Bool) → (a || b) || c ≡ a || (b || c)
or_assoc true b c = refl
or_assoc false b c = refl
