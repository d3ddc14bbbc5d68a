-- A list in which one has a test, between two parts in which none does. Assumes nothing.
use mathlib.Core.Bool.{Bool, true, false}
use mathlib.Core.List.{List, [], ◌∷◌, ◌++◌}
use mathlib.Core.Path.{◌≡◌, refl}
use Rattle.basis.specs.Lists.{Each, any, without}
use Rattle.basis.proofs.Bools.{or_true}
use Rattle.basis.proofs.Lists.{without-none}

module _ {A : Type 0} (test : A → Bool) where
  pub any_none : (xs : List A) → Each (λ x. test x ≡ false) xs → any test xs ≡ false
  unfolding any
  any_none [] p = refl
  any_none (x ∷ xs) p = rw (p.0, any_none xs p.1)

  pub any_between : (xs : List A) (y : A) (ys : List A) → test y ≡ true → any test (xs ++ y ∷ ys) ≡ true
  unfolding any
  any_between [] y ys e = rw e
  any_between (x ∷ xs) y ys e = rw (any_between xs y ys e) (or_true (test x))

  pub without_between : (xs : List A) (y : A) (ys : List A) → Each (λ x. test x ≡ false) xs → test y ≡ true → Each (λ x. test x ≡ false) ys
      → without test (xs ++ y ∷ ys) ≡ xs ++ ys
  unfolding without
  without_between [] y ys p e q = rw e (without-none test ys q)
  without_between (x ∷ xs) y ys p e q = rw (p.0, without_between xs y ys p.1 e q)
