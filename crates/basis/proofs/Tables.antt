-- A test that is computed over a whole table holds at each of its entries. Assumes nothing.
use mathlib.Core.Bool.{Bool, true, ◌&&◌}
use mathlib.Core.List.{List, [], ◌∷◌}
use mathlib.Core.Path.{◌≡◌}
use Prim.Native.Nat.{ℕ, zero, suc, ◌<◌}
use native.Mathlib.Nat.{not-suc-le-zero, le_of_suc-le-suc}
use lib.ListN.{length, get_or}
use Rattle.basis.proofs.Bools.{and-true}

-- whether a test of an index and its entry holds at each
abbrev pub everywhere : (ℕ → ℕ → Bool) → List ℕ → Bool
everywhere right [] = true
everywhere right (x ∷ xs) = right 0 x && everywhere (λ i. right (suc i)) xs

pub everywhere_at : (right : ℕ → ℕ → Bool) (xs : List ℕ) (other : ℕ) → everywhere right xs ≡ true → (i : ℕ) → i < length xs → right i (get_or xs i other) ≡ true
everywhere_at right [] other e i h = absurd (not-suc-le-zero h)
everywhere_at right (x ∷ xs) other e zero h = (and-true (right 0 x) (everywhere (λ i. right (suc i)) xs) e).0
everywhere_at right (x ∷ xs) other e (suc i) h =
    everywhere_at (λ j. right (suc j)) xs other (and-true (right 0 x) (everywhere (λ j. right (suc j)) xs) e).1 i (le_of_suc-le-suc h)
