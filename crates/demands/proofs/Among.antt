-- Numbers of a list and numbers of a range. Assumes nothing.
use mathlib.Core.Bool.{true}
use mathlib.Core.List.{List, [], ◌∷◌}
use mathlib.Core.Logic.{◌⊎◌, inl, inr, ◌≢◌}
use mathlib.Core.Path.{◌≡◌}
use Prim.Native.Nat.{ℕ, zero, suc, ◌+◌, ◌≤◌, ◌<◌}
use native.Mathlib.Decide.{ℕ_discrete}
use native.Mathlib.Omega.{arith}
use lib.Dec.{leb}
use borrow.Author.Tests.{leb-true, le-leb}
use Rattle.basis.specs.Lists.{Each, count_up}
use Rattle.basis.proofs.Bools.{and-true, true-and}
use Rattle.meaning.specs.Methods.{within}
use Rattle.demands.specs.Table.{Among}

pub among_range : (ms : List ℕ) (low high : ℕ) {n : ℕ} → Each (λ m. (low ≤ m) × (m ≤ high)) ms → Among ms n → (low ≤ n) × (n ≤ high)
among_range [] low high e a = absurd a
among_range (m ∷ ms) low high e (inl q) = omega (arith, e.0)
among_range (m ∷ ms) low high e (inr a) = among_range ms low high e.1 a

pub range_among : (low k n : ℕ) → low ≤ n → n < low + k → Among (count_up low k) n
unfolding count_up
range_among low zero n l h = absurd (omega arith)
range_among low (suc k) n l h = by (ℕ_discrete n low) (λ q. range_among (low + 1) k n (omega arith) (omega arith))
  where
    by : Dec (n ≡ low) → (n ≢ low → Among (count_up (low + 1) k) n) → (n ≡ low) ⊎ Among (count_up (low + 1) k) n
    by (yes q) later = inl q
    by (no q) later = inr (later q)

pub only : {m n : ℕ} → Among (m ∷ []) n → n ≡ m
only (inl e) = e
only (inr a) = absurd a

pub among_within : (ms : List ℕ) (low high n : ℕ) → Each (λ m. (low ≤ m) × (m ≤ high)) ms → Among ms n → within low high n ≡ true
among_within ms low high n e a = let r = among_range ms low high e a in true-and (leb low n) (leb n high) (le-leb low n r.0) (le-leb n high r.1)

pub within_range : (low high n : ℕ) → within low high n ≡ true → (low ≤ n) × (n ≤ high)
within_range low high n e = let r = and-true (leb low n) (leb n high) e in (leb-true low n r.0, leb-true n high r.1)
