-- A scan that goes up finds the first. Assumes nothing.
use mathlib.Core.Bool.{Bool, true, false, cond}
use mathlib.Core.Path.{◌≡◌, refl}
use native.Mathlib.Decide.{dec_lt}
use Prim.Native.Nat.{ℕ, zero, suc, ◌+◌, ◌≤◌, ◌<◌}
use native.Mathlib.Nat.{zero-add}
use native.Mathlib.Omega.{arith}
use Rattle.basis.proofs.Bools.{clash}
use Rattle.basis.specs.First.{scan, first, NoneBelow}

-- a loop's turns: at an index where the test holds the scan ends, and else it goes on
pub scan-hit : (test : ℕ → Bool) (i k : ℕ) → test i ≡ true → scan test i (suc k) ≡ i
unfolding scan
scan-hit test i k h = rw h

pub scan_miss : (test : ℕ → Bool) (i k : ℕ) → test i ≡ false → scan test i (suc k) ≡ scan test (i + 1) k
unfolding scan
scan_miss test i k h = rw h

-- what a scan of the indices from i up to an end gives: no hit before it, and a hit unless it is the end
pub record Scanned (test : ℕ → Bool) (i end r : ℕ) : Type 0 where
  pub low : i ≤ r
  pub high : r ≤ end
  pub misses : (j : ℕ) → i ≤ j → j < r → test j ≡ false
  pub hits : r < end → test r ≡ true

here : (test : ℕ → Bool) (i end : ℕ) → i ≤ end → (i < end → test i ≡ true) → Scanned test i end i
here test i end l h = record { low = omega arith; high = l; misses = λ j p q. absurd (omega arith); hits = h }

missed : (test : ℕ → Bool) (i r : ℕ) → test i ≡ false → ((j : ℕ) → i + 1 ≤ j → j < r → test j ≡ false) → (j : ℕ) → i ≤ j → j < r → test j ≡ false
missed test i r h m j p q = by (dec_lt i j)
  where
    by : Dec (i < j) → test j ≡ false
    by (yes l) = m j (omega arith) q
    by (no l) = let e : j ≡ i = omega arith in rw e h

later : (test : ℕ → Bool) (i end r : ℕ) → test i ≡ false → Scanned test (i + 1) end r → Scanned test i end r
later test i end r h s = record { low = omega (arith, s.low); high = s.high; misses = missed test i r h s.misses; hits = s.hits }

turn : (test : ℕ → Bool) (i end r : ℕ) → i < end → Scanned test (i + 1) end r → (b : Bool) → test i ≡ b → Scanned test i end (cond b i r)
turn test i end r l s true h = here test i end (omega arith) (λ _. h)
turn test i end r l s false h = later test i end r h s

pub scanned : (test : ℕ → Bool) (i k : ℕ) → Scanned test i (i + k) (scan test i k)
unfolding scan
scanned test i zero = here test i (i + 0) (omega arith) (λ l. absurd (omega arith))
scanned test i (suc k) =
    let e : i + 1 + k ≡ i + suc k = omega arith in
    turn test i (i + suc k) (scan test (i + 1) k) (omega arith) (rw e at (scanned test (i + 1) k)) (test i) refl

module _ (test : ℕ → Bool) (n : ℕ) where
  first_scanned : Scanned test 0 n (first test n)
  unfolding first
  first_scanned = rw (zero-add n) at (scanned test 0 n)

  pub first_≤ : first test n ≤ n
  first_≤ = first_scanned.high

  pub first_misses : NoneBelow test (first test n)
  first_misses j l = first_scanned.misses j (omega arith) l

  pub first_hits : first test n < n → test (first test n) ≡ true
  first_hits = first_scanned.hits

  -- the first is the only index that a hit has, with none before it
  pub first-is : (i : ℕ) → i < n → NoneBelow test i → test i ≡ true → first test n ≡ i
  first-is i l none hit = by (dec_lt (first test n) i) (dec_lt i (first test n))
    where
      by : Dec (first test n < i) → Dec (i < first test n) → first test n ≡ i
      by (yes p) q = absurd (clash (first_hits (omega arith)) (none (first test n) p))
      by (no p) (yes q) = absurd (clash hit (first_misses i q))
      by (no p) (no q) = omega arith

  -- with no hit the scan comes to the end
  pub first-end : NoneBelow test n → first test n ≡ n
  first-end none = by (dec_lt (first test n) n)
    where
      by : Dec (first test n < n) → first test n ≡ n
      by (yes p) = absurd (clash (first_hits p) (none (first test n) p))
      by (no p) = omega (arith, first_≤)
