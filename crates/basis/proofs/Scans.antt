-- A loop that goes up to the first index at which a test holds. Assumes nothing.
use mathlib.Core.Bool.{Bool, true, false}
use mathlib.Core.Path.{◌≡◌, sym, ◌∙◌}
use Prim.Native.Nat.{ℕ, suc, ◌+◌, ◌-◌, ◌≤◌, ◌<◌}
use native.Mathlib.Nat.{sub-zero}
use native.Mathlib.Omega.{arith}
use Rattle.basis.specs.First.{scan, first}
use Rattle.basis.proofs.First.{scan-hit, scan_miss}

-- the indices before i do not have it, and those that are left decide
pub record Scanning (test : ℕ → Bool) (n i : ℕ) : Type 0 where
  pub low : i ≤ n
  pub rest : scan test i (n - i) ≡ first test n

pub scan-none : {test : ℕ → Bool} {n : ℕ} → Scanning test n 0
unfolding first
scan-none {test} {n} = record { low = omega arith; rest = rw (sub-zero n) }

module _ {test : ℕ → Bool} {n i : ℕ} (s : Scanning test n i) where
  pub scan-found : i < n → test i ≡ true → i ≡ first test n
  scan-found h e = let q : n - i ≡ suc (n - (i + 1)) = omega arith in sym (scan-hit test i (n - (i + 1)) e) ∙ rw q at s.rest

  pub scan_more : i < n → test i ≡ false → Scanning test n (i + 1)
  scan_more h e =
      let q : n - i ≡ suc (n - (i + 1)) = omega arith in
      record { low = omega arith; rest = sym (scan_miss test i (n - (i + 1)) e) ∙ rw q at s.rest }

  pub scan-all : n ≤ i → i ≡ first test n
  unfolding scan
  scan-all h = let q : n - i ≡ 0 = omega arith in rw q at s.rest
