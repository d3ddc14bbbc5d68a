-- Eight digits in a word: several numbers stand in it, and one product divides them all. Assumes nothing.
use mathlib.Core.Path.{◌≡◌, ap, ◌∙◌}
use mathlib.Core.List.{◌++◌}
use Prim.Native.Nat.{ℕ, ◌+◌, ◌*◌, ◌-◌, ◌/◌, ◌%◌, ◌≤◌, ◌<◌}
use native.Mathlib.Omega.{arith}
use mir.Syntax.{w64}
use mir.Val.{Fits}
use borrow.Author.Rules.{rules}
use Rattle.basis.specs.Bytes.{number_of}
use Rattle.decimal_write.specs.Words.{quarters, Paired, first_digits, two_digits, eight_digits}

-- what stands in the lowest bits, below multiples of what they count up to
low_16 : (q k : ℕ) → q < 16 → (q + 16 * k) % 16 ≡ q
low_16 q k l = omega arith

-- the tens of the number in the lowest quarter, and of those above it
ten_low : (c r : ℕ) → c < 100 → (c + 65536 * r) * 103 / 1024 % 16 ≡ c / 10
ten_low c r l =
    let e : (c + 65536 * r) * 103 / 1024 ≡ c / 10 + 16 * (412 * r) = omega arith in
    ap (λ (n : ℕ). n % 16) e ∙ low_16 (c / 10) (412 * r) (omega arith)

ten_high : (c r : ℕ) → c < 100 → (c + 65536 * r) * 103 / 1024 / 65536 ≡ r * 103 / 1024
ten_high c r l = omega arith

-- four numbers of two digits
abbrev Pairs : ℕ → ℕ → ℕ → ℕ → Type 0
Pairs a b c d = (a < 100) × (b < 100) × (c < 100) × (d < 100)

-- four pairs in a word
module _ (a b c d : ℕ) (l : Pairs a b c d) where
  first-is : quarters a b c d % 65536 ≡ a
  first-is = omega arith

  second_is : quarters a b c d / 65536 % 65536 ≡ b
  second_is = omega arith

  third-is : quarters a b c d / 4294967296 % 65536 ≡ c
  third-is = omega arith

  fourth-is : quarters a b c d / 281474976710656 ≡ d
  fourth-is = omega arith

  paired : Paired (quarters a b c d)
  paired = record { first = rw first-is l.0; second = rw second_is l.1; third = rw third-is l.2; fourth = rw fourth-is l.3 }

  small : quarters a b c d < 28147497671065600
  small = omega arith

  each-is : first_digits (quarters a b c d) ≡ quarters (a / 10) (b / 10) (c / 10) (d / 10)
  each-is = rw (first-is, second_is, third-is, fourth-is)

  within : 10 * quarters (a / 10) (b / 10) (c / 10) (d / 10) ≤ quarters a b c d
  within = omega arith

  spelled : 256 * quarters a b c d + 3472328296227680304 - 2559 * quarters (a / 10) (b / 10) (c / 10) (d / 10)
      ≡ number_of (two_digits a ++ two_digits b ++ two_digits c ++ two_digits d)
  unfolding number_of
  spelled = omega arith

four_below : (a : ℕ) → a < 10000 → (a / 100 < 100) × (a % 100 < 100)
four_below a l = omega arith

eight_below : (n : ℕ) → n < 100000000 → (n / 10000 < 10000) × (n % 10000 < 10000)
eight_below n l = omega arith

-- each first digit is taken out ten times, and put back once
enough : (t z : ℕ) → 10 * t ≤ z → 2559 * t ≤ 256 * z + 3472328296227680304
enough t z l = omega arith

-- the four pairs of eight digits
module _ {n z : ℕ} (l : n < 100000000) (e : z ≡ quarters (n / 10000 / 100) (n / 10000 % 100) (n % 10000 / 100) (n % 10000 % 100)) where
  below : Pairs (n / 10000 / 100) (n / 10000 % 100) (n % 10000 / 100) (n % 10000 % 100)
  below =
      let h = eight_below n l in
      let a = four_below (n / 10000) h.0 in
      let b = four_below (n % 10000) h.1 in
      (a.0, a.1, b.0, b.1)

  pub pairs_paired : Paired z
  pairs_paired = rw e (paired _ _ _ _ below)

  pairs_small : z < 28147497671065600
  pairs_small = rw e (small _ _ _ _ below)

  module _ {t : ℕ} (f : t ≡ first_digits z) where
    tens_is : t ≡ quarters (n / 10000 / 100 / 10) (n / 10000 % 100 / 10) (n % 10000 / 100 / 10) (n % 10000 % 100 / 10)
    tens_is = f ∙ rw e (each-is _ _ _ _ below)

    tens_within : 10 * t ≤ z
    tens_within = rw (e, tens_is) (within _ _ _ _ below)

    pub pairs_spelled : 256 * z + 3472328296227680304 - 2559 * t ≡ number_of (eight_digits n)
    unfolding eight_digits
    pairs_spelled = rw (e, tens_is) (spelled _ _ _ _ below)

    pub spelled_fits : Fits w64 (2559 * t)
    spelled_fits = record { fits = omega (arith, tens_within, pairs_small) }

    pub spelled_within : 2559 * t ≤ 256 * z + 3472328296227680304
    spelled_within = enough t z tens_within

  pub pairs_fits : Fits w64 (256 * z)
  pairs_fits = record { fits = omega (arith, pairs_small) }

  pub sum_fits : Fits w64 (256 * z + 3472328296227680304)
  sum_fits = record { fits = omega (arith, pairs_small) }

pub ruleset wording = (rules, pairs_paired, pairs_spelled, spelled_fits, spelled_within, pairs_fits, sum_fits)
