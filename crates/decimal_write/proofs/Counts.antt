-- How many digits a number has. Assumes nothing.
use mathlib.Core.Bool.{Bool, true, false}
use mathlib.Core.Path.{◌≡◌, refl, sym, ap, ◌∙◌}
use mathlib.Core.List.{[], ◌∷◌}
use Prim.Native.Nat.{ℕ, zero, suc, ◌+◌, ◌*◌, ◌-◌, ◌/◌, ◌%◌, ◌^◌, ◌≤◌, ◌<◌}
use native.Mathlib.Nat.{pow-suc, one-le-pow}
use native.Mathlib.Decide.{dec_lt}
use native.Mathlib.Omega.{arith}
use mir.Syntax.{w64}
use mir.Val.{Fits, bool_byte}
use borrow.Author.Rules.{rules}
use borrow.Author.Tests.{leb-true, leb-false, eqb-true}
use lib.Count.{count_leading_zeros, leading_le, leading_length}
use lib.Dec.{eqb, leb}
use lib.ListN.{length, get_or, drop, length-append}
use Rattle.basis.proofs.Tables.{everywhere_at}
use Rattle.basis.specs.Lists.{count_up}
use Rattle.meaning.specs.Text.{digit, decimal}
use Rattle.meaning.proofs.Decimals.{decimal-one, decimal_more, decimal-few}
use Rattle.decimal_write.specs.Words.{powers}
use Rattle.decimal_write.specs.Digits.{Counted}

pub count-one : (n : ℕ) → n < 10 → 1 ≡ length (decimal n)
count-one n l = sym (ap length (decimal-one n l))

count_next : (n : ℕ) → 10 ≤ n → length (decimal n) ≡ length (decimal (n / 10)) + 1
count_next n l = ap length (decimal_more n l) ∙ length-append (decimal (n / 10)) (digit (n % 10) ∷ [])

-- a number has a digit, and at least as many as a power of ten that is not above it
pub some-digit : (n : ℕ) → 1 ≤ length (decimal n)
some-digit n = by (dec_lt n 10)
  where
    by : Dec (n < 10) → 1 ≤ length (decimal n)
    by (yes l) = omega (arith, count-one n l)
    by (no l) = omega (arith, count_next n (omega arith))

pub decimal-many : (k n : ℕ) → 10 ^ k ≤ n → k + 1 ≤ length (decimal n)
decimal-many zero n l = omega (arith, some-digit n)
decimal-many (suc k) n l =
    let t : 10 ^ k * 10 ≤ n = rw (pow-suc 10 k) at l in
    let p : 1 ≤ 10 ^ k = one-le-pow k 10 (omega arith) in
    omega (arith, count_next n (omega arith), decimal-many k (n / 10) (omega arith))

-- no number of 64 bits has more than twenty digits
pub twenty_digits : (n : ℕ) → Fits w64 n → length (decimal n) ≤ 20
twenty_digits n f = decimal-few 19 n (omega (arith, f.fits))

-- the digits of a number of so many bits: these, or one more
abbrev guess : ℕ → ℕ
guess bits = bits * 1233 / 4096

-- the power of ten above a number of so many bits, and the one that is not above the smallest of them, ten times
guess_above : (bits : ℕ) → bits < 65 → 2 ^ bits ≤ 10 ^ suc (guess bits)
unfolding count_up
guess_above bits l = leb-true _ _ (everywhere_at (λ i x. leb (2 ^ i) (10 ^ suc (guess i))) (count_up 0 65) 0 refl bits l)

guess_below : (k : ℕ) → k < 64 → 10 ^ guess (suc k) ≤ 5 * (2 ^ suc k - 1)
unfolding count_up
guess_below k l = leb-true _ _ (everywhere_at (λ i x. leb (10 ^ guess (suc i)) (5 * (2 ^ suc i - 1))) (count_up 0 64) 0 refl k l)

power_is : (k : ℕ) → k < 19 → get_or powers (suc k) 0 ≡ 10 ^ suc k
power_is k l = eqb-true _ _ (everywhere_at (λ i x. eqb x (10 ^ suc i)) (drop 1 powers) 0 refl k l)

-- a number that is none of those below a bound, as a match leaves it behind its last arm, is not below it
abbrev pub NoneBelow : ℕ → ℕ → Type 0
NoneBelow zero k = Unit {0}
NoneBelow (suc bound) k = NoneBelow bound k × (k ≡ bound → ⊥)

not-below : (bound k : ℕ) → NoneBelow bound k → bound ≤ k
not-below zero k h = omega arith
not-below (suc bound) k (h, f) = omega (arith, not-below bound k h, f)

-- a number of so many bits has as many digits as are guessed, or one more
at_least : (bits n : ℕ) → bits < 65 → 2 ^ bits ≤ 2 * n + 1 → guess bits ≤ length (decimal n)
at_least zero n few below = omega arith
at_least (suc k) n few below = by (guess (suc k)) (guess_below k (omega arith))
  where
    by : (g : ℕ) → 10 ^ g ≤ 5 * (2 ^ suc k - 1) → g ≤ length (decimal n)
    by zero l = omega arith
    by (suc g) l = omega (arith, decimal-many g n (omega (arith, rw (pow-suc 10 g) at l)))

at_most : (bits n : ℕ) → bits < 65 → n < 2 ^ bits → length (decimal n) ≤ guess bits + 1
at_most bits n few above = omega (arith, decimal-few (guess bits) n (omega (arith, guess_above bits few)))

-- and the power of ten tells which
one_more : (g n : ℕ) → g < 20 → get_or powers g 0 ≤ n → g + 1 ≤ length (decimal n)
one_more zero n h l = some-digit n
one_more (suc g) n h l = decimal-many (suc g) n (rw (power_is g (omega arith)) at l)

no_more : (g n : ℕ) → g < 20 → n < get_or powers g 0 → length (decimal n) ≤ g
no_more zero n h l = absurd (omega arith)
no_more (suc g) n h l = decimal-few g n (rw (power_is g (omega arith)) at l)

told : (bits n : ℕ) → bits < 65 → n < 2 ^ bits → 2 ^ bits ≤ 2 * n + 1 → guess bits + bool_byte (leb (get_or powers (guess bits) 0) n) ≡ length (decimal n)
told bits n few above below = by (leb (get_or powers (guess bits) 0) n) refl
  where
    by : (t : Bool) → leb (get_or powers (guess bits) 0) n ≡ t → guess bits + bool_byte t ≡ length (decimal n)
    by true e = omega (arith, one_more (guess bits) n (omega arith) (leb-true _ _ e), at_most bits n few above)
    by false e = omega (arith, no_more (guess bits) n (omega arith) (leb-false _ _ e), at_least bits n few below)

module _ {n p : ℕ} (f : Fits w64 n) (e : p ≡ get_or powers ((64 - count_leading_zeros 64 n) * 1233 / 4096) 0) where
  pub counted_digits : Counted n ((64 - count_leading_zeros 64 n) * 1233 / 4096 + bool_byte (leb p n))
  counted_digits =
      let b = leading_length 64 n f.fits in
      let q : 64 - count_leading_zeros 64 n ≡ b.0 = omega (arith, b.1) in
      let r : guess b.0 + bool_byte (leb p n) ≡ length (decimal n) = rw (e, q) (told b.0 n (omega (arith, b.1)) b.2 b.3) in
      rw q (record { count = r; few = omega (arith, r, twenty_digits n f) })

  pub count_fits : Fits w64 ((64 - count_leading_zeros 64 n) * 1233 / 4096 + bool_byte (leb p n))
  count_fits = record { fits = omega (arith, counted_digits.few) }

pub bits-within : (n : ℕ) → count_leading_zeros 64 n ≤ 64
bits-within n = leading_le 64 n

pub ruleset counting = (rules, bits-within, count_fits, counted_digits)
