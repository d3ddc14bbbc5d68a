-- Decimal numbers: their last digit and those before it, and how many they are at most. Assumes nothing.
use mathlib.Core.List.{List, [], ◌∷◌, ◌++◌}
use mathlib.Core.Path.{◌≡◌, refl, sym, ap, ◌∙◌}
use Prim.Native.Nat.{ℕ, zero, suc, ◌/◌, ◌%◌, ◌^◌, ◌≤◌, ◌<◌}
use native.Mathlib.Nat.{pow-suc}
use native.Mathlib.Decide.{dec_lt}
use native.Mathlib.Omega.{arith}
use borrow.Author.Tests.{lt-ltb, le-ltb}
use lib.ListN.{length, length-append}
use Rattle.meaning.specs.Text.{digit, digits, decimal}

-- a number below ten is one digit, and a larger one is a digit behind those of its tenth
pub one-digit : (fuel n : ℕ) → n < 10 → digits fuel n ≡ digit n ∷ []
unfolding digits
one-digit zero n l = refl
one-digit (suc fuel) n l = rw (lt-ltb n 10 l)

pub more_digits : (fuel n : ℕ) → 10 ≤ n → digits (suc fuel) n ≡ digits fuel (n / 10) ++ (digit (n % 10) ∷ [])
unfolding digits
more_digits fuel n l = rw (le-ltb n 10 l)

-- with fuel enough, more makes no difference
fuel_enough : (f g n : ℕ) → n ≤ f → n ≤ g → digits f n ≡ digits g n
fuel_enough zero g n p q = one-digit zero n (omega arith) ∙ sym (one-digit g n (omega arith))
fuel_enough (suc f) zero n p q = one-digit (suc f) n (omega arith) ∙ sym (one-digit zero n (omega arith))
fuel_enough (suc f) (suc g) n p q = by (dec_lt n 10) (λ l. fuel_enough f g (n / 10) (omega arith) (omega arith))
  where
    by : Dec (n < 10) → (10 ≤ n → digits f (n / 10) ≡ digits g (n / 10)) → digits (suc f) n ≡ digits (suc g) n
    by (yes l) h = one-digit (suc f) n l ∙ sym (one-digit (suc g) n l)
    by (no l) h = rw (more_digits f n (omega arith), more_digits g n (omega arith), h (omega arith))

pub decimal-one : (n : ℕ) → n < 10 → decimal n ≡ digit n ∷ []
unfolding decimal
decimal-one n l = one-digit n n l

pub decimal_more : (n : ℕ) → 10 ≤ n → decimal n ≡ decimal (n / 10) ++ (digit (n % 10) ∷ [])
unfolding decimal
decimal_more n l =
    fuel_enough n (suc n) n (omega arith) (omega arith) ∙ more_digits n n l
    ∙ ap (λ (ds : List ℕ). ds ++ (digit (n % 10) ∷ [])) (fuel_enough n (n / 10) (n / 10) (omega arith) (omega arith))

digits-few : (k fuel n : ℕ) → n < 10 ^ suc k → length (digits fuel n) ≤ suc k
unfolding digits
digits-few zero fuel n l = rw (one-digit fuel n (omega (arith, rw (pow-suc 10 0) at l))) (omega arith)
digits-few (suc k) zero n l = omega arith
digits-few (suc k) (suc fuel) n l = by (dec_lt n 10) (digits-few k fuel (n / 10) (omega (arith, rw (pow-suc 10 (suc k)) at l)))
  where
    by : Dec (n < 10) → length (digits fuel (n / 10)) ≤ suc k → length (digits (suc fuel) n) ≤ suc (suc k)
    by (yes s) h = rw (one-digit (suc fuel) n s) (omega arith)
    by (no s) h = rw (more_digits fuel n (omega arith), length-append) (omega arith)

pub decimal-few : (k n : ℕ) → n < 10 ^ suc k → length (decimal n) ≤ suc k
unfolding decimal
decimal-few k n l = digits-few k n n l
