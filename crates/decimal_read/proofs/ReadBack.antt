-- Every number of a source can be given: its decimal reads back. And words at the edge of what a number is. Assumes nothing.
use mathlib.Core.Bool.{Bool, true, false, ◌&&◌}
use mathlib.Core.List.{List, [], ◌∷◌, ◌++◌}
use mathlib.Core.Path.{◌≡◌, refl, ap, ◌∙◌}
use Prim.Native.Nat.{ℕ, zero, suc, ◌+◌, ◌*◌, ◌-◌, ◌/◌, ◌%◌, ◌≤◌, ◌<◌}
use native.Mathlib.Decide.{dec_lt}
use native.Mathlib.Omega.{arith}
use borrow.Author.Tests.{lt-ltb}
use lib.Dec.{ltb}
use lib.ListN.{length, length-append}
use Rattle.basis.specs.Bytes.{ascii}
use Rattle.meaning.specs.Text.{digit, digits, decimal}
use Rattle.meaning.proofs.Decimals.{one-digit, more_digits}
use Rattle.std.specs.Prelude.{Some, None}
use Rattle.decimal_read.specs.Numerals.{is_digit, read_on, numeral_in}

one_more : (n d : ℕ) → d < 10 → n * 10 + d < 4294967296 → read_on n (digit d ∷ []) ≡ Some (n * 10 + d)
unfolding read_on
one_more n d l m =
    let e : n * 10 + (48 + d - 48) ≡ n * 10 + d = omega arith in
    rw (e, lt-ltb 47 (48 + d) (omega arith), lt-ltb (48 + d) 58 (omega arith), lt-ltb (n * 10 + d) 4294967296 m)

-- a byte behind what was read is read behind it
read_then : (n : ℕ) (word : List ℕ) (m byte : ℕ) → read_on n word ≡ Some m → read_on n (word ++ (byte ∷ [])) ≡ read_on m (byte ∷ [])
unfolding read_on
read_then n [] m byte e = let f : n ≡ m = cc in rw f
read_then n (first ∷ word) m byte e = by (is_digit first && ltb (n * 10 + (first - 48)) 4294967296) refl (read_then (n * 10 + (first - 48)) word m byte)
  where
    by : (b : Bool) → is_digit first && ltb (n * 10 + (first - 48)) 4294967296 ≡ b
        → (read_on (n * 10 + (first - 48)) word ≡ Some m → read_on (n * 10 + (first - 48)) (word ++ (byte ∷ [])) ≡ read_on m (byte ∷ []))
        → read_on n (first ∷ word ++ (byte ∷ [])) ≡ read_on m (byte ∷ [])
    by true q later = rw q (later (rw q at e))
    by false q later = let z : None ≡ Some m = rw q at e in let w : ◌≡◌ {A = ℕ} 0 1 = cc in absurd (omega arith)

digits_read : (fuel n : ℕ) → n ≤ fuel → n < 4294967296 → read_on 0 (digits fuel n) ≡ Some n
digits_read zero n f l = let e : n ≡ 0 = omega arith in rw (e, one-digit 0 0 (omega arith)) (one_more 0 0 (omega arith) (omega arith))
digits_read (suc fuel) n f l = by (dec_lt n 10) (λ h. digits_read fuel (n / 10) (omega arith) (omega arith))
  where
    by : Dec (n < 10) → (10 ≤ n → read_on 0 (digits fuel (n / 10)) ≡ Some (n / 10)) → read_on 0 (digits (suc fuel) n) ≡ Some n
    by (yes s) later = let e : 0 * 10 + n ≡ n = omega arith in rw (one-digit (suc fuel) n s) (one_more 0 n s (omega arith) ∙ ap Some e)
    by (no s) later =
        let e : n / 10 * 10 + n % 10 ≡ n = omega arith in
        rw (more_digits fuel n (omega arith))
        (read_then 0 (digits fuel (n / 10)) (n / 10) (digit (n % 10)) (later (omega arith)) ∙ one_more (n / 10) (n % 10) (omega arith) (omega arith) ∙ ap Some e)

digits-some : (fuel n : ℕ) → 0 < length (digits fuel n)
unfolding digits
digits-some zero n = omega arith
digits-some (suc fuel) n = by (dec_lt n 10)
  where
    by : Dec (n < 10) → 0 < length (digits (suc fuel) n)
    by (yes s) = rw (one-digit (suc fuel) n s) (omega arith)
    by (no s) = rw (more_digits fuel n (omega arith), length-append) (omega arith)

number-some : (word : List ℕ) → 0 < length word → numeral_in word ≡ read_on 0 word
unfolding numeral_in
number-some [] l = absurd (omega arith)
number-some (byte ∷ word) l = refl

pub read_back : (n : ℕ) → n < 4294967296 → numeral_in (decimal n) ≡ Some n
unfolding decimal
read_back n l = number-some (digits n n) (digits-some n n) ∙ digits_read n n (omega arith) l

-- what a script may hand over for a number
pub record Words : Type 0 where
  pub largest : numeral_in (ascii "4294967295") ≡ Some 4294967295
  pub zeros : numeral_in (ascii "007") ≡ Some 7
  pub empty : numeral_in [] ≡ None
  pub above : numeral_in (ascii "4294967296") ≡ None
  pub wrapped : numeral_in (ascii "18446744073709551623") ≡ None
  pub signed : numeral_in (ascii "-1") ≡ None
  pub spaced : numeral_in (ascii "1 ") ≡ None
  pub lettered : numeral_in (ascii "0x1") ≡ None

pub words : Words
unfolding numeral_in read_on
words = record { largest = refl; zeros = refl; empty = refl; above = refl; wrapped = refl; signed = refl; spaced = refl; lettered = refl }
