-- A word read digit by digit. Assumes nothing.
use mathlib.Core.List.{List, [], ◌∷◌}
use mathlib.Core.Path.{◌≡◌, refl}
use Prim.Native.Nat.{ℕ, ◌+◌, ◌*◌, ◌-◌, ◌≤◌, ◌<◌}
use native.Mathlib.Numerals.{add-one}
use native.Mathlib.Omega.{arith}
use borrow.Author.Tests.{lt-ltb, le-ltb}
use lib.ListN.{length, get_or, drop, drop_of_length-le}
use lib.Seq.{drop-cons}
use Rattle.std.specs.Prelude.{Some, None}
use Rattle.decimal_read.specs.Numerals.{read_on, numeral_in}

-- i bytes of a word are read, and say n
pub record Reading (word : List ℕ) (n i : ℕ) : Type 0 where
  pub low : i ≤ length word
  pub small : n < 4294967296
  pub rest : read_on n (drop i word) ≡ numeral_in word

pub reading_none : (word : List ℕ) → (length word ≡ 0 → ⊥) → Reading word 0 0
unfolding numeral_in
reading_none [] h = absurd (h refl)
reading_none (byte ∷ rest) h = record { low = omega arith; small = omega arith; rest = refl }

pub reading_empty : (word : List ℕ) → length word ≡ 0 → None ≡ numeral_in word
unfolding numeral_in
reading_empty [] h = refl
reading_empty (byte ∷ rest) h = absurd (omega arith)

module _ {word : List ℕ} {n i : ℕ} (r : Reading word n i) where
  pub reading_all : length word ≤ i → Some n ≡ numeral_in word
  unfolding read_on
  reading_all h = rw (drop_of_length-le word {i = i} h) at r.rest

  module _ {byte : ℕ} (l : i < length word) (e : byte ≡ get_or word i 0) where
    next : read_on n (byte ∷ drop (i + 1) word) ≡ numeral_in word
    next = rw (e, add-one i, ← drop-cons word i 0 l) r.rest

    pub reading_low : byte < 48 → None ≡ numeral_in word
    unfolding read_on
    reading_low h = rw (le-ltb 47 byte (omega arith)) at next

    pub reading_high : 57 < byte → None ≡ numeral_in word
    unfolding read_on
    reading_high h = rw (lt-ltb 47 byte (omega arith), le-ltb byte 58 (omega arith)) at next

    module _ {digit : ℕ} (low : 48 ≤ byte) (high : byte ≤ 57) (d : digit ≡ byte - 48) where
      pub reading_past : 4294967295 < n * 10 + digit → None ≡ numeral_in word
      unfolding read_on
      reading_past h = rw (lt-ltb 47 byte (omega arith), lt-ltb byte 58 (omega arith), ← d, le-ltb (n * 10 + digit) 4294967296 (omega arith)) at next

      pub reading_more : n * 10 + digit ≤ 4294967295 → Reading word (n * 10 + digit) (i + 1)
      unfolding read_on
      reading_more h =
          let more = rw (lt-ltb 47 byte (omega arith), lt-ltb byte 58 (omega arith), ← d, lt-ltb (n * 10 + digit) 4294967296 (omega arith)) at next in
          record { low = omega arith; small = omega arith; rest = more }
