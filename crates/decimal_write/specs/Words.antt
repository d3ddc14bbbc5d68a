-- Eight digits in a word, and the powers of ten by which digits are counted. Assumes nothing.
use Rattle.std.specs.Prelude.{List, [], ◌∷◌, ◌++◌, ℕ, ◌+◌, ◌*◌, ◌/◌, ◌%◌, ◌<◌}
use Rattle.meaning.specs.Text.{digit}

-- the powers of ten that 64 bits hold, with 0 in the place of the first
abbrev pub powers : List ℕ
powers =
    0 ∷ 10 ∷ 100 ∷ 1000 ∷ 10000 ∷ 100000 ∷ 1000000 ∷ 10000000 ∷ 100000000 ∷ 1000000000 ∷ 10000000000 ∷ 100000000000 ∷ 1000000000000 ∷ 10000000000000
    ∷ 100000000000000 ∷ 1000000000000000 ∷ 10000000000000000 ∷ 100000000000000000 ∷ 1000000000000000000 ∷ 10000000000000000000 ∷ []

-- a number in each quarter of a word, the first lowest
abbrev pub quarters : ℕ → ℕ → ℕ → ℕ → ℕ
quarters a b c d = a + 65536 * (b + 65536 * (c + 65536 * d))

-- a pair of digits stands in each quarter
pub record Paired (word : ℕ) : Type 0 where
  pub first : word % 65536 < 100
  pub second : word / 65536 % 65536 < 100
  pub third : word / 4294967296 % 65536 < 100
  pub fourth : word / 281474976710656 < 100

-- the first digit of each pair
abbrev pub first_digits : ℕ → ℕ
first_digits word = quarters (word % 65536 / 10) (word / 65536 % 65536 / 10) (word / 4294967296 % 65536 / 10) (word / 281474976710656 / 10)

-- two, four and eight digits, with zeros before those of a smaller number
abbrev pub two_digits : ℕ → List ℕ
two_digits n = digit (n / 10) ∷ digit (n % 10) ∷ []

abbrev pub four_digits : ℕ → List ℕ
four_digits n = two_digits (n / 100) ++ two_digits (n % 100)

unfoldable pub eight_digits : ℕ → List ℕ
eight_digits n = four_digits (n / 10000) ++ four_digits (n % 10000)
