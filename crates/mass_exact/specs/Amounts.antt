-- Exact amounts in ten-billionths of a gram, the scale of CO2's divisor, for every gas. Assumes nothing.
use Rattle.std.specs.Prelude.{List, map, ◌≡◌, ℕ, ◌+◌, ◌*◌, ◌-◌, ◌/◌, ◌^◌, ◌≤◌, ◌<◌, get_or}
use Rattle.meaning.specs.Methods.{largest_content, most_quantity}
use Rattle.meaning.specs.Masses.{divisors, most_factor}
use Rattle.mass_exact.specs.declared.Amount.{Amount}

-- the ten-billionths of a gram: "For CO2, grams are N / 10^10"
abbrev pub gram : ℕ
gram = 10 ^ 10

abbrev pub word : ℕ
word = 2 ^ 32

-- an amount in ten-billionths. Shut, for `omega` breaks off at numbers of more than 38 digits.
unfoldable pub value : Amount → ℕ
value a = a.high * word + a.low

abbrev pub nothing : Amount
nothing = record { high = 0; low = 0 }

-- what one unit of a gas's N is in ten-billionths of a gram, by gas
abbrev pub scales : List ℕ
scales = map (λ d. gram / d) divisors

abbrev pub scale : ℕ → ℕ
scale gas = get_or scales gas 0

-- the numbers of a line whose product it adds; the nitric acid has its f for a content
pub record Ranged (q content factor : ℕ) : Type 0 where
  pub quantity-fits : q ≤ most_quantity
  pub content-fits : content ≤ largest_content
  pub factor-fits : factor ≤ most_factor

-- the words that a line adds at most, with one that its lowest carries
abbrev pub per_line : ℕ
per_line = most_quantity * largest_content * most_factor / word + 1

-- so many more lines keep the amount in 64 bits
pub record Room (lines : ℕ) (a : Amount) : Type 0 where
  pub low_fits : a.low < word
  pub high_fits : a.high + per_line * lines < 2 ^ 64

-- r is a with n more
pub record Added (a : Amount) (n : ℕ) (r : Amount) : Type 0 where
  pub is : value r ≡ value a + n
  pub low_fits : r.low < word
  pub high_fits : r.high ≤ a.high + per_line

-- r is what is left of a without b
pub record Subtracted (a b r : Amount) : Type 0 where
  pub is : value r ≡ value a - value b
  pub low_fits : r.low < word
  pub high_fits : r.high ≤ a.high
