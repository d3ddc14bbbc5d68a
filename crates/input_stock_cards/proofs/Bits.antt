-- Bits that tell whether numbers are at most 10^10, one by one and joined. Assumes nothing.
use Rattle.std.proofs.Common.{◌≡◌, ℕ, ◌+◌, ◌%◌, ◌^◌, ◌<◌, ◌≤◌, ◌↔◌, arith}
use lib.Bits.{bit_or, or_lt, or_add_and, and_le_l, and_le_r}
use Rattle.meaning.specs.Cards.{most_entry}
use Rattle.input_stock_cards.specs.Worked.{Tells}

-- joined bits are below a power of two exactly where both are
pub joined-below : (a b : ℕ) → (bit_or a b < 2 ^ 34) ↔ ((a < 2 ^ 34) × (b < 2 ^ 34))
joined-below a b = (λ l. omega (arith, l, or_add_and a b, and_le_l a b, and_le_r a b), λ h. or_lt 34 a b h.0 h.1)

-- a number, and its sum with what 10^10 lacks to all bits, modulo 2^64
pub bits_tell : (number sum : ℕ) → sum ≡ (number + 7179869183) % 2 ^ 64 → Tells (number ≤ most_entry) (bit_or number sum)
bits_tell number sum e = (
  λ l. let h = (joined-below number sum).0 l in omega (arith, e, h.0, h.1),
  λ l. (joined-below number sum).1 (omega (arith, e, l)),
)
