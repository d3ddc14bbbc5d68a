-- Cards worked out one after another, and whether one of them is wrong. Assumes nothing.
use Rattle.std.specs.Prelude.{◌≡◌, ℕ, ◌%◌, ◌^◌, ◌<◌, ◌≤◌, Bool, true, false, Option, None, Some, ◌||◌, ◌↔◌, List, length}
use Rattle.basis.specs.Bytes.{Written}
use Rattle.basis.specs.First.{first, NoneBelow}
use Rattle.meaning.specs.Cards.{Card, card_length, most_cards, card_count, card_at, amount_of, wrong_entries, wrong_amount, amounts_of}

-- 14 has nothing to say of the length
pub record Whole (b : List ℕ) : Type 0 where
  pub whole : length b % card_length ≡ 0
  pub few : card_count b ≤ most_cards

-- an entry of card i is out of range; card i is wrong in one way or the other
abbrev pub entry_wrong_at : List ℕ → ℕ → Bool
entry_wrong_at b i = wrong_entries (card_at b i)

unfoldable pub wrong : Card → Bool
wrong c = wrong_entries c || wrong_amount c

abbrev pub wrong_at : List ℕ → ℕ → Bool
wrong_at b i = wrong (card_at b i)

-- the first below n that passes, if there is one
abbrev pub IsFirst : (ℕ → Bool) → ℕ → Option ℕ → Type 0
IsFirst test n None = first test n ≡ n
IsFirst test n (Some i) = (i < n) × (i ≡ first test n)

-- bits tell whether something holds: they are below 2^34 exactly where it does
abbrev pub Tells : Type 0 → ℕ → Type 0
Tells P bits = (bits < 2 ^ 34) ↔ P

-- a card's bits tell whether it is right, and the amount is then its own
pub record WorkedCard (c : Card) (amount bits : ℕ) : Type 0 where
  pub tells : Tells (wrong c ≡ false) bits
  pub is : wrong c ≡ false → amount ≡ amount_of c

-- no card is wrong and the amounts of all stand at the front, or some card is wrong
pub record WorkedOut (b before : List ℕ) (right : Bool) (after : List ℕ) : Type 0 where
  pub none : right ≡ true → NoneBelow (wrong_at b) (card_count b)
  pub amounts : right ≡ true → Written before 0 (amounts_of b) after
  pub some : right ≡ false → first (wrong_at b) (card_count b) < card_count b
  pub kept : length after ≡ length before
