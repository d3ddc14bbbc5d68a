-- Document 02, "Amounts from stock cards": the entries of a card, the amount that they come to, and the tests of cards. Assumes nothing.
use Rattle.std.specs.Prelude.{Bool, not, ◌||◌, List, [], ◌∷◌, map, ℕ, ◌+◌, ◌*◌, ◌-◌, ◌/◌, ◌%◌, ◌^◌, eqb, ltb, length, replicate}
use Rattle.basis.specs.Answers.{Verdict, refuse_if, refuse_at_first}
use Rattle.basis.specs.Bytes.{number_at, packed}
use Rattle.basis.specs.Lists.{count_up}
use Rattle.meaning.specs.Methods.{most_quantity}

-- "cards of four entries": "Entries are 8-byte numbers in that order"
pub record Card : Type 0 where
  pub received : ℕ
  pub dispatched : ℕ
  pub opening : ℕ
  pub closing : ℕ

abbrev pub card_length : ℕ
card_length = 32

-- "Up to 1,024 cards"
abbrev pub most_cards : ℕ
most_cards = 1024

abbrev pub card_count : List ℕ → ℕ
card_count b = length b / card_length

unfoldable pub card_at : List ℕ → ℕ → Card
card_at b i =
    let at = card_length * i in
    record { received = number_at 8 b at; dispatched = number_at 8 b (at + 8); opening = number_at 8 b (at + 16); closing = number_at 8 b (at + 24) }

-- "received less dispatched, plus opening, less closing stock", formula 1 of source 000: what comes in less what goes out, so that an amount is below
-- zero where more goes out
abbrev pub comes_in : Card → ℕ
comes_in c = c.received + c.opening

abbrev pub goes_out : Card → ℕ
goes_out c = c.dispatched + c.closing

abbrev pub amount_of : Card → ℕ
amount_of c = comes_in c - goes_out c

-- "thousandths of the card's unit, each at most 10^10"
abbrev pub most_entry : ℕ
most_entry = 10 ^ 10

-- "an entry out of range"
unfoldable pub wrong_entries : Card → Bool
wrong_entries c = ltb most_entry c.received || ltb most_entry c.dispatched || ltb most_entry c.opening || ltb most_entry c.closing

-- "an amount below zero or above 10^10", which could not "become" a quantity of a line
unfoldable pub wrong_amount : Card → Bool
wrong_amount c = ltb (comes_in c) (goes_out c) || ltb most_quantity (amount_of c)

-- "14 for a broken length or too many cards, place 0"
abbrev pub cards_test : List ℕ → Verdict
cards_test b = refuse_if (not (eqb (length b % card_length) 0) || ltb most_cards (card_count b)) 14 0

-- "then 14 for an entry out of range, then 15 for an amount below zero or above 10^10, each at the first such card"
abbrev pub entry_test : List ℕ → Verdict
entry_test b = refuse_at_first 14 (λ i. wrong_entries (card_at b i)) (card_count b)

abbrev pub amount_test : List ℕ → Verdict
amount_test b = refuse_at_first 15 (λ i. wrong_amount (card_at b i)) (card_count b)

abbrev pub card_tests : List ℕ → List Verdict
card_tests b = cards_test b ∷ entry_test b ∷ amount_test b ∷ []

-- "amounts written in card order, 8 bytes each"
unfoldable pub amounts_of : List ℕ → List ℕ
amounts_of b = map (λ i. amount_of (card_at b i)) (count_up 0 (card_count b))

abbrev pub amount_length : ℕ
amount_length = 8

unfoldable pub amount_bytes : List ℕ → List ℕ
amount_bytes b = packed (replicate (card_count b) amount_length) (amounts_of b)
