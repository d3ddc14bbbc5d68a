-- The amounts of stock cards: how many there are, and how long their bytes. Assumes nothing.
use mathlib.Core.List.{List}
use mathlib.Core.Path.{◌≡◌, ◌∙◌}
use Prim.Native.Nat.{ℕ, ◌*◌, ◌<◌}
use lib.ListN.{length, get_or, replicate, length-replicate}
use Rattle.basis.specs.Bytes.{packed}
use Rattle.basis.proofs.Bytes.{length-packed}
use Rattle.basis.proofs.Counting.{length_counted, at_counted, sum_alike}
use Rattle.meaning.specs.Cards.{card_count, card_at, amount_of, amounts_of, amount_length, amount_bytes}

pub length-amounts_of : (b : List ℕ) → length (amounts_of b) ≡ card_count b
unfolding amounts_of
length-amounts_of b = length_counted (λ i. amount_of (card_at b i)) 0 (card_count b)

pub amount-at : (b : List ℕ) (i : ℕ) → i < card_count b → get_or (amounts_of b) i 0 ≡ amount_of (card_at b i)
unfolding amounts_of
amount-at b i l = at_counted (λ i. amount_of (card_at b i)) 0 (card_count b) i l

-- numbers as amounts are written
abbrev pub in_eights : List ℕ → List ℕ
in_eights ns = packed (replicate (length ns) amount_length) ns

pub length_in_eights : (ns : List ℕ) → length (in_eights ns) ≡ amount_length * length ns
length_in_eights ns = length-packed (replicate (length ns) amount_length) ns (length-replicate (length ns) amount_length) ∙ sum_alike amount_length (length ns)

pub length-amounts : (b : List ℕ) → length (amount_bytes b) ≡ amount_length * card_count b
unfolding amount_bytes
length-amounts b = rw (length-amounts_of b) at (length_in_eights (amounts_of b))
