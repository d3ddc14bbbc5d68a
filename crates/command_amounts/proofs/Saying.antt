-- What the program says of stock cards, by what the call on them answers. Assumes nothing.
use mathlib.Core.List.{List}
use mathlib.Core.Path.{◌≡◌, ap, ◌∙◌}
use Prim.Native.Nat.{ℕ, ◌*◌, ◌/◌, ◌≤◌}
use native.Mathlib.Omega.{arith}
use lib.ListN.{length, take}
use Rattle.basis.specs.declared.Answer.{Answer}
use Rattle.basis.specs.Answers.{Outcome, Gives}
use Rattle.basis.proofs.Bytes.{length-written}
use Rattle.meaning.specs.Text.{refused_line}
use Rattle.meaning.specs.Cards.{card_tests, amount_length, amount_bytes}
use Rattle.meaning.specs.Calls.{amounts}
use Rattle.meaning.specs.Programs.{front, said, amount_lines, amounts_output}
use Rattle.meaning.proofs.Programs.{said-made, said-refused}
use Rattle.decimal_write.specs.Digits.{Fronted}
use Rattle.command_answer.proofs.Saying.{written-front}
use Rattle.command_files.proofs.TooLong.{cards_room, amounts_alike}

module _ (cards buffer : List ℕ) {a : Answer} {left : List ℕ} (g : Gives (amounts cards buffer) a left) where
  amounts-front : Fronted buffer (take a.length left) left a.length
  unfolding amounts
  amounts-front = written-front (card_tests cards) (amount_bytes cards) buffer g

  pub amounts-within : a.length ≤ length left
  amounts-within = amounts-front.within

  pub amounts-part : a.length ≡ length (take a.length left)
  amounts-part = amounts-front.part

  -- there is a line's room for each amount that the buffer may hold
  pub lines-room : (output : List ℕ) → 21 * (length buffer / amount_length) ≤ length output → 21 * (length (take a.length left) / amount_length) ≤ length output
  lines-room output l = omega (arith, l, amounts-within, amounts-part, length-written amounts-front.written)

  output-is : amounts_output cards buffer ≡ said a (amount_lines (take a.length left))
  unfolding amounts_output
  output-is = rw (← g.answers, ← g.leaves)

  module _ {room zs : List ℕ} {n : ℕ} where
    pub output-made : a.number ≡ 0 → Fronted room (amount_lines (take a.length left)) zs n → Fronted room (amounts_output cards buffer) zs n
    output-made e w = rw (output-is ∙ said-made a (amount_lines (take a.length left)) e) w

    pub output-refused : (a.number ≡ 0 → ⊥) → Fronted room (refused_line a.number a.place) zs n → Fronted room (amounts_output cards buffer) zs n
    output-refused f w = rw (output-is ∙ said-refused a (amount_lines (take a.length left)) f) w

-- what the program says goes by its room of bytes alone
pub output_alike : (b c : List ℕ) → cards_room ≤ length b → cards_room ≤ length c → (room : List ℕ) → amounts_output b room ≡ amounts_output c room
unfolding amounts_output
output_alike b c l m room = ap (λ (o : Outcome). said o.answer (amount_lines (front o))) (amounts_alike b c l m room)
