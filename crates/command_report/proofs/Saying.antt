-- What the program says of a register, by what calculation answers. Assumes nothing.
use mathlib.Core.List.{List, ◌++◌}
use mathlib.Core.Path.{◌≡◌, ap, ◌∙◌}
use Prim.Native.Nat.{ℕ, ◌≤◌}
use lib.ListN.{length, take, replicate}
use Rattle.basis.specs.declared.Answer.{Answer}
use Rattle.basis.specs.Answers.{Outcome, Gives}
use Rattle.meaning.specs.Text.{refused_line}
use Rattle.meaning.specs.Calls.{calculation_tests, calculated_report, calculated}
use Rattle.meaning.specs.Programs.{front, said, text_output, report_room, output}
use Rattle.decimal_write.specs.Digits.{Fronted}
use Rattle.meaning.proofs.Programs.{said-made, said-refused}
use Rattle.command_answer.proofs.Saying.{written-front}
use Rattle.command_files.proofs.Longer.{register_room, calculated-same}

module _ (register : List ℕ) {a : Answer} {left : List ℕ} (g : Gives (calculated register (replicate report_room 0)) a left) where
  output-is : (room : List ℕ) → output register room ≡ said a (text_output (take a.length left) room)
  unfolding output
  output-is room = rw (← g.answers, ← g.leaves)

  report-front : Fronted (replicate report_room 0) (take a.length left) left a.length
  unfolding calculated
  report-front = written-front (calculation_tests register) (calculated_report register) (replicate report_room 0) g

  pub report-within : a.length ≤ length left
  report-within = report-front.within

  pub report-part : a.length ≡ length (take a.length left)
  report-part = report-front.part

  module _ {room zs : List ℕ} {n : ℕ} where
    pub output-made : a.number ≡ 0 → Fronted room (text_output (take a.length left) room) zs n → Fronted room (output register room) zs n
    output-made e w = rw (output-is room ∙ said-made a (text_output (take a.length left) room) e) w

    pub output-refused : (a.number ≡ 0 → ⊥) → Fronted room (refused_line a.number a.place) zs n → Fronted room (output register room) zs n
    output-refused f w = rw (output-is room ∙ said-refused a (text_output (take a.length left) room) f) w

-- what the program says goes by its room of bytes alone
pub output-same : (xs ys : List ℕ) → register_room ≤ length xs → (room : List ℕ) → output (xs ++ ys) room ≡ output xs room
unfolding output
output-same xs ys l room = ap (λ (o : Outcome). said o.answer (text_output (front o) room)) (calculated-same xs ys l (replicate report_room 0))
