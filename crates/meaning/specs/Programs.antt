-- Document 01, "The report program", and the programs beside it: what each says. Assumes nothing.
use Rattle.std.specs.Prelude.{cond, List, [], ◌∷◌, map, ℕ, ◌+◌, ◌*◌, ◌/◌, eqb, length, take, replicate}
use Rattle.basis.specs.declared.Answer.{Answer}
use Rattle.basis.specs.Bytes.{number_at}
use Rattle.basis.specs.Lists.{count_up, joined}
use Rattle.basis.specs.Answers.{Outcome}
use Rattle.meaning.specs.Register.{most_sources}
use Rattle.meaning.specs.Report.{report_length}
use Rattle.meaning.specs.Text.{text_line, refused_line, accepted_line}
use Rattle.meaning.specs.Cards.{amount_length}
use Rattle.meaning.specs.Calls.{calculated, text, amounts}

-- what a call made, at the front of what it left
abbrev pub front : Outcome → List ℕ
front o = take o.answer.length o.left

-- "A refusal is the line `refused`, number, place"; otherwise what was made
abbrev pub said : Answer → List ℕ → List ℕ
said a made = cond (eqb a.number 0) made (refused_line a.number a.place)

-- of a call that leaves its report in a file: the length, or the refusal
abbrev pub answer_line : Answer → List ℕ
answer_line a = said a (accepted_line a.length)

-- the text of a report, made in the room lent, or the refusal
unfoldable pub text_output : List ℕ → List ℕ → List ℕ
text_output report room = let o = text report room in said o.answer (front o)

-- the report program's room for a report: one byte more than the longest has
abbrev pub report_room : ℕ
report_room = report_length most_sources + 1

-- what the report program says of a register: the text of its report, or the refusal
unfoldable pub output : List ℕ → List ℕ → List ℕ
output register room = let o = calculated register (replicate report_room 0) in said o.answer (text_output (front o) room)

-- numbers of 8 bytes as amounts are written, one decimal a line
unfoldable pub amount_lines : List ℕ → List ℕ
amount_lines made = joined (map (λ i. text_line (number_at amount_length made (amount_length * i) ∷ [])) (count_up 0 (length made / amount_length)))

-- what the program over stock cards says: the amounts, made in the room lent, or the refusal
unfoldable pub amounts_output : List ℕ → List ℕ → List ℕ
amounts_output cards room = let o = amounts cards room in said o.answer (amount_lines (front o))
