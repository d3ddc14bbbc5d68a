-- "1. Registers and reports of arbitrary bytes and length get an answer, and every answer comes to an end. Each entry point tests its own
-- input. A refusal gives its number and place from the table, and the report buffer holds what it held." That each call ends, and tests its
-- own input, is what contracts without a `requires` say of the functions; here is what any answer is. Assumes nothing.
use Rattle.std.specs.Prelude.{List, ◌⊎◌, ◌≢◌, ◌≡◌, ℕ, length}
use Rattle.basis.specs.declared.Answer.{Answer}
use Rattle.basis.specs.Answers.{Outcome}
use Rattle.demands.specs.Table.{Among}

-- acceptance with place 0, or a number of those that the table has for the call, with length 0
abbrev pub FromTable : List ℕ → Answer → Type 0
FromTable numbers a = ((a.number ≡ 0) × (a.place ≡ 0)) ⊎ (Among numbers a.number × (a.length ≡ 0))

-- the answer of a call that is lent a buffer, and the buffer: no longer and no shorter, and on a refusal what it held
pub record Answers (numbers : List ℕ) (buffer : List ℕ) (o : Outcome) : Type 0 where
  pub from_table : FromTable numbers o.answer
  pub held : o.answer.number ≢ 0 → o.left ≡ buffer
  pub sized : length o.left ≡ length buffer
