-- Answers, outcomes, and a call as an ordered list of tests. Document 01, "Refusal numbers". Assumes nothing.
use Rattle.std.specs.Prelude.{Result, Ok, Err, is_ok, Bool, cond, List, [], ◌∷◌, ◌≡◌, ℕ, ◌+◌, length, take, drop, ltb}
use Rattle.basis.specs.declared.Answer.{Answer}
use Rattle.basis.specs.declared.Refusal.{Refusal}
use Rattle.basis.specs.Bytes.{splice}
use Rattle.basis.specs.First.{first}

-- what a test finds: it passes, or refuses with a number of the table and a place
abbrev pub Verdict : Type 0
Verdict = Result (Unit {0}) Refusal

abbrev pub Passes : Verdict
Passes = Ok tt

abbrev pub Refuses : ℕ → ℕ → Verdict
Refuses number place = Err (record { number = number; place = place })

-- a test refuses with its number and place where something is wrong
abbrev pub refuse_if : Bool → ℕ → ℕ → Verdict
refuse_if wrong number place = cond wrong (Refuses number place) Passes

-- a test of each index below a count refuses at the first that is wrong
unfoldable pub refuse_at_first : ℕ → (ℕ → Bool) → ℕ → Verdict
refuse_at_first number wrong count = refuse_if (ltb (first wrong count) count) number (first wrong count)

-- the verdict of a call: that of the first of its tests that refuses
unfoldable pub first_refusal : List Verdict → Verdict
first_refusal [] = Passes
first_refusal (Ok done ∷ tests) = first_refusal tests
first_refusal (Err refusal ∷ tests) = Err refusal

abbrev pub passes : Verdict → Bool
passes = is_ok

-- "Acceptance is 0, place 0 and the report's length"; "A refusal has length 0"
abbrev pub answer : Verdict → ℕ → Answer
answer (Ok done) size = record { number = 0; place = 0; length = size }
answer (Err refusal) size = record { number = refusal.number; place = refusal.place; length = 0 }

-- the answer of a call that either made so much or was refused
abbrev pub answered : Result ℕ Refusal → Answer
answered (Ok size) = answer Passes size
answered (Err refusal) = answer (Err refusal) 0

-- a call's answer, and the bytes that it leaves in the buffer lent to it
pub record Outcome : Type 0 where
  pub answer : Answer
  pub left : List ℕ

-- "A refusal .. writes nothing"; on acceptance what was made stands at the front and "bytes after that length stay"
unfoldable pub settled : Verdict → List ℕ → List ℕ → Outcome
settled (Ok done) made buffer = record { answer = answer Passes (length made); left = splice buffer 0 made }
settled (Err refusal) made buffer = record { answer = answer (Err refusal) 0; left = buffer }

-- a promise of an outcome: this answer, and these bytes at the end
pub record Gives (promised : Outcome) (given : Answer) (bytes : List ℕ) : Type 0 where
  pub answers : given ≡ promised.answer
  pub leaves : bytes ≡ promised.left

-- a promise of a part of lent bytes, whose place is counted from a base: what it holds, and where it stands
pub record Shows {A : Type 0} (bytes : List ℕ) (base : A) (start offset size : ℕ) (held : List ℕ) (place : A × ℕ) : Type 0 where
  pub holds : held ≡ take size (drop offset bytes)
  pub stands : place ≡ (base, offset + start)
