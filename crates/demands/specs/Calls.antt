-- What demands 1 and 2 say of each call: of its answer, and of what it leaves in the buffer lent to it. It is said of the bytes alone, whatever
-- sources, entries and text a call may go by. Assumes nothing.
use Rattle.std.specs.Prelude.{List, [], ◌∷◌, ◌++◌, map, ◌⊎◌, ◌↔◌, ◌≡◌, ℕ, ◌+◌, ◌≤◌, length, take, drop}
use Rattle.basis.specs.declared.Answer.{Answer}
use Rattle.basis.specs.Bytes.{Bytes}
use Rattle.basis.specs.Answers.{Outcome}
use Rattle.meaning.specs.declared.Part.{Part}
use Rattle.meaning.specs.declared.Found.{Found}
use Rattle.meaning.specs.Calls.{calculated, combined, removed, checked, text, amounts, found, found_of_two}
use Rattle.meaning.specs.Programs.{text_output, output, amounts_output}
use Rattle.demands.specs.Text.{Lines, IsText, RefusalLine}
use Rattle.demands.specs.Exactly.{Row, FirstOf, Exactly}
use Rattle.demands.specs.Refusals.{NoReport, source_rows, calculation_rows, combination_rows, removal_rows, check_rows, text_rows, card_rows, amount_rows}
use Rattle.demands.specs.Trees.{Accepted}
use Rattle.demands.specs.Demand1.{FromTable, Answers}
use Rattle.demands.specs.Demand2.{ReportOf, ReportOfBoth, ReportWithout, Consumed, AmountsOf, Refused, Numbered, Absent, IsName, part_of}

-- what an accepted call leaves: "the report's length; bytes after that length stay"
pub record Leaves (Made : List ℕ → Type 0) (buffer : List ℕ) (o : Outcome) : Type 0 where
  pub bytes : List ℕ
  pub made : Made bytes
  pub answers : o.answer.length ≡ length bytes
  pub left : o.left ≡ bytes ++ drop (length bytes) buffer

-- a call that writes to a lent buffer
pub record Writes (numbers : List ℕ) (rows : List Row) (Made : List ℕ → Type 0) (buffer : List ℕ) (o : Outcome) : Type 0 where
  -- 1: "A refusal gives its number and place from the table, and the report buffer holds what it held"
  pub answers : Answers numbers buffer o
  -- 2: "Each refusal is given exactly when the table says"
  pub exactly : Exactly rows o.answer
  -- 2: "Report, combination and removal are fixed to the byte"
  pub leaves : Accepted o → Leaves Made buffer o

abbrev pub Calculates : List ℕ → List ℕ → Outcome → Type 0
Calculates register report = Writes (1 ∷ 2 ∷ 3 ∷ 4 ∷ 5 ∷ 6 ∷ 7 ∷ 8 ∷ []) (calculation_rows register (length report)) (ReportOf register) report

abbrev pub Combines : List ℕ → List ℕ → List ℕ → Outcome → Type 0
Combines one other report = Writes (8 ∷ 9 ∷ 10 ∷ 11 ∷ 12 ∷ []) (combination_rows one other (length report)) (ReportOfBoth one other) report

abbrev pub Removes : List ℕ → ℕ → List ℕ → Outcome → Type 0
Removes report number result = Writes (8 ∷ 9 ∷ 13 ∷ []) (removal_rows report number (length result)) (ReportWithout report number) result

abbrev pub Prints : List ℕ → List ℕ → Outcome → Type 0
Prints report buffer = Writes (8 ∷ 9 ∷ []) (text_rows report (length buffer)) (IsText report) buffer

abbrev pub WorksOut : List ℕ → List ℕ → Outcome → Type 0
WorksOut cards buffer = Writes (8 ∷ 14 ∷ 15 ∷ []) (amount_rows cards (length buffer)) (AmountsOf cards) buffer

-- the report check writes nothing, and its length is that of the report judged
pub record Checks (report : List ℕ) (a : Answer) : Type 0 where
  pub from_table : FromTable (9 ∷ []) a
  pub exactly : Exactly (check_rows report) a
  pub judged : a.number ≡ 0 → a.length ≡ length report

-- the name of a number in a register: empty exactly where 1 to 4 refuse the register or the number is absent, and then at the front; else the name
-- where it stands
pub record Finds (b : List ℕ) (x : ℕ) (p : Part) : Type 0 where
  pub none : (p.length ≡ 0) ↔ (Refused b ⊎ Absent b x)
  pub front : p.length ≡ 0 → p.offset ≡ 0
  pub name : (i : ℕ) → (Refused b → ⊥) → Numbered b x i → IsName b i p

-- of two registers: empty exactly where 1 to 4 refuse either, or the number is absent from both, or stands in both, and then at the front of the first
pub record FindsOfTwo (plant contractor : List ℕ) (x : ℕ) (f : Found) : Type 0 where
  pub none : (f.length ≡ 0)
      ↔ (Refused plant ⊎ Refused contractor ⊎ (Absent plant x × Absent contractor x) ⊎ (((i : ℕ) × Numbered plant x i) × ((j : ℕ) × Numbered contractor x j)))
  pub front : f.length ≡ 0 → f ≡ record { which = 1; offset = 0; length = 0 }
  pub of_plant : (i : ℕ) → (Refused plant → ⊥) → (Refused contractor → ⊥) → Numbered plant x i → Absent contractor x → (f.which ≡ 1) × IsName plant i (part_of f)
  pub of_contractor : (j : ℕ) → (Refused plant → ⊥) → (Refused contractor → ⊥) → Absent plant x → Numbered contractor x j
      → (f.which ≡ 2) × IsName contractor j (part_of f)

-- "The name found for a number is the part of the lent register where it stands, not a copy": bytes and place of a part of bytes that are lent from a
-- place on
pub record IsPartOf (lent : List ℕ) (from : ℕ × ℕ) (p : Part) (held : List ℕ) (place : ℕ × ℕ) : Type 0 where
  pub holds : held ≡ take p.length (drop p.offset lent)
  pub stands : place ≡ (from.0, p.offset + from.1)

pub record HandsBack (register : List ℕ) (from : ℕ × ℕ) (number : ℕ) (held : List ℕ) (place : ℕ × ℕ) : Type 0 where
  pub name : Part
  pub finds : Finds register number name
  pub part : IsPartOf register from name held place

-- "the name is a part of whichever register holds the number"
pub record HandsBackEither (plant : List ℕ) (from : ℕ × ℕ) (contractor : List ℕ) (from' : ℕ × ℕ) (number : ℕ) (held : List ℕ) (place : ℕ × ℕ) : Type 0 where
  pub name : Found
  pub finds : FindsOfTwo plant contractor number name
  pub part : ((name.which ≡ 1) × IsPartOf plant from (part_of name) held place) ⊎ ((name.which ≡ 2) × IsPartOf contractor from' (part_of name) held place)

-- "The report program reads a register on standard input and writes" the text of its report; "A refusal is the line `refused`, number, place", and is one of
-- 1 to 7, since the program has room for every report
pub record SaysRegister (register t : List ℕ) : Type 0 where
  pub refused : (n p : ℕ) → FirstOf (source_rows register) n p → RefusalLine n p t
  pub shown : ((n p : ℕ) → FirstOf (source_rows register) n p → ⊥) → (bytes : List ℕ) × ReportOf register bytes × IsText bytes t

-- likewise of a report
pub record SaysReport (report t : List ℕ) : Type 0 where
  pub refused : NoReport report → RefusalLine 9 1 t
  pub shown : (NoReport report → ⊥) → IsText report t

-- of cards: one decimal a line, or a refusal, which is 14 or 15, since the program has room for the amounts of 1,024 cards
pub record SaysAmounts (cards t : List ℕ) : Type 0 where
  pub refused : (n p : ℕ) → FirstOf (card_rows cards) n p → RefusalLine n p t
  pub shown : ((n p : ℕ) → FirstOf (card_rows cards) n p → ⊥) → (ns : List ℕ) × Consumed cards ns × Lines (map (λ n. n ∷ []) ns) t

-- each call of the meaning, on every list of bytes; a program's room for a text, and for amounts, is as large as the longest
pub record Calls : Type 0 where
  pub calculation : (register report : List ℕ) → Bytes register → Calculates register report (calculated register report)
  pub combination : (one other report : List ℕ) → Bytes one → Bytes other → Combines one other report (combined one other report)
  pub removal : (report result : List ℕ) (number : ℕ) → Bytes report → Removes report number result (removed report number result)
  pub check : (report : List ℕ) → Bytes report → Checks report (checked report)
  pub printing : (report buffer : List ℕ) → Bytes report → Prints report buffer (text report buffer)
  pub working : (cards buffer : List ℕ) → WorksOut cards buffer (amounts cards buffer)
  pub name : (register : List ℕ) (number : ℕ) → Finds register number (found register number)
  pub name_of_two : (plant contractor : List ℕ) (number : ℕ) → FindsOfTwo plant contractor number (found_of_two plant contractor number)
  pub program : (register room : List ℕ) → Bytes register → 38994 ≤ length room → SaysRegister register (output register room)
  pub show : (report room : List ℕ) → Bytes report → 38994 ≤ length room → SaysReport report (text_output report room)
  pub say_amounts : (cards room : List ℕ) → 8192 ≤ length room → SaysAmounts cards (amounts_output cards room)
