-- Document 01, "The report program", said a second time: what a text's bytes are. "One space parts fields, a line feed ends each line, numbers are
-- plain decimals." Assumes nothing.
use Rattle.std.specs.Prelude.{List, [], ◌∷◌, ◌++◌, map, ◌≢◌, ◌≡◌, ℕ, ◌+◌, ◌*◌, ◌-◌, ◌≤◌, length, get_or}
use Rattle.basis.specs.declared.Answer.{Answer}
use Rattle.basis.specs.Lists.{Each, sum}
use Rattle.meaning.specs.Report.{Entry}
use Rattle.meaning.specs.Text.{report_text, refused_line, accepted_line}
use Rattle.meaning.specs.Programs.{answer_line}
use Rattle.demands.specs.Table.{CO2, CH4, N2O}
use Rattle.demands.specs.Valid.{mass_of, equivalent_of, Entered, Reportable, IsReport}

-- the number that digits stand for, highest first, behind a number
abbrev pub read_behind : ℕ → List ℕ → ℕ
read_behind n [] = n
read_behind n (d ∷ ds) = read_behind (10 * n + (d - 48)) ds

-- bytes that are a plain decimal: digits and nothing else, at least one, no needless zero in front; they are read back to the number
pub record Decimal (n : ℕ) (ds : List ℕ) : Type 0 where
  pub digits : Each (λ d. (48 ≤ d) × (d ≤ 57)) ds
  pub some : 1 ≤ length ds
  pub no_zero : get_or ds 0 0 ≡ 48 → length ds ≡ 1
  pub reads : read_behind 0 ds ≡ n

-- a line of numbers: one space, 32, between two, and a line feed, 10, behind the last
abbrev pub Line : List ℕ → List ℕ → Type 0
Line [] t = t ≡ 10 ∷ []
Line (n ∷ []) t = (ds : List ℕ) × Decimal n ds × (t ≡ ds ++ (10 ∷ []))
Line (n ∷ m ∷ ns) t = (ds : List ℕ) × (rest : List ℕ) × Decimal n ds × Line (m ∷ ns) rest × (t ≡ ds ++ (32 ∷ rest))

abbrev pub Lines : List (List ℕ) → List ℕ → Type 0
Lines [] t = t ≡ []
Lines (ns ∷ lines) t = (first : List ℕ) × (rest : List ℕ) × Line ns first × Lines lines rest × (t ≡ first ++ rest)

-- "year, count and the four totals, then one line an entry: number, method, CO2, CH4, N2O, equivalent"
abbrev pub printed : ℕ → List Entry → List (List ℕ)
printed year es =
    (year ∷ length es ∷ sum (map (mass_of CO2) es) ∷ sum (map (mass_of CH4) es) ∷ sum (map (mass_of N2O) es) ∷ sum (map equivalent_of es) ∷ [])
    ∷ map (λ e. e.number ∷ e.method ∷ mass_of CO2 e ∷ mass_of CH4 e ∷ mass_of N2O e ∷ equivalent_of e ∷ []) es

-- bytes are the text of a report
abbrev pub IsText : List ℕ → List ℕ → Type 0
IsText report t = (year : ℕ) × (es : List Entry) × IsReport report year es × Lines (printed year es) t

-- "A refusal is the line `refused`, number, place": the eight bytes of the word and its space, then the two numbers
abbrev pub RefusalLine : ℕ → ℕ → List ℕ → Type 0
RefusalLine number place t = (rest : List ℕ) × Line (number ∷ place ∷ []) rest × (t ≡ 114 ∷ 101 ∷ 102 ∷ 117 ∷ 115 ∷ 101 ∷ 100 ∷ 32 ∷ rest)

-- likewise the line `accepted`, length
abbrev pub AcceptedLine : ℕ → List ℕ → Type 0
AcceptedLine size t = (rest : List ℕ) × Line (size ∷ []) rest × (t ≡ 97 ∷ 99 ∷ 99 ∷ 101 ∷ 112 ∷ 116 ∷ 101 ∷ 100 ∷ 32 ∷ rest)

-- what a program says of the answer of a call that leaves its report in a file
pub record SaysAnswer (a : Answer) (t : List ℕ) : Type 0 where
  pub accepted : a.number ≡ 0 → AcceptedLine a.length t
  pub refused : a.number ≢ 0 → RefusalLine a.number a.place t

pub record Texts : Type 0 where
  -- there is one such text, and it is the one of the meaning
  pub written : (year : ℕ) (es : List Entry) → Each Entered es → Lines (printed year es) (report_text year es)
  pub once : (lines : List (List ℕ)) (t u : List ℕ) → Lines lines t → Lines lines u → t ≡ u
  -- the lines of an acceptance and of a refusal, for every number and place
  pub refusal : (number place : ℕ) → RefusalLine number place (refused_line number place)
  pub acceptance : (size : ℕ) → AcceptedLine size (accepted_line size)
  pub answer : (a : Answer) → SaysAnswer a (answer_line a)

-- No text is longer, so a room of 40,960 bytes, as a program lends, is enough for each.
abbrev pub Longest : Type 0
Longest = (year : ℕ) (es : List Entry) → Reportable year es → length (report_text year es) ≤ 38994
