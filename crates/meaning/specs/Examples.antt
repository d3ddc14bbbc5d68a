-- Cases beside the starred sums: document 01's own text of a report, each number of the table of refusals with its place, and the ends of what
-- the entries and amounts of stock cards may be. Assumes nothing.
use Rattle.std.specs.Prelude.{List, [], ◌∷◌, map, ◌≡◌, ℕ, replicate, take}
use Rattle.basis.specs.declared.Answer.{Answer}
use Rattle.basis.specs.Bytes.{bytes_of, packed, ascii, splice}
use Rattle.basis.specs.Lists.{joined}
use Rattle.basis.specs.Answers.{Outcome}
use Rattle.meaning.specs.Register.{Source, encode}
use Rattle.meaning.specs.Text.{refused_line, accepted_line}
use Rattle.meaning.specs.Calls.{calculated, combined, removed, checked, text, amounts, found, found_of_two}
use Rattle.meaning.specs.Programs.{output, amounts_output}
use Rattle.meaning.specs.Starred.{gives, calculates, line, case}

-- "sources 8 and 7 in that order, equal names, each with the first case's line"
abbrev pub boiler : ℕ → Source
boiler number = record { number = number; method = 1; parameter = 0; name = ascii "Boiler DE-25"; lines = line 1 1 3 1000000 800000 10000 ∷ [] }

unfoldable pub twins : List ℕ
twins = encode 2023 (boiler 8 ∷ boiler 7 ∷ [])

-- what a call leaves at the front of a buffer of so many zeros, where it accepts with that length
unfoldable pub made : ℕ → (List ℕ → Outcome) → List ℕ
made room call = let o = call (replicate room 0) in take o.answer.length o.left

unfoldable pub report_of_sources : List Source → List ℕ
report_of_sources ss = made 200 (calculated (encode 2023 ss))

-- an answer, and the number and place that document 01's table has for it
pub record Row : Type 0 where
  pub answer : Answer
  pub number : ℕ
  pub place : ℕ

abbrev pub row : Answer → ℕ → ℕ → Row
row answer number place = record { answer = answer; number = number; place = place }

-- calculation of the twins' register with bytes written over it at a place. Its entries stand at 32 and 48, its lines at 64 and 84, its names
-- at 104 and 116, and it ends at 128.
unfoldable pub damaged : ℕ → List ℕ → Answer
damaged at bytes = (calculated (splice twins at bytes) (replicate 136 0)).answer

-- calculation of a boiler with this name
unfoldable pub named : List ℕ → Answer
named name = (calculated (encode 2023 (record { number = 7; method = 1; parameter = 0; name = name; lines = (boiler 7).lines } ∷ [])) (replicate 96 0)).answer

-- a boiler with two lines
abbrev pub pair : Source
pair = record { number = 7; method = 1; parameter = 0; name = ascii "K"; lines = line 1 1 3 1 1 1 ∷ line 1 1 3 1 1 1 ∷ [] }

unfoldable pub combining : List ℕ → List ℕ → ℕ → Answer
combining one other room = (combined one other (replicate room 0)).answer

unfoldable pub removing : ℕ → ℕ → Answer
removing number room = (removed (report_of_sources (boiler 8 ∷ boiler 7 ∷ [])) number (replicate room 0)).answer

-- stock cards with these entries each: received, dispatched, opening, closing
unfoldable pub cards : List (List ℕ) → List ℕ
cards entries = joined (map (packed (8 ∷ 8 ∷ 8 ∷ 8 ∷ [])) entries)

unfoldable pub working : List ℕ → ℕ → Answer
working bytes room = (amounts bytes (replicate room 0)).answer

-- a card with nothing on it
abbrev pub blank : List ℕ
blank = 0 ∷ 0 ∷ 0 ∷ 0 ∷ []

-- amounts of nothing, where less was received than dispatched, and of 10^10, three times; no entry is above 10^10
abbrev pub ends : List (List ℕ)
ends =
    blank
    ∷ (2 ∷ 9 ∷ 8 ∷ 1 ∷ [])
    ∷ (10000000000 ∷ 0 ∷ 0 ∷ 0 ∷ [])
    ∷ (10000000000 ∷ 10000000000 ∷ 10000000000 ∷ 0 ∷ [])
    ∷ (10000000000 ∷ 0 ∷ 10000000000 ∷ 10000000000 ∷ [])
    ∷ []

abbrev pub rows : List Row
rows =
    row (calculated (take 31 twins) []).answer 1 0
    -- the header: tag, layout, year, counts above their limits, offsets
    ∷ row (damaged 3 (ascii "P")) 2 0
    ∷ row (damaged 4 (2 ∷ [])) 2 4
    ∷ row (damaged 6 (bytes_of 2 1989)) 2 6
    ∷ row (damaged 8 (bytes_of 2 513)) 2 8
    ∷ row (damaged 10 (bytes_of 2 1025)) 2 10
    ∷ row (damaged 12 (bytes_of 4 16385)) 2 12
    ∷ row (damaged 16 (33 ∷ [])) 2 16
    -- one source, one line, one name byte too many; a byte more than is stated
    ∷ row (damaged 8 (3 ∷ [])) 2 20
    ∷ row (damaged 10 (3 ∷ [])) 2 24
    ∷ row (damaged 12 (25 ∷ [])) 2 28
    ∷ row (damaged 128 (0 ∷ [])) 2 28
    ∷ row (damaged 6 (bytes_of 2 2101)) 2 6
    -- number zero; pairs that are not listed; no line; a first line that is not the next; lines that run past
    ∷ row (damaged 48 (0 ∷ [])) 3 1
    ∷ row (damaged 36 (0 ∷ 0 ∷ [])) 3 0
    ∷ row (damaged 36 (1 ∷ 1 ∷ [])) 3 0
    ∷ row (damaged 36 (2 ∷ 1 ∷ [])) 3 0
    ∷ row (damaged 36 (3 ∷ 6 ∷ [])) 3 0
    ∷ row (damaged 36 (4 ∷ 0 ∷ [])) 3 0
    ∷ row (damaged 36 (4 ∷ 7 ∷ [])) 3 0
    ∷ row (damaged 36 (5 ∷ 1 ∷ [])) 3 0
    ∷ row (damaged 36 (6 ∷ 0 ∷ [])) 3 0
    ∷ row (damaged 36 (6 ∷ 7 ∷ [])) 3 0
    ∷ row (damaged 36 (7 ∷ 0 ∷ [])) 3 0
    ∷ row (damaged 38 (0 ∷ [])) 3 0
    ∷ row (damaged 56 (2 ∷ [])) 3 1
    ∷ row (damaged 54 (2 ∷ [])) 3 1
    -- no name; a name that is too long; one that begins elsewhere, one that runs past; bad name bytes; a name byte left over, a line left over
    ∷ row (damaged 42 (0 ∷ [])) 3 0
    ∷ row (named (replicate 65 65)) 3 0
    ∷ row (damaged 60 (11 ∷ [])) 3 1
    ∷ row (damaged 58 (13 ∷ [])) 3 1
    ∷ row (damaged 120 (31 ∷ [])) 3 1
    ∷ row (damaged 120 (127 ∷ [])) 3 1
    ∷ row (damaged 58 (11 ∷ [])) 3 2
    ∷ row (calculated (splice (encode 2023 (pair ∷ [])) 38 (1 ∷ [])) []).answer 3 1
    -- equal numbers; a unit that is none; a buffer that is a byte short
    ∷ row (damaged 48 (8 ∷ [])) 4 1
    ∷ row (damaged 85 (5 ∷ [])) 5 1
    ∷ row (calculated twins (replicate 135 0)).answer 8 136
    -- reports that are none; other years; a number in both; a buffer that is a byte short
    ∷ row (checked []) 9 1
    ∷ row (combining [] [] 56) 9 1
    ∷ row (combining (report_of_sources []) [] 56) 9 2
    ∷ row (combining (report_of_sources []) (made 56 (calculated (encode 2024 []))) 56) 10 0
    ∷ row (combining (report_of_sources (boiler 8 ∷ [])) (report_of_sources (boiler 9 ∷ boiler 8 ∷ [])) 136) 11 8
    ∷ row (combining (report_of_sources (boiler 8 ∷ [])) (report_of_sources (boiler 7 ∷ [])) 135) 8 136
    -- a number that is absent; a buffer that is a byte short
    ∷ row (removing 9 136) 13 9
    ∷ row (removing 7 95) 8 96
    -- cards: a byte too few, a byte too many, a card too many
    ∷ row (working (replicate 31 0) 8) 14 0
    ∷ row (working (replicate 33 0) 8) 14 0
    ∷ row (working (replicate 32800 0) 0) 14 0
    -- each entry one above 10^10
    ∷ row (working (cards (blank ∷ (10000000001 ∷ 1 ∷ 0 ∷ 0 ∷ []) ∷ [])) 16) 14 1
    ∷ row (working (cards (blank ∷ (1 ∷ 10000000001 ∷ 10000000000 ∷ 0 ∷ []) ∷ [])) 16) 14 1
    ∷ row (working (cards (blank ∷ (0 ∷ 1 ∷ 10000000001 ∷ 0 ∷ []) ∷ [])) 16) 14 1
    ∷ row (working (cards (blank ∷ (10000000000 ∷ 0 ∷ 1 ∷ 10000000001 ∷ []) ∷ [])) 16) 14 1
    -- an amount below zero by one, one above 10^10; the first of two; an entry of the last card before an amount of the first
    ∷ row (working (cards (blank ∷ (2 ∷ 9 ∷ 8 ∷ 2 ∷ []) ∷ [])) 16) 15 1
    ∷ row (working (cards ((10000000000 ∷ 0 ∷ 1 ∷ 0 ∷ []) ∷ [])) 8) 15 0
    ∷ row (working (cards (blank ∷ (0 ∷ 1 ∷ 0 ∷ 0 ∷ []) ∷ (0 ∷ 0 ∷ 0 ∷ 1 ∷ []) ∷ [])) 24) 15 1
    ∷ row (working (cards ((0 ∷ 1 ∷ 0 ∷ 0 ∷ []) ∷ blank ∷ (0 ∷ 0 ∷ 0 ∷ 10000000001 ∷ []) ∷ [])) 24) 14 2
    -- what cards are refused for comes before the room, which is a byte short
    ∷ row (working (cards ((0 ∷ 1 ∷ 0 ∷ 0 ∷ []) ∷ [])) 7) 15 0
    ∷ row (working (cards (blank ∷ blank ∷ [])) 15) 8 16
    ∷ []

-- what is still allowed: the shortest and the longest name, name bytes at the ends of what they may be, the first and the last year
abbrev pub allowed : List Answer
allowed =
    named (32 ∷ [])
    ∷ named (126 ∷ [])
    ∷ named (128 ∷ [])
    ∷ named (255 ∷ [])
    ∷ named (replicate 64 65)
    ∷ (calculated (encode 1990 (pair ∷ [])) (replicate 96 0)).answer
    ∷ (calculated (encode 2100 (pair ∷ [])) (replicate 96 0)).answer
    ∷ []

pub record Examples : Type 0 where
  pub within : allowed ≡ replicate 7 (record { number = 0; place = 0; length = 96 })
  -- two lines of half a gram each are rounded once, to a gram
  pub once : calculates (case 6 6 (line 30 1 0 1000 0 0 ∷ line 30 1 0 1000 0 0 ∷ []) (gives [])) ≡ gives (0 ∷ 0 ∷ 1 ∷ 298 ∷ [])
  -- "Dust without a measured share has B 10,000 and takes nothing away"
  pub dust : calculates (case 5 0 (line 20 1 1 1000 1000000 10000 ∷ line 21 1 1 1000 1000000 10000 ∷ []) (gives [])) ≡ gives (440000 ∷ 0 ∷ 0 ∷ 440000 ∷ [])
  -- the text that document 01 has for the twins
  pub shown : made 100 (text (report_of_sources (boiler 8 ∷ boiler 7 ∷ [])))
      ≡ ascii "2023 2 5862400000 0 0 5862400000\n7 1 2931200000 0 0 2931200000\n8 1 2931200000 0 0 2931200000\n"
  -- the lines of a refusal and of an acceptance
  pub refusal : refused_line 5 17 ≡ ascii "refused 5 17\n"
  pub acceptance : accepted_line 136 ≡ ascii "accepted 136\n"
  -- what the report program says of the twins, and where both have one number
  pub program : output twins (replicate 100 0)
      ≡ ascii "2023 2 5862400000 0 0 5862400000\n7 1 2931200000 0 0 2931200000\n8 1 2931200000 0 0 2931200000\n"
  pub program_refuses : output (splice twins 48 (8 ∷ [])) [] ≡ ascii "refused 4 1\n"
  -- the amounts of cards at the ends of what they may be; no cards
  pub worked_out : made 40 (amounts (cards ends)) ≡ joined (replicate 16 0 ∷ replicate 3 (0 ∷ 228 ∷ 11 ∷ 84 ∷ 2 ∷ 0 ∷ 0 ∷ 0 ∷ []))
  pub no_cards : amounts [] (1 ∷ []) ≡ record { answer = record { number = 0; place = 0; length = 0 }; left = 1 ∷ [] }
  -- a card that is refused behind one that is not leaves the buffer as it was
  pub amounts_kept : (amounts (cards ((5 ∷ 0 ∷ 0 ∷ 0 ∷ []) ∷ (0 ∷ 0 ∷ 0 ∷ 1 ∷ []) ∷ [])) (replicate 16 7)).left ≡ replicate 16 7
  -- what the program over cards says of them, and of a card whose amount is below zero
  pub amounts_said : amounts_output (cards ends) (replicate 40 0) ≡ ascii "0\n0\n10000000000\n10000000000\n10000000000\n"
  pub amounts_refused : amounts_output (cards ((0 ∷ 0 ∷ 0 ∷ 1 ∷ []) ∷ [])) (replicate 8 0) ≡ ascii "refused 15 0\n"
  pub refused : map (λ r. r.answer) rows ≡ map (λ r. record { number = r.number; place = r.place; length = 0 }) rows
  -- the reports of the twins combine to that of their register; one of them taken out leaves the other's
  pub together : made 136 (combined (report_of_sources (boiler 7 ∷ [])) (report_of_sources (boiler 8 ∷ []))) ≡ report_of_sources (boiler 8 ∷ boiler 7 ∷ [])
  pub apart : made 136 (removed (report_of_sources (boiler 8 ∷ boiler 7 ∷ [])) 8) ≡ report_of_sources (boiler 7 ∷ [])
  -- a name is a part of its register; a number in none, or in both registers, has none
  pub name : found twins 7 ≡ record { offset = 116; length = 12 }
  pub nameless : found twins 9 ≡ record { offset = 0; length = 0 }
  pub names : found_of_two (encode 2022 (boiler 3 ∷ [])) twins 7 ≡ record { which = 2; offset = 116; length = 12 }
  pub in_both : found_of_two twins twins 7 ≡ record { which = 1; offset = 0; length = 0 }
