-- "Each refusal is given exactly when the table says." The rows of document 01's table, and those that document 02 adds, call by call, in the order
-- of the tests. Assumes nothing.
use Rattle.std.specs.Prelude.{List, [], ◌∷◌, ◌++◌, ◌⊎◌, ◌≢◌, ◌≡◌, ℕ, ◌+◌, ◌*◌, ◌-◌, ◌%◌, ◌≤◌, ◌<◌, ◌^◌, length, take}
use Rattle.basis.specs.Bytes.{number_at}
use Rattle.meaning.specs.declared.RawLine.{RawLine}
use Rattle.meaning.specs.Report.{Entry}
use Rattle.demands.specs.Table.{Among, 1_to_6, CO2, CH4, N2O, adds, takes, NoRow, FitAll, total, Nearest}
use Rattle.demands.specs.Fields.{year_in, sources_in, lines_in, name_bytes_in, number, method, parameter, line_count, first_line, name_length, name_offset, lines_before, names_before, name_byte, line_at, lines_of, report_year, entries_in, report_number, cards_in, received, dispatched, opening, closing}
use Rattle.demands.specs.Valid.{IsReport}
use Rattle.demands.specs.Text.{IsText}
use Rattle.demands.specs.Exactly.{Row, at, at_smallest, with_number}

-- 2: "a header field is wrong", its first byte
abbrev pub header_rows : List ℕ → List Row
header_rows b =
    at 2 0 (take 4 b ≢ 71 ∷ 82 ∷ 69 ∷ 71 ∷ [])
    ∷ at 2 4 (number_at 2 b 4 ≢ 1)
    ∷ at 2 6 ((year_in b < 1990) ⊎ (2100 < year_in b))
    ∷ at 2 8 (512 < sources_in b)
    ∷ at 2 10 (1024 < lines_in b)
    ∷ at 2 12 (16384 < name_bytes_in b)
    ∷ at 2 16 (number_at 4 b 16 ≢ 32)
    ∷ at 2 20 (number_at 4 b 20 ≢ 32 + 16 * sources_in b)
    ∷ at 2 24 (number_at 4 b 24 ≢ 32 + 16 * sources_in b + 20 * lines_in b)
    ∷ at 2 28
    ((number_at 4 b 28 ≢ 32 + 16 * sources_in b + 20 * lines_in b + name_bytes_in b) ⊎ (length b ≢ 32 + 16 * sources_in b + 20 * lines_in b + name_bytes_in b))
    ∷ []

-- "a pair listed under the methods": the sixteen
abbrev pub Listed : ℕ → ℕ → Type 0
Listed m p = (Among (1 ∷ 2 ∷ 3 ∷ 5 ∷ []) m × (p ≡ 0)) ⊎ (Among (4 ∷ 6 ∷ []) m × Among 1_to_6 p)

-- 3: what may be wrong with source entry i or its name. "number (4, not zero), method and parameter (.. a pair listed ..), line count (2, at least 1)
-- .. name length (2, 1 to 64)"; "A name byte is none below 32 and not 127"; "each next where the one before ended"; "An entry whose lines or
-- name run past m or t is itself wrong"
abbrev pub WrongSource : List ℕ → ℕ → Type 0
WrongSource b i =
    (number b i ≡ 0)
    ⊎ (Listed (method b i) (parameter b i) → ⊥)
    ⊎ (line_count b i ≡ 0)
    ⊎ (name_length b i ≡ 0)
    ⊎ (64 < name_length b i)
    ⊎ ((k : ℕ) × (k < name_length b i) × ((name_byte b i k < 32) ⊎ (name_byte b i k ≡ 127)))
    ⊎ (first_line b i ≢ lines_before b i)
    ⊎ (name_offset b i ≢ names_before b i)
    ⊎ (lines_in b < first_line b i + line_count b i)
    ⊎ (name_bytes_in b < name_offset b i + name_length b i)

-- 4: some entry before entry i has its number
abbrev pub Repeated : List ℕ → ℕ → Type 0
Repeated b i = (j : ℕ) × (j < i) × (number b j ≡ number b i)

-- 1 to 4, in that order
abbrev pub register_rows : List ℕ → List Row
register_rows b =
    at 1 0 (length b < 32)
    ∷ header_rows b
    ++ (at_smallest (sources_in b) (with_number 3 (WrongSource b))
    ∷ at 3 (sources_in b) ((lines_before b (sources_in b) ≢ lines_in b) ⊎ (names_before b (sources_in b) ≢ name_bytes_in b))
    ∷ at_smallest (sources_in b) (with_number 4 (Repeated b))
    ∷ [])

-- 5: line j of the table is among the lines of some source i, and no row of the method table fits it
abbrev pub BadLine : List ℕ → ℕ → Type 0
BadLine b j = (i : ℕ) × (i < sources_in b) × (first_line b i ≤ j) × (j < first_line b i + line_count b i) × NoRow (method b i) (parameter b i) (line_at b j)

-- 6: the rows of a source's lines take more CO2 than they add
abbrev pub BelowZero : ℕ → ℕ → List RawLine → Type 0
BelowZero m p ls = (rows : List ℕ) × FitAll m p rows ls × (total adds CO2 p rows ls < total takes CO2 p rows ls)

-- 7: the nearest whole grams of its three sums, over 10^10, 10^7 and 10^4, come to an equivalent above 10^15
abbrev pub AboveLimit : ℕ → ℕ → List RawLine → Type 0
AboveLimit m p ls =
    (rows : List ℕ) × (x : ℕ) × (y : ℕ) × (z : ℕ) × FitAll m p rows ls
    × Nearest (total adds CO2 p rows ls - total takes CO2 p rows ls) (10 ^ 10) x
    × Nearest (total adds CH4 p rows ls) (10 ^ 7) y
    × Nearest (total adds N2O p rows ls) (10 ^ 4) z
    × (10 ^ 15 < x + 25 * y + 298 * z)

-- of source i
abbrev pub MassFault : List ℕ → ℕ → ℕ → Type 0
MassFault b n i =
    let m = method b i in
    let p = parameter b i in
    let ls = lines_of b i in
    ((n ≡ 6) × BelowZero m p ls) ⊎ ((n ≡ 7) × (BelowZero m p ls → ⊥) × AboveLimit m p ls)

-- 8: the buffer has less room than a report of so many entries needs
abbrev pub room_row : ℕ → ℕ → Row
room_row entries room = at 8 (56 + 40 * entries) (room < 56 + 40 * entries)

-- "Calculation tests 1, 2 by field, 3 over all sources, 4 over all, 5 over all lines, then 6 and 7 source by source in table order, then 8"
abbrev pub source_rows : List ℕ → List Row
source_rows b = register_rows b ++ (at_smallest (lines_in b) (with_number 5 (BadLine b)) ∷ at_smallest (sources_in b) (MassFault b) ∷ [])

abbrev pub calculation_rows : List ℕ → ℕ → List Row
calculation_rows b room = source_rows b ++ (room_row (sources_in b) room ∷ [])

-- 9: the bytes are the report of no year and entries
abbrev pub NoReport : List ℕ → Type 0
NoReport b = (year : ℕ) (es : List Entry) → IsReport b year es → ⊥

-- some entry of a report has a number
abbrev pub HasNumber : List ℕ → ℕ → Type 0
HasNumber b x = (i : ℕ) × (i < entries_in b) × (report_number b i ≡ x)

abbrev pub InBoth : List ℕ → List ℕ → ℕ → Type 0
InBoth one other x = HasNumber one x × HasNumber other x

-- "Combining: 9 for the first, 9 for the second, 10, 11, 12, 8"
abbrev pub combination_rows : List ℕ → List ℕ → ℕ → List Row
combination_rows one other room =
    at 9 1 (NoReport one)
    ∷ at 9 2 (NoReport other)
    ∷ at 10 0 (report_year one ≢ report_year other)
    ∷ (λ n p. (n ≡ 11) × InBoth one other p × ((x : ℕ) → x < p → InBoth one other x → ⊥))
    ∷ at 12 (entries_in one + entries_in other) (512 < entries_in one + entries_in other)
    ∷ room_row (entries_in one + entries_in other) room
    ∷ []

-- "Removal: 9, 13, 8"
abbrev pub removal_rows : List ℕ → ℕ → ℕ → List Row
removal_rows report number room =
    at 9 1 (NoReport report) ∷ at 13 number (HasNumber report number → ⊥) ∷ room_row (entries_in report - 1) room ∷ []

-- "The report check has only 9, place 1"
abbrev pub check_rows : List ℕ → List Row
check_rows report = at 9 1 (NoReport report) ∷ []

-- a text: 9, then 8 with the text's length
abbrev pub TextLength : List ℕ → ℕ → Type 0
TextLength report n = (t : List ℕ) × IsText report t × (length t ≡ n)

abbrev pub text_rows : List ℕ → ℕ → List Row
text_rows report room = at 9 1 (NoReport report) ∷ (λ n p. (n ≡ 8) × TextLength report p × (room < p)) ∷ []

-- 14: "a broken length or too many cards": not whole cards of 32 bytes, or more than 1,024
abbrev pub NotCards : List ℕ → Type 0
NotCards b = (length b % 32 ≢ 0) ⊎ (32 * 1024 < length b)

-- 14: "an entry out of range", above 10^10, of card i
abbrev pub EntryAbove : List ℕ → ℕ → Type 0
EntryAbove b i = (10 ^ 10 < received b i) ⊎ (10 ^ 10 < dispatched b i) ⊎ (10 ^ 10 < opening b i) ⊎ (10 ^ 10 < closing b i)

-- 15: "an amount below zero or above 10^10", of card i: less comes in than goes out, or more than 10^10 more does
abbrev pub NoAmount : List ℕ → ℕ → Type 0
NoAmount b i =
    (received b i + opening b i < dispatched b i + closing b i) ⊎ (dispatched b i + closing b i + 10 ^ 10 < received b i + opening b i)

-- "14 for a broken length or too many cards, place 0; then 14 for an entry out of range, then 15 for an amount below zero or above 10^10, each at the
-- first such card; then 8": eight bytes a card
abbrev pub card_rows : List ℕ → List Row
card_rows b =
    at 14 0 (NotCards b)
    ∷ at_smallest (cards_in b) (with_number 14 (EntryAbove b))
    ∷ at_smallest (cards_in b) (with_number 15 (NoAmount b))
    ∷ []

abbrev pub amount_rows : List ℕ → ℕ → List Row
amount_rows b room = card_rows b ++ (at 8 (8 * cards_in b) (room < 8 * cards_in b) ∷ [])
