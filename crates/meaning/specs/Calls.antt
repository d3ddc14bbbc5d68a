-- Documents 01, "Refusal numbers", and 02: each call as its tests in order, and what it leaves where it accepts. Assumes nothing.
use Rattle.std.specs.Prelude.{Bool, cond, not, ◌&&◌, List, [], ◌∷◌, ◌++◌, map, ℕ, ◌+◌, eqb, ltb, length, get_or, None}
use Rattle.basis.specs.declared.Answer.{Answer}
use Rattle.basis.specs.Answers.{Verdict, refuse_if, first_refusal, passes, answer, Outcome, settled}
use Rattle.basis.specs.Lists.{count_up, any, stands, joined, without}
use Rattle.basis.specs.First.{first}
use Rattle.meaning.specs.Methods.{Decoded, refusal_of}
use Rattle.meaning.specs.declared.Part.{Part}
use Rattle.meaning.specs.declared.Found.{Found}
use Rattle.meaning.specs.Masses.{below_zero, masses, equivalent, limit}
use Rattle.meaning.specs.Register.{Source, year_of, source_count, most_sources, sources_of, register_tests, decoded_lines, source_entry, number_in, name_length_in, name_place}
use Rattle.meaning.specs.Report.{Entry, entry_of, in_order, report_bytes, report_year, entries_of, entry_count, well_formed}
use Rattle.meaning.specs.Text.{report_text}
use Rattle.meaning.specs.Cards.{card_tests, amount_bytes}

-- "8 | report buffer too short | length needed"
abbrev pub room_test : List ℕ → List ℕ → Verdict
room_test made buffer = refuse_if (ltb (length buffer) (length made)) 8 (length made)

-- a call that writes what it makes to the front of a lent buffer, once all its tests, and that of the room, have passed
unfoldable pub written : List Verdict → List ℕ → List ℕ → Outcome
written tests made buffer = settled (first_refusal (tests ++ (room_test made buffer ∷ []))) made buffer

-- "5 | a line breaks its ranges or is wrong for its method | first such line's index", over the lines of all sources
unfoldable pub line_test : List Source → Verdict
line_test ss =
    let ls = joined (map decoded_lines ss) in
    first_refusal (map (λ j. refusal_of (get_or ls j None) j) (count_up 0 (length ls)))

-- what a source is refused for: "6 | CO2 sum below zero"; "7 | equivalent above 10^15"; 0 where it is not
unfoldable pub fault_of : List Decoded → ℕ
fault_of ls = cond (below_zero ls) 6 (cond (ltb limit (equivalent (masses ls))) 7 0)

abbrev pub mass_fault : Source → ℕ
mass_fault s = fault_of (decoded_lines s)

-- "then 6 and 7 source by source in table order", place the "source index"
unfoldable pub fault_at : List ℕ → ℕ → Bool
fault_at faults i = not (eqb (get_or faults i 0) 0)

unfoldable pub mass_test : List Source → Verdict
mass_test ss =
    let faults = map mass_fault ss in
    let i = first (fault_at faults) (length faults) in
    refuse_if (ltb i (length faults)) (get_or faults i 0) i

-- the entries of a register's report: one for each source
unfoldable pub entries_for : List Source → List Entry
entries_for ss = in_order (map entry_of ss)

-- "Calculation tests 1, 2 by field, 3 over all sources, 4 over all, 5 over all lines, then 6 and 7 .., then 8"
abbrev pub calculation_tests : List ℕ → List Verdict
calculation_tests register = register_tests register ++ (line_test (sources_of register) ∷ mass_test (sources_of register) ∷ [])

abbrev pub calculated_report : List ℕ → List ℕ
calculated_report register = report_bytes (year_of register) (entries_for (sources_of register))

unfoldable pub calculated : List ℕ → List ℕ → Outcome
calculated register report = written (calculation_tests register) (calculated_report register) report

-- "9 | a report is not well-formed | 1 or 2, which one; 1 if only one is lent"
abbrev pub form_test : List ℕ → ℕ → Verdict
form_test report which = refuse_if (not (well_formed report)) 9 which

-- "10 | years differ | 0"
abbrev pub year_test : List ℕ → List ℕ → Verdict
year_test one other = refuse_if (not (eqb (report_year one) (report_year other))) 10 0

-- "11 | a number stands in both reports | the smallest such": the first of the one, which ascends, that stands in the other
unfoldable pub shared_at : List ℕ → List ℕ → ℕ → Bool
shared_at ns ms i = stands (get_or ns i 0) ms

unfoldable pub shared_test : List ℕ → List ℕ → Verdict
shared_test one other =
    let ns = map (λ e. e.number) (entries_of one) in
    let ms = map (λ e. e.number) (entries_of other) in
    let i = first (shared_at ns ms) (length ns) in
    refuse_if (ltb i (length ns)) 11 (get_or ns i 0)

-- "12 | combined count above 512 | that count"
abbrev pub count_test : List ℕ → List ℕ → Verdict
count_test one other = refuse_if (ltb most_sources (entry_count one + entry_count other)) 12 (entry_count one + entry_count other)

-- "all entries of both"
unfoldable pub both_entries : List ℕ → List ℕ → List Entry
both_entries one other = in_order (entries_of one ++ entries_of other)

-- "Combining: 9 for the first, 9 for the second, 10, 11, 12, 8"
abbrev pub combination_tests : List ℕ → List ℕ → List Verdict
combination_tests one other = form_test one 1 ∷ form_test other 2 ∷ year_test one other ∷ shared_test one other ∷ count_test one other ∷ []

-- "Combining writes the well-formed report of all entries of both"
abbrev pub combined_report : List ℕ → List ℕ → List ℕ
combined_report one other = report_bytes (report_year one) (both_entries one other)

unfoldable pub combined : List ℕ → List ℕ → List ℕ → Outcome
combined one other report = written (combination_tests one other) (combined_report one other) report

-- an entry has a number
abbrev pub numbered : ℕ → Entry → Bool
numbered n e = eqb e.number n

-- "13 | number to remove is absent | the number"
abbrev pub absent_test : List ℕ → ℕ → Verdict
absent_test report number = refuse_if (not (any (numbered number) (entries_of report))) 13 number

-- "Removal: 9, 13, 8"
abbrev pub removal_tests : List ℕ → ℕ → List Verdict
removal_tests report number = form_test report 1 ∷ absent_test report number ∷ []

-- "Removal writes the report without that entry"
abbrev pub removed_report : List ℕ → ℕ → List ℕ
removed_report report number = report_bytes (report_year report) (without (numbered number) (entries_of report))

unfoldable pub removed : List ℕ → ℕ → List ℕ → Outcome
removed report number result = written (removal_tests report number) (removed_report report number) result

-- "The report check has only 9, place 1"; the length is that of the report judged
unfoldable pub checked : List ℕ → Answer
checked report = answer (form_test report 1) (length report)

-- the text of a report: 9 with place 1, then 8
unfoldable pub text : List ℕ → List ℕ → Outcome
text report buffer = written (form_test report 1 ∷ []) (report_text (report_year report) (entries_of report)) buffer

-- document 02: "cards are worked out in a call of their own": 14 by length, 14 over all cards, 15 over all cards, "then 8"
unfoldable pub amounts : List ℕ → List ℕ → Outcome
amounts cards buffer = written (card_tests cards) (amount_bytes cards) buffer

-- Names. Whether the tests 1 to 4 accept a register, and at which entry a number stands
unfoldable pub accepted : List ℕ → Bool
accepted register = passes (first_refusal (register_tests register))

unfoldable pub has_number : List ℕ → ℕ → ℕ → Bool
has_number register number i = eqb (number_in (source_entry register i)) number

unfoldable pub index_of : List ℕ → ℕ → ℕ
index_of register number = first (has_number register number) (source_count register)

unfoldable pub holds : List ℕ → ℕ → Bool
holds register number = ltb (index_of register number) (source_count register)

-- the name of entry i, where it stands
unfoldable pub name_at : List ℕ → ℕ → Part
name_at register i = record { offset = name_place register i; length = name_length_in (source_entry register i) }

-- "The name found for a number is the part of the lent register where it stands"; "the empty part at the front .. where 1 to 4 refuse .., where
-- the number is absent"
unfoldable pub found : List ℕ → ℕ → Part
found register number =
    cond (accepted register && holds register number) (name_at register (index_of register number)) (record { offset = 0; length = 0 })

abbrev pub in_register : ℕ → Part → Found
in_register which p = record { which = which; offset = p.offset; length = p.length }

-- "the name is a part of whichever register holds the number"; "the empty part at the front of the (first) register where 1 to 4 refuse any
-- register given, where the number is absent, or where it stands in both registers"
unfoldable pub found_of_two : List ℕ → List ℕ → ℕ → Found
found_of_two plant contractor number =
    let both = accepted plant && accepted contractor in
    cond (both && holds plant number && not (holds contractor number)) (in_register 1 (found plant number))
    (cond (both && not (holds plant number) && holds contractor number) (in_register 2 (found contractor number))
    (record { which = 1; offset = 0; length = 0 }))
