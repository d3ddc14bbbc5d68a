-- Document 01, "The report": its entries, its totals, its bytes, and when it is well-formed. Assumes nothing.
use Rattle.std.specs.Prelude.{Bool, not, ◌&&◌, ◌||◌, List, [], ◌∷◌, ◌++◌, map, ℕ, zero, suc, ◌+◌, ◌*◌, eqb, ltb, leb, length, get_or, drop, replicate}
use Rattle.basis.specs.Bytes.{number_at, packed, ascii, starts_with}
use Rattle.basis.specs.Lists.{sum, count_up, any, joined, sorted_by}
use Rattle.meaning.specs.Methods.{within}
use Rattle.meaning.specs.Masses.{gas_count, gases, masses, equivalent, limit}
use Rattle.meaning.specs.Register.{Source, is_year, most_sources, decoded_lines}

-- an entry: a source's number and method, and its masses by gas
pub record Entry : Type 0 where
  pub number : ℕ
  pub method : ℕ
  pub masses : List ℕ

-- the entry of a source
unfoldable pub entry_of : Source → Entry
entry_of s = record { number = s.number; method = s.method; masses = masses (decoded_lines s) }

-- the figures of an entry: "CO2, CH4, N2O, CO2-equivalent"
unfoldable pub figures : Entry → List ℕ
figures e = e.masses ++ (equivalent e.masses ∷ [])

abbrev pub figure_count : ℕ
figure_count = gas_count + 1

-- "the totals of CO2, CH4, N2O and CO2-equivalent": each is the sum of that figure over the entries
unfoldable pub figure : ℕ → Entry → ℕ
figure k e = get_or (figures e) k 0

unfoldable pub totals : List Entry → List ℕ
totals es = map (λ k. sum (map (figure k) es)) (count_up 0 figure_count)

-- "Every report starts with the four bytes GREP. Then: layout 1 (2) .. offset of entries 56 (4), whole length 56 + 40n (4)"
abbrev pub report_tag : List ℕ
report_tag = ascii "GREP"

abbrev pub report_layout : ℕ
report_layout = 1

abbrev pub entries_at : ℕ
entries_at = 56

abbrev pub entry_length : ℕ
entry_length = 40

abbrev pub report_length : ℕ → ℕ
report_length n = entries_at + entry_length * n

-- "layout 1 (2), year (2), count n (2), zero (2), offset of entries 56 (4), whole length 56 + 40n (4), zero (4), and the totals .. (8 each)"
unfoldable pub report_header : ℕ → List Entry → List ℕ
report_header year es =
    let n = length es in
    report_tag
    ++ packed (2 ∷ 2 ∷ 2 ∷ 2 ∷ 4 ∷ 4 ∷ 4 ∷ []) (report_layout ∷ year ∷ n ∷ 0 ∷ entries_at ∷ report_length n ∷ 0 ∷ [])
    ++ packed (replicate figure_count 8) (totals es)

-- "number (4), method (1), zero (3), CO2, CH4, N2O, CO2-equivalent (8 each)"
unfoldable pub entry_bytes : Entry → List ℕ
entry_bytes e = packed (4 ∷ 1 ∷ 3 ∷ []) (e.number ∷ e.method ∷ 0 ∷ []) ++ packed (replicate figure_count 8) (figures e)

unfoldable pub report_bytes : ℕ → List Entry → List ℕ
report_bytes year es = report_header year es ++ joined (map entry_bytes es)

-- "Entries are .. ascending by source number"
unfoldable pub in_order : List Entry → List Entry
in_order es = sorted_by (λ e. e.number) es

-- Reading a report; each entry is read off the front of its bytes
abbrev pub report_year : List ℕ → ℕ
report_year b = number_at 2 b 6

abbrev pub entry_count : List ℕ → ℕ
entry_count b = number_at 2 b 8

-- total k, figure by figure from byte 24 on
abbrev pub total_at : List ℕ → ℕ → ℕ
total_at b k = number_at 8 b (24 + 8 * k)

abbrev pub entry_at : List ℕ → ℕ → List ℕ
entry_at b i = drop (entries_at + entry_length * i) b

-- figure k of an entry, from its byte 8 on
abbrev pub figure_in : List ℕ → ℕ → ℕ
figure_in r k = number_at 8 r (8 + 8 * k)

unfoldable pub entry_in : List ℕ → Entry
entry_in r = record { number = number_at 4 r 0; method = number_at 1 r 4; masses = map (figure_in r) gases }

unfoldable pub entries_of : List ℕ → List Entry
entries_of b = map (λ i. entry_in (entry_at b i)) (count_up 0 (entry_count b))

-- "A well-formed report has its tag, layout, zeros, offset and length as laid out above, fills its lent bytes exactly, has a year in range, n at
-- most 512": its header
unfoldable pub header_right : List ℕ → Bool
header_right b =
    let n = entry_count b in
    eqb (length b) (report_length n)
    && starts_with report_tag b
    && eqb (number_at 2 b 4) report_layout
    && is_year (report_year b)
    && leb n most_sources
    && eqb (number_at 2 b 10) 0
    && eqb (number_at 4 b 12) entries_at
    && eqb (number_at 4 b 16) (report_length n)
    && eqb (number_at 4 b 20) 0

-- the number of the entry before entry i; 0, which no entry may have, before the first
unfoldable pub number_before : List ℕ → ℕ → ℕ
number_before b zero = 0
number_before b (suc i) = (entry_in (entry_at b i)).number

-- "strictly ascending numbers that are not zero, methods 1 to 6, each equivalent right and at most 10^15", and the zeros: entry i breaks one
unfoldable pub wrong_entry : List ℕ → ℕ → Bool
wrong_entry b i =
    let r = entry_at b i in
    let e = entry_in r in
    leb e.number (number_before b i)
    || not (within 1 6 e.method)
    || not (eqb (number_at 3 r 5) 0)
    || not (eqb (figure_in r gas_count) (equivalent e.masses))
    || ltb limit (equivalent e.masses)

-- "totals that are the sums": a total is not
unfoldable pub wrong_total : List ℕ → ℕ → Bool
wrong_total b k = not (eqb (total_at b k) (get_or (totals (entries_of b)) k 0))

unfoldable pub well_formed : List ℕ → Bool
well_formed b =
    header_right b && not (any (wrong_entry b) (count_up 0 (entry_count b))) && not (any (wrong_total b) (count_up 0 figure_count))
