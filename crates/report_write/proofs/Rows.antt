-- The entries of a well-formed report from an index on: how they ascend, how long their bytes are, and their totals. Assumes nothing.
use mathlib.Core.List.{List, [], ◌∷◌, ◌++◌, map}
use mathlib.Core.Path.{◌≡◌, refl, sym, ◌∙◌}
use Prim.Native.Nat.{ℕ, zero, suc, ◌+◌, ◌*◌, ◌≤◌, ◌<◌}
use native.Mathlib.Numerals.{add-one}
use native.Mathlib.Omega.{arith}
use lib.ListN.{length, get_or, length-map}
use Rattle.basis.specs.Bytes.{Written}
use Rattle.basis.specs.Lists.{Each, sum, count_up, joined}
use Rattle.basis.proofs.Bytes.{written_then}
use Rattle.basis.proofs.Counting.{sum_bounded}
use Rattle.basis.proofs.Lists.{length-count_up}
use Rattle.basis.proofs.Rows.{length-rows}
use Rattle.meaning.specs.Masses.{limit}
use Rattle.meaning.specs.Report.{Entry, figure_count, figure, totals, entries_at, entry_length, report_header, entry_bytes, report_bytes, entry_count, entry_at, entry_in, entries_of, number_before}
use Rattle.meaning.proofs.Lengths.{Massed, length-entry, length_header}
use Rattle.meaning.proofs.Reports.{Formed, formed, length-masses, length-totals, total-is, totals_read}
use Rattle.report_read.specs.Figures.{figures_at}
use Rattle.report_read.specs.Readable.{Readable}
use Rattle.report_read.specs.Entries.{entries_from, rows}
use Rattle.report_read.proofs.Entries.{figure-small}
use Rattle.report_write.specs.Parts.{stated_header}
use Rattle.report_write.proofs.Writing.{header_stated}

-- an entry by its index
abbrev pub entry : List ℕ → ℕ → Entry
entry b i = entry_in (entry_at b i)

module _ (b : List ℕ) where
  pub from-none : (i : ℕ) → entries_from b i 0 ≡ []
  unfolding entries_from count_up
  from-none i = refl

  pub from_more : (i k : ℕ) → entries_from b i (suc k) ≡ entry b i ∷ entries_from b (i + 1) k
  unfolding entries_from count_up
  from_more i k = refl

  pub from_all : entries_from b 0 (entry_count b) ≡ entries_of b
  unfolding entries_from entries_of
  from_all = refl

  pub length_from : (i k : ℕ) → length (entries_from b i k) ≡ k
  unfolding entries_from
  length_from i k = length-map (count_up i k) (λ j. entry_in (entry_at b j)) ∙ length-count_up i k

  -- what holds at each index holds of each entry
  pub from_each : (P : Entry → Type 0) (k i : ℕ) → ((j : ℕ) → i ≤ j → j < i + k → P (entry b j)) → Each P (entries_from b i k)
  unfolding entries_from count_up
  from_each P zero i h = tt
  from_each P (suc k) i h = (h i (omega arith) (omega arith), from_each P k (i + 1) (λ j l m. h j (omega arith) (omega arith)))

-- each has a mass for each gas
pub from_massed : (b : List ℕ) (i k : ℕ) → Each Massed (entries_from b i k)
from_massed b i k = from_each b Massed k i (λ j l m. length-masses (entry_at b j))

-- the bytes of entries
pub rows_more : (e : Entry) (es : List Entry) → rows (e ∷ es) ≡ entry_bytes e ++ rows es
unfolding rows joined
rows_more e es = refl

pub length-all : (es : List Entry) → Each Massed es → length (rows es) ≡ entry_length * length es
unfolding rows
length-all es p = length-rows entry_bytes entry_in entry_length Massed length-entry es p

-- a header of a year, a count and totals that are those of entries
pub header_made : (year : ℕ) (es : List Entry) {y n : ℕ} {ts xs ys : List ℕ} → y ≡ year → n ≡ length es → ts ≡ totals es → Written xs 0 (stated_header y n ts) ys
    → Written xs 0 (report_header year es) ys
header_made year es d e f w = rw (← header_stated year es, ← d, ← e, ← f) w

-- a header, and the entries behind it
pub report-written : (year : ℕ) (es : List Entry) {xs ys zs : List ℕ} → Written xs 0 (report_header year es) ys → Written ys entries_at (rows es) zs
    → Written xs 0 (report_bytes year es) zs
unfolding report_bytes rows
report-written year es w v = written_then w v (omega (arith, length_header year es))

module _ (b : List ℕ) (r : Readable b) where
  whole : Formed b
  whole = formed b r.right

  -- numbers ascend: from an index on, all are above whatever the number before is not below
  pub all_above : (n k i : ℕ) → i + k ≤ entry_count b → n ≤ number_before b i → Each (λ e. n < e.number) (entries_from b i k)
  unfolding entries_from count_up number_before
  all_above n zero i h l = tt
  all_above n (suc k) i h l =
      let a = (whole.entry i (omega arith)).above in
      (omega (arith, a), all_above n k (i + 1) (omega arith) (rw (add-one i) (omega (arith, a))))

  -- totals, as a header states them
  totals-stand : {ts : List ℕ} → ts ≡ figures_at figure_count b 24 → ts ≡ totals (entries_of b)
  unfolding figures_at
  totals-stand e = e ∙ sym (totals_read b whole)

  pub total-small : (k : ℕ) → sum (map (figure k) (entries_of b)) ≤ limit * entry_count b
  total-small k =
      let p = from_each b (λ e. figure k e ≤ limit) (entry_count b) 0 (λ j l m. figure-small (whole.entry j (omega arith)) k) in
      rw (length_from b 0 (entry_count b), from_all b) at (sum_bounded (figure k) (λ e. figure k e ≤ limit) limit (λ e l. l) (entries_from b 0 (entry_count b)) p)

-- the totals that were read from a report
module _ {b ts : List ℕ} (r : Readable b) (e : ts ≡ figures_at figure_count b 24) where
  pub length-stated : length ts ≡ figure_count
  length-stated = rw (totals-stand b r e) (length-totals (entries_of b))

  pub stated-is : (k : ℕ) → k < figure_count → get_or ts k 0 ≡ sum (map (figure k) (entries_of b))
  stated-is k l = rw (totals-stand b r e) (total-is (entries_of b) k l)
