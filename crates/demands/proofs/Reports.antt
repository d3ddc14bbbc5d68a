-- A report is well-formed exactly if it is written of a year and entries that make a report. Assumes nothing.
use mathlib.Core.Bool.{true, false}
use mathlib.Core.List.{List, [], ◌∷◌, ◌++◌, map, append_assoc, append-nil}
use mathlib.Core.Path.{◌≡◌, refl, sym, ap, ◌∙◌}
use Prim.Native.Nat.{ℕ, zero, suc, ◌+◌, ◌*◌, ◌^◌, ◌≤◌, ◌<◌, zero-le, suc-le-suc}
use native.Mathlib.Nat.{not-suc-le-zero, le_of_suc-le-suc, le_trans}
use native.Mathlib.Omega.{arith}
use lib.Dec.{eqb, ltb, leb}
use lib.ListN.{length, get_or, take, drop, replicate, length-append, length-replicate, get_or-replicate, get_or-append}
use lib.Seq.{drop_at, drop-drop, get_or-append_seam}
use borrow.Author.Tests.{le-ltb, le-leb, lt-leb, eq-eqb}
use Rattle.basis.specs.Bytes.{number_at, packed, Bytes, starts_with}
use Rattle.basis.specs.Lists.{Each, sum, joined}
use Rattle.basis.proofs.Bytes.{Fits, length-packed, number_at-packed, packed-bytes, append_bytes}
use Rattle.basis.proofs.Lists.{each_map, each_at}
use Rattle.meaning.specs.Masses.{gas_count, gases, equivalent, limit}
use Rattle.meaning.specs.Register.{most_sources}
use Rattle.meaning.specs.Report.{Entry, figures, figure_count, figure, totals, report_tag, report_layout, entries_at, entry_length, report_length, report_header, entry_bytes, report_bytes, report_year, entry_count, total_at, entry_at, figure_in, entry_in, entries_of, header_right, number_before, wrong_entry, wrong_total, well_formed}
use Rattle.meaning.proofs.Lengths.{length-entry as length-massed, length_header, length-report as length_whole}
use Rattle.meaning.proofs.Reports.{length-figures, figure_bounded, length-totals, total-is}
use Rattle.demands.specs.Valid.{Entered, Ascending, entry_number, no_entry, Reportable}
use Rattle.demands.proofs.Figures.{equivalent-is}
use Rattle.basis.proofs.Counting.{counted_all, none_counted, sum_widths, sum_bounded}
use Rattle.basis.proofs.Rows.{tag_starts, number_at_behind, read_rows, row_at, each-bytes, joined_bytes}

-- Figures and totals. No figure of an entry is above the limit.
pub equivalent-within : (e : Entry) → Entered e → equivalent e.masses ≤ limit
equivalent-within e v = rw (equivalent-is e v.gases) v.within

figure-within : (k : ℕ) (e : Entry) → Entered e → figure k e ≤ limit
figure-within k e v = le_trans (figure_bounded k e (omega (arith, v.gases))) (equivalent-within e v)

abbrev pub eights : ℕ → List ℕ
eights n = replicate n 8

-- the figures fit eight bytes each, and so do the totals
pub fits_eights : (n : ℕ) (ns : List ℕ) → length ns ≡ n → ((i : ℕ) → i < n → get_or ns i 0 < 256 ^ 8) → Fits (eights n) ns
fits_eights zero [] e h = tt
fits_eights zero (m ∷ ns) e h = absurd (omega arith)
fits_eights (suc n) [] e h = absurd (omega arith)
fits_eights (suc n) (m ∷ ns) e h = (h 0 (suc-le-suc zero-le), fits_eights n ns (omega arith) (λ i l. h (suc i) (suc-le-suc l)))

pub figures-fit : (e : Entry) → Entered e → Fits (eights figure_count) (figures e)
unfolding figure
figures-fit e v = fits_eights figure_count (figures e) (length-figures e v.gases) (λ i l. omega (arith, figure-within i e v))

-- "512 such sources fit 64 bits"
pub total-fits : (es : List Entry) → Each Entered es → length es ≤ most_sources → (k : ℕ) → k < figure_count → get_or (totals es) k 0 < 2 ^ 64
total-fits es v n k l = rw (total-is es k l) (omega (arith, sum_bounded (figure k) Entered limit (figure-within k) es v))

totals-fit : (es : List Entry) → Each Entered es → length es ≤ most_sources → Fits (eights figure_count) (totals es)
totals-fit es v n = fits_eights figure_count (totals es) (length-totals es) (λ i l. total-fits es v n i l)

-- numbers of eight bytes behind what stands before them
pub eights_at : (before ns rest : List ℕ) (n c : ℕ) → length before ≡ n → Fits (eights c) ns → (k : ℕ) → k < c
    → number_at 8 (before ++ (packed (eights c) ns ++ rest)) (n + 8 * k) ≡ get_or ns k 0
eights_at before ns rest n c e f k l =
    let w : get_or (eights c) k 0 ≡ 8 = get_or-replicate c k 8 0 l in
    let t : sum (take k (eights c)) ≡ 8 * k = sum_widths 8 c k (omega arith) in
    let m : k < length (eights c) = rw length-replicate l in
    rw (← e, number_at_behind 8 before (packed (eights c) ns ++ rest) (8 * k)) (rw (w, t) at (number_at-packed (eights c) ns rest f k m))

-- An entry's bytes. They are forty, and are read back off the front.
front : Entry → List ℕ
front e = e.number ∷ e.method ∷ 0 ∷ []

front_fits : (e : Entry) → Entered e → Fits (4 ∷ 1 ∷ 3 ∷ []) (front e)
unfolding front
front_fits e v = omega (arith, v.number, v.method)

pub length-entry : (e : Entry) → Entered e → length (entry_bytes e) ≡ entry_length
length-entry e v = length-massed e v.gases

pub entry-bytes : (e : Entry) → Bytes (entry_bytes e)
unfolding entry_bytes
entry-bytes e = append_bytes (packed (4 ∷ 1 ∷ 3 ∷ []) (e.number ∷ e.method ∷ 0 ∷ [])) (packed (eights figure_count) (figures e)) (packed-bytes (4 ∷ 1 ∷ 3 ∷ []) (e.number ∷ e.method ∷ 0 ∷ [])) (packed-bytes (eights figure_count) (figures e))

module _ (e : Entry) (v : Entered e) (rest : List ℕ) where
  front_at : (i : ℕ) → i < 3 → number_at (get_or (4 ∷ 1 ∷ 3 ∷ []) i 0) (entry_bytes e ++ rest) (sum (take i (4 ∷ 1 ∷ 3 ∷ []))) ≡ get_or (front e) i 0
  unfolding entry_bytes front
  front_at i l =
      rw append_assoc (number_at-packed (4 ∷ 1 ∷ 3 ∷ []) (front e) (packed (eights figure_count) (figures e) ++ rest) (front_fits e v) i l)

  pub figure-at : (k : ℕ) → k < figure_count → figure_in (entry_bytes e ++ rest) k ≡ figure k e
  unfolding entry_bytes front figure sum
  figure-at k l =
      let h : length (packed (4 ∷ 1 ∷ 3 ∷ []) (front e)) ≡ 8 = length-packed (4 ∷ 1 ∷ 3 ∷ []) (front e) refl in
      rw append_assoc (eights_at (packed (4 ∷ 1 ∷ 3 ∷ []) (front e)) (figures e) rest 8 figure_count h (figures-fit e v) k l)

  masses-at : map (figure_in (entry_bytes e ++ rest)) gases ≡ e.masses
  unfolding figure figures
  masses-at =
      rw v.gases at
      (counted_all (figure_in (entry_bytes e ++ rest)) 0 e.masses
      (λ i l. figure-at i (omega (arith, v.gases)) ∙ get_or-append e.masses (equivalent e.masses ∷ []) 0 i l))

  pub entry-back : entry_in (entry_bytes e ++ rest) ≡ e
  unfolding entry_in sum front
  entry-back =
      let n : number_at 4 (entry_bytes e ++ rest) 0 ≡ e.number = front_at 0 (omega arith) in
      let m : number_at 1 (entry_bytes e ++ rest) 4 ≡ e.method = front_at 1 (omega arith) in
      λ i. record { number = n i; method = m i; masses = masses-at i }

  pub zeros-at : number_at 3 (entry_bytes e ++ rest) 5 ≡ 0
  unfolding sum front
  zeros-at = front_at 2 (omega arith)

  pub equivalent-at : figure_in (entry_bytes e ++ rest) gas_count ≡ equivalent e.masses
  unfolding figure figures
  equivalent-at = figure-at gas_count (omega arith) ∙ (rw v.gases at (get_or-append_seam e.masses (equivalent e.masses) [] 0))

-- the number before index i, in entries whose numbers are above n
abbrev pub prior : ℕ → List Entry → ℕ → ℕ
prior n es zero = n
prior n es (suc i) = (get_or es i no_entry).number

pub ascending_at : (n : ℕ) (es : List Entry) → Ascending entry_number n es → (i : ℕ) → i < length es → prior n es i < (get_or es i no_entry).number
ascending_at n [] a i l = absurd (not-suc-le-zero l)
ascending_at n (e ∷ es) a zero l = a.0
ascending_at n (e ∷ es) a (suc zero) l = ascending_at e.number es a.1 0 (le_of_suc-le-suc l)
ascending_at n (e ∷ es) a (suc (suc i)) l = ascending_at e.number es a.1 (suc i) (le_of_suc-le-suc l)

pub at_ascending : (n : ℕ) (es : List Entry) → ((i : ℕ) → i < length es → prior n es i < (get_or es i no_entry).number) → Ascending entry_number n es
at_ascending n [] h = tt
at_ascending n (e ∷ es) h = (h 0 (suc-le-suc zero-le), at_ascending e.number es later)
  where
    later : (i : ℕ) → i < length es → prior e.number es i < (get_or es i no_entry).number
    later zero l = h 1 (suc-le-suc l)
    later (suc i) l = h (suc (suc i)) (suc-le-suc l)

-- A report's bytes, of a year and entries that make a report.
abbrev pub header_widths : List ℕ
header_widths = 2 ∷ 2 ∷ 2 ∷ 2 ∷ 4 ∷ 4 ∷ 4 ∷ []

abbrev pub header_numbers : ℕ → ℕ → List ℕ
header_numbers year n = report_layout ∷ year ∷ n ∷ 0 ∷ entries_at ∷ report_length n ∷ 0 ∷ []

module _ (y : ℕ) (es : List Entry) (v : Reportable y es) where
  header_fits : Fits header_widths (header_numbers y (length es))
  header_fits = omega (arith, v.in_range, v.count)

  rows : List ℕ
  rows = joined (map entry_bytes es)

  behind_tag : report_bytes y es ≡ report_tag ++ (packed header_widths (header_numbers y (length es)) ++ (packed (eights figure_count) (totals es) ++ rows))
  unfolding report_bytes report_header rows
  behind_tag =
      append_assoc (report_tag ++ packed header_widths (header_numbers y (length es))) (packed (eights figure_count) (totals es)) rows
      ∙ append_assoc report_tag (packed header_widths (header_numbers y (length es))) (packed (eights figure_count) (totals es) ++ rows)

  pub header_at : (i : ℕ) → i < 7 → number_at (get_or header_widths i 0) (report_bytes y es) (4 + sum (take i header_widths)) ≡ get_or (header_numbers y (length es)) i 0
  header_at i l =
      let T = packed (eights figure_count) (totals es) ++ rows in
      let N = packed header_widths (header_numbers y (length es)) in
      ap (λ (b : List ℕ). number_at (get_or header_widths i 0) b (4 + sum (take i header_widths))) behind_tag
      ∙ number_at_behind (get_or header_widths i 0) report_tag (N ++ T) (sum (take i header_widths))
      ∙ number_at-packed header_widths (header_numbers y (length es)) T header_fits i l

  before_totals : length (report_tag ++ packed header_widths (header_numbers y (length es))) ≡ 24
  unfolding sum
  before_totals = rw (length-append report_tag, length-packed header_widths (header_numbers y (length es)) refl)

  pub total-at : (k : ℕ) → k < figure_count → total_at (report_bytes y es) k ≡ get_or (totals es) k 0
  unfolding report_bytes report_header rows
  total-at k l =
      ap (λ (b : List ℕ). number_at 8 b (24 + 8 * k)) (append_assoc (report_tag ++ packed header_widths (header_numbers y (length es))) (packed (eights figure_count) (totals es)) rows)
      ∙ eights_at (report_tag ++ packed header_widths (header_numbers y (length es))) (totals es) rows 24 figure_count before_totals (totals-fit es v.each v.count) k l

  rows_behind : drop entries_at (report_bytes y es) ≡ rows
  unfolding report_bytes rows
  rows_behind = drop_at (report_header y es) rows entries_at (length_header y es)

  pub year-back : report_year (report_bytes y es) ≡ y
  unfolding sum
  year-back = header_at 1 (omega arith)

  pub count-back : entry_count (report_bytes y es) ≡ length es
  unfolding sum
  count-back = header_at 2 (omega arith)

  pub entries-back : entries_of (report_bytes y es) ≡ es
  unfolding entries_of rows
  entries-back =
      rw count-back
      (read_rows entry_bytes entry_in entry_length Entered length-entry (λ e rest p. entry-back e p rest) entries_at (report_bytes y es) [] es 0 v.each
      (rows_behind ∙ sym (append-nil rows)))

  pub length-report : length (report_bytes y es) ≡ report_length (length es)
  length-report = length_whole y es (each_map (λ e w. w.gases) es v.each)

  tagged : starts_with report_tag (report_bytes y es) ≡ true
  tagged = rw behind_tag (tag_starts report_tag (packed header_widths (header_numbers y (length es)) ++ (packed (eights figure_count) (totals es) ++ rows)))

  header_right_lem : header_right (report_bytes y es) ≡ true
  unfolding header_right sum
  header_right_lem =
      let long : eqb (length (report_bytes y es)) (report_length (length es)) ≡ true = eq-eqb _ _ length-report in
      let layout : number_at 2 (report_bytes y es) 4 ≡ report_layout = header_at 0 (omega arith) in
      let zero1 : number_at 2 (report_bytes y es) 10 ≡ 0 = header_at 3 (omega arith) in
      let offset : number_at 4 (report_bytes y es) 12 ≡ entries_at = header_at 4 (omega arith) in
      let size : number_at 4 (report_bytes y es) 16 ≡ report_length (length es) = header_at 5 (omega arith) in
      let zero2 : number_at 4 (report_bytes y es) 20 ≡ 0 = header_at 6 (omega arith) in
      let low : leb 1990 y ≡ true = le-leb _ _ v.in_range.0 in
      let high : leb y 2100 ≡ true = le-leb _ _ v.in_range.1 in
      let few : leb (length es) most_sources ≡ true = le-leb _ _ v.count in
      let same : eqb (report_length (length es)) (report_length (length es)) ≡ true = eq-eqb (report_length (length es)) (report_length (length es)) refl in
      rw (count-back, long, tagged, layout, year-back, low, high, few, zero1, offset, size, same, zero2)

  pub row_is : (i : ℕ) → i < length es → (rest : List ℕ) × (entry_at (report_bytes y es) i ≡ entry_bytes (get_or es i no_entry) ++ rest)
  unfolding rows
  row_is i l = (
    joined (map entry_bytes (drop (suc i) es)) ++ [],
    sym (drop-drop (entry_length * i) entries_at (report_bytes y es))
        ∙ ap (drop (entry_length * i)) (rows_behind ∙ sym (append-nil rows))
        ∙ row_at entry_bytes entry_in entry_length Entered length-entry no_entry [] es i l v.each,
  )

  pub entry-is : (i : ℕ) → i < length es → entry_in (entry_at (report_bytes y es) i) ≡ get_or es i no_entry
  entry-is i l = let r = row_is i l in ap entry_in r.1 ∙ entry-back (get_or es i no_entry) (each_at Entered es no_entry v.each i l) r.0

  before_is : (i : ℕ) → i < length es → number_before (report_bytes y es) i ≡ prior 0 es i
  unfolding number_before
  before_is zero l = refl
  before_is (suc i) l = ap (λ (e : Entry). e.number) (entry-is i (omega arith))

  entry-right : (i : ℕ) → i < length es → wrong_entry (report_bytes y es) i ≡ false
  unfolding wrong_entry
  entry-right i l =
      let e = get_or es i no_entry in
      let w = each_at Entered es no_entry v.each i l in
      let r = row_is i l in
      let zeros : number_at 3 (entry_at (report_bytes y es) i) 5 ≡ 0 = ap (λ (b : List ℕ). number_at 3 b 5) r.1 ∙ zeros-at e w r.0 in
      let right : figure_in (entry_at (report_bytes y es) i) gas_count ≡ equivalent e.masses = ap (λ (b : List ℕ). figure_in b gas_count) r.1 ∙ equivalent-at e w r.0 in
      let up : leb e.number (prior 0 es i) ≡ false = lt-leb e.number (prior 0 es i) (ascending_at 0 es v.order i l) in
      let low : leb 1 e.method ≡ true = le-leb 1 e.method w.method.0 in
      let high : leb e.method 6 ≡ true = le-leb e.method 6 w.method.1 in
      let same : eqb (equivalent e.masses) (equivalent e.masses) ≡ true = eq-eqb (equivalent e.masses) (equivalent e.masses) refl in
      let kept : ltb limit (equivalent e.masses) ≡ false = le-ltb limit (equivalent e.masses) (equivalent-within e w) in
      rw (entry-is i l, before_is i l, zeros, right, up, low, high, same, kept)

  total_right : (k : ℕ) → k < figure_count → wrong_total (report_bytes y es) k ≡ false
  unfolding wrong_total
  total_right k l =
      let same : eqb (get_or (totals es) k 0) (get_or (totals es) k 0) ≡ true = eq-eqb (get_or (totals es) k 0) (get_or (totals es) k 0) refl in
      rw (entries-back, total-at k l, same)

  pub report-right : well_formed (report_bytes y es) ≡ true
  unfolding well_formed
  report-right =
      rw (
        header_right_lem,
        count-back,
        none_counted (wrong_entry (report_bytes y es)) (length es) 0 (λ i m l. entry-right i (omega arith)),
        none_counted (wrong_total (report_bytes y es)) figure_count 0 (λ k m l. total_right k (omega arith)),
      )

  rows-bytes : Bytes rows
  unfolding rows
  rows-bytes = joined_bytes entry_bytes entry-bytes es

  pub report-bytes : Bytes (report_bytes y es)
  unfolding report_bytes report_header rows
  report-bytes =
      let N = packed header_widths (header_numbers y (length es)) in
      let T = packed (eights figure_count) (totals es) in
      append_bytes (report_header y es) rows
      (append_bytes (report_tag ++ N) T (append_bytes report_tag N (each-bytes report_tag (omega arith)) (packed-bytes header_widths (header_numbers y (length es)))) (packed-bytes (eights figure_count) (totals es)))
      rows-bytes
