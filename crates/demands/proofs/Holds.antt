-- A report's bytes hold its fields where document 01 has them, and no other bytes do. Assumes nothing.
use mathlib.Core.List.{List, [], ◌∷◌, map}
use mathlib.Core.Path.{◌≡◌, refl, sym, ap, ap₂, ◌∙◌}
use Prim.Native.Nat.{ℕ, zero, suc, ◌+◌, ◌<◌}
use native.Mathlib.Omega.{arith}
use lib.ListN.{length, get_or, get_or-append}
use lib.Seq.{get_or-append_seam}
use Rattle.basis.specs.Bytes.{number_at}
use Rattle.basis.specs.Lists.{Each, sum, count_up}
use Rattle.basis.proofs.Lists.{each_at}
use Rattle.basis.proofs.Counting.{counted_all}
use Rattle.basis.proofs.Rows.{taken_starts}
use Rattle.meaning.specs.Masses.{equivalent}
use Rattle.meaning.specs.Report.{Entry, figures, figure, figure_count, totals, report_tag, report_header, report_bytes, entry_count, total_at, entry_at, entry_in, entries_of, number_before}
use Rattle.meaning.proofs.Reports.{Headed, RightEntry, Formed, total-is}
use Rattle.demands.specs.Table.{CO2, CH4, N2O}
use Rattle.demands.specs.Valid.{mass_of, equivalent_of, Entered, Reportable, HoldsEntry, no_entry, Holds, IsReport}
use Rattle.demands.proofs.Figures.{three_masses, equivalent-is}
use Rattle.demands.proofs.Reports.{equivalent-within, prior, ascending_at, header_at, total-at, year-back, count-back, row_is, entry-is, zeros-at, equivalent-at, length-report, report-bytes}
use Rattle.demands.proofs.WellFormed.{report-again}

-- the figures of an entry of three masses
pub figure-mass : (k : ℕ) → k < 3 → (e : Entry) → Entered e → figure k e ≡ mass_of k e
unfolding figure figures
figure-mass k l e v = get_or-append e.masses (equivalent e.masses ∷ []) 0 k (omega (arith, v.gases))

pub figure-last : (e : Entry) → Entered e → figure 3 e ≡ equivalent_of e
unfolding figure figures
figure-last e v = (rw v.gases at (get_or-append_seam e.masses (equivalent e.masses) [] 0)) ∙ equivalent-is e v.gases

pub sum_same : {A : Type 0} (P : A → Type 0) (f g : A → ℕ) → ((x : A) → P x → f x ≡ g x) → (xs : List A) → Each P xs → sum (map f xs) ≡ sum (map g xs)
unfolding sum
sum_same P f g h [] p = refl
sum_same P f g h (x ∷ xs) p = ap₂ ◌+◌ (h x p.0) (sum_same P f g h xs p.1)

-- what is written holds its fields
module _ (y : ℕ) (es : List Entry) (v : Reportable y es) where
  total-mass : (k : ℕ) → k < 3 → total_at (report_bytes y es) k ≡ sum (map (mass_of k) es)
  total-mass k l =
      total-at y es v k (omega arith) ∙ total-is es k (omega arith) ∙ sum_same Entered (figure k) (mass_of k) (figure-mass k l) es v.each

  total-last : total_at (report_bytes y es) 3 ≡ sum (map equivalent_of es)
  total-last = total-at y es v 3 (omega arith) ∙ total-is es 3 (omega arith) ∙ sum_same Entered (figure 3) equivalent_of figure-last es v.each

  entry-held : (i : ℕ) → i < length es → HoldsEntry (entry_at (report_bytes y es) i) (get_or es i no_entry)
  unfolding entry_in count_up
  entry-held i l =
      let e = get_or es i no_entry in
      let w = each_at Entered es no_entry v.each i l in
      let is = entry-is y es v i l in
      let r = row_is y es v i l in
      record {
        number = ap (λ (x : Entry). x.number) is;
        method = ap (λ (x : Entry). x.method) is;
        zeros = ap (λ (b : List ℕ). number_at 3 b 5) r.1 ∙ zeros-at e w r.0;
        co2 = ap (mass_of CO2) is;
        ch4 = ap (mass_of CH4) is;
        n2o = ap (mass_of N2O) is;
        equivalent = ap (λ (b : List ℕ). number_at 8 b 32) r.1 ∙ equivalent-at e w r.0 ∙ equivalent-is e w.gases;
      }

  held : Holds (report_bytes y es) y es
  unfolding report_bytes report_header sum
  held =
      record {
        tag = refl;
        layout = header_at y es v 0 (omega arith);
        of_year = year-back y es v;
        count = count-back y es v;
        zero = header_at y es v 3 (omega arith);
        offset = header_at y es v 4 (omega arith);
        size = header_at y es v 5 (omega arith);
        zeros = header_at y es v 6 (omega arith);
        co2 = total-mass 0 (omega arith);
        ch4 = total-mass 1 (omega arith);
        n2o = total-mass 2 (omega arith);
        equivalent = total-last;
        entry = entry-held;
        filled = length-report y es v;
      }

  pub is-report : IsReport (report_bytes y es) y es
  is-report = record { bytes = report-bytes y es v; makes = v; holds = held }

-- and bytes that hold them are what is written
entry_read : (r : List ℕ) (e : Entry) → Entered e → HoldsEntry r e → entry_in r ≡ e
unfolding entry_in count_up
entry_read r e v h =
    let ms : (number_at 8 r 8 ∷ number_at 8 r 16 ∷ number_at 8 r 24 ∷ []) ≡ e.masses = rw (h.co2, h.ch4, h.n2o) (three_masses e.masses v.gases) in
    λ i. record { number = h.number i; method = h.method i; masses = ms i }

module _ (b : List ℕ) (y : ℕ) (es : List Entry) (report : IsReport b y es) where
  v : Reportable y es
  v = report.makes

  h : Holds b y es
  h = report.holds

  entered_at : (i : ℕ) → i < length es → Entered (get_or es i no_entry)
  entered_at i l = each_at Entered es no_entry v.each i l

  read_at_lem : (i : ℕ) → i < length es → entry_in (entry_at b i) ≡ get_or es i no_entry
  read_at_lem i l = entry_read (entry_at b i) (get_or es i no_entry) (entered_at i l) (h.entry i l)

  pub entries-held : entries_of b ≡ es
  unfolding entries_of
  entries-held =
      rw h.count (counted_all (λ i. entry_in (entry_at b i)) no_entry es read_at_lem)

  before_held : (i : ℕ) → i < length es → number_before b i ≡ prior 0 es i
  unfolding number_before
  before_held zero l = refl
  before_held (suc i) l = ap (λ (e : Entry). e.number) (read_at_lem i (omega arith))

  right-entry : (i : ℕ) → i < entry_count b → RightEntry b i
  right-entry i m =
      let l : i < length es = omega (arith, h.count) in
      let e = get_or es i no_entry in
      let w = entered_at i l in
      let q = h.entry i l in
      record {
        above = rw (read_at_lem i l, before_held i l) (ascending_at 0 es v.order i l);
        method = rw (read_at_lem i l) w.method;
        zeros = q.zeros;
        right = rw (read_at_lem i l) (q.equivalent ∙ sym (equivalent-is e w.gases));
        kept = rw (read_at_lem i l) (equivalent-within e w);
      }

  headed : Headed b
  headed =
      record {
        filled = rw h.count h.filled;
        tag = taken_starts report_tag b h.tag;
        layout = h.layout;
        year = rw h.of_year v.in_range;
        few = rw h.count v.count;
        zero1 = h.zero;
        offset = h.offset;
        size = rw h.count h.size;
        zero2 = h.zeros;
      }

  right-total : (k : ℕ) → k < figure_count → total_at b k ≡ get_or (totals (entries_of b)) k 0
  right-total k l = rw entries-held (held-total k l ∙ sym (total-is es k l))
    where
      held-total : (k : ℕ) → k < figure_count → total_at b k ≡ sum (map (figure k) es)
      held-total zero l = h.co2 ∙ sym (sum_same Entered (figure 0) (mass_of 0) (figure-mass 0 (omega arith)) es v.each)
      held-total (suc zero) l = h.ch4 ∙ sym (sum_same Entered (figure 1) (mass_of 1) (figure-mass 1 (omega arith)) es v.each)
      held-total (suc (suc zero)) l = h.n2o ∙ sym (sum_same Entered (figure 2) (mass_of 2) (figure-mass 2 (omega arith)) es v.each)
      held-total (suc (suc (suc zero))) l = h.equivalent ∙ sym (sum_same Entered (figure 3) equivalent_of figure-last es v.each)
      held-total (suc (suc (suc (suc k)))) l = absurd (omega arith)

  formed-held : Formed b
  formed-held = record { header = headed; entry = right-entry; total = right-total }

  pub written-again : report_bytes y es ≡ b
  written-again = ap₂ report_bytes (sym h.of_year) (sym entries-held) ∙ report-again b report.bytes formed-held
