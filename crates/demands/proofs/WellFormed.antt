-- A well-formed report is written of its year and its entries. Assumes nothing.
use mathlib.Core.List.{List, ◌++◌, map}
use mathlib.Core.Path.{◌≡◌, refl, sym, ap, ap₂, ◌∙◌}
use Prim.Native.Nat.{ℕ, zero, suc, ◌+◌, ◌*◌, ◌≤◌, ◌<◌}
use native.Mathlib.Omega.{arith}
use lib.ListN.{length, get_or, take, drop, replicate, length-drop, take-append-drop}
use lib.Seq.{take-add, take_all}
use Rattle.basis.specs.Bytes.{packed, Bytes}
use Rattle.basis.specs.Lists.{sum, joined}
use Rattle.basis.proofs.Lists.{at_each}
use Rattle.meaning.specs.Report.{Entry, figure_count, totals, report_tag, entries_at, entry_length, report_length, report_header, entry_bytes, report_bytes, report_year, entry_count, entry_at, entry_in, entries_of, number_before}
use Rattle.meaning.proofs.Reports.{Formed, count-is, length-masses, entry-again, totals_read}
use Rattle.demands.specs.Valid.{Entered, no_entry, Reportable}
use Rattle.basis.proofs.Counting.{at_counted}
use Rattle.demands.proofs.Figures.{equivalent-is}
use Rattle.demands.proofs.Reports.{prior, at_ascending, header_widths, header_numbers}
use Rattle.basis.proofs.Rows.{starts_tag, number_at-drop, number_at-fits, unpacked, unpacked_same, packed_unpacked, bytes_drop, write_rows}

pub entry-at : (b : List ℕ) (i : ℕ) → i < entry_count b → get_or (entries_of b) i no_entry ≡ entry_in (entry_at b i)
unfolding entries_of
entry-at b i l = at_counted (λ i. entry_in (entry_at b i)) no_entry (entry_count b) i l

-- A well-formed report, and what it is written of.
module _ (b : List ℕ) (h : Bytes b) (f : Formed b) where
  entered : (i : ℕ) → i < entry_count b → Entered (entry_in (entry_at b i))
  unfolding entry_in
  entered i l =
      let e = f.entry i l in
      let three = length-masses (entry_at b i) in
      record {
        number = number_at-fits 4 (entry_at b i) 0 (bytes_drop (entries_at + entry_length * i) b h);
        method = e.method;
        gases = three;
        within = rw (← equivalent-is (entry_in (entry_at b i)) three) e.kept;
      }

  before_at : (i : ℕ) → i < entry_count b → prior 0 (entries_of b) i ≡ number_before b i
  unfolding number_before
  before_at zero l = refl
  before_at (suc i) l = ap (λ (e : Entry). e.number) (entry-at b i (omega arith))

  pub reportable : Reportable (report_year b) (entries_of b)
  reportable =
      record {
        in_range = f.header.year;
        count = rw (count-is b) f.header.few;
        order = at_ascending 0 (entries_of b) (λ i l. let m : i < entry_count b = rw (count-is b) at l in rw (entry-at b i m, before_at i m) (f.entry i m).above);
        each = at_each Entered (entries_of b) no_entry (λ i l. let m : i < entry_count b = rw (count-is b) at l in rw (entry-at b i m) (entered i m));
      }

  long : report_length (entry_count b) ≡ length b
  long = sym f.header.filled

  tag-again : take 4 b ≡ report_tag
  tag-again = starts_tag report_tag b (omega arith) f.header.tag

  numbers-again : unpacked header_widths (drop 4 b) ≡ header_numbers (report_year b) (length (entries_of b))
  unfolding unpacked
  numbers-again = rw (count-is b) (simp (number_at-drop, f.header.layout, f.header.zero1, f.header.offset, f.header.size, f.header.zero2))

  totals-again : unpacked (replicate figure_count 8) (drop 24 b) ≡ totals (entries_of b)
  totals-again = unpacked_same 8 24 b figure_count 0 ∙ sym (totals_read b f)

  header_again : report_header (report_year b) (entries_of b) ≡ take entries_at b
  unfolding report_header sum
  header_again =
      let p : 20 ≤ length (drop 4 b) = rw length-drop (omega (arith, long)) in
      let q : 32 ≤ length (drop 24 b) = rw length-drop (omega (arith, long)) in
      let n : packed header_widths (header_numbers (report_year b) (length (entries_of b))) ≡ take 20 (drop 4 b) =
      rw (← numbers-again) (packed_unpacked header_widths (drop 4 b) (bytes_drop 4 b h) p) in
      let t : packed (replicate figure_count 8) (totals (entries_of b)) ≡ take 32 (drop 24 b) =
      rw (← totals-again) (packed_unpacked (replicate figure_count 8) (drop 24 b) (bytes_drop 24 b h) q) in
      ap₂ ◌++◌ (ap₂ ◌++◌ (sym tag-again) n) t ∙ ap (λ (l : List ℕ). l ++ take 32 (drop 24 b)) (sym (take-add 4 20 b)) ∙ sym (take-add 24 32 b)

  row-again : (i : ℕ) → i < entry_count b → entry_bytes (entry_in (entry_at b i)) ≡ take entry_length (entry_at b i)
  row-again i l =
      let e = f.entry i l in
      let m : entry_length ≤ length (entry_at b i) = rw length-drop (omega (arith, long)) in
      entry-again (entry_at b i) e.zeros e.right (bytes_drop (entries_at + entry_length * i) b h) m

  rows-again : joined (map entry_bytes (entries_of b)) ≡ drop entries_at b
  unfolding entries_of
  rows-again =
      write_rows entry_bytes entry_in entry_length entries_at b (entry_count b) 0 (λ i m l. row-again i (omega arith))
      ∙ take_all (entry_length * entry_count b) (drop entries_at b) (rw length-drop (omega (arith, long)))

  pub report-again : report_bytes (report_year b) (entries_of b) ≡ b
  unfolding report_bytes
  report-again = rw (header_again, rows-again) (take-append-drop entries_at b)
