-- The lines of a report's text: their numbers as they are read, and how long they are. Assumes nothing.
use mathlib.Core.List.{List, [], ◌∷◌}
use mathlib.Core.Path.{◌≡◌, sym, ap, ◌∙◌}
use Prim.Native.Nat.{ℕ, ◌+◌, ◌*◌, ◌≤◌, ◌<◌}
use native.Mathlib.Nat.{add-zero}
use native.Mathlib.Numerals.{add-one}
use native.Mathlib.Omega.{arith}
use mir.Syntax.{w64}
use mir.Val.{Fits}
use borrow.Author.Rules.{rules}
use lib.ListN.{length, get_or, drop, length-append, drop_of_length-le}
use lib.Seq.{drop-cons}
use Rattle.basis.specs.Bytes.{number_at}
use Rattle.basis.proofs.Counting.{length_counted, at_counted}
use Rattle.basis.proofs.Rows.{number_at-drop}
use Rattle.meaning.specs.Report.{Entry, figure_count, entries_at, entry_length, report_year, entry_count, entry_at, entry_in, entries_of, totals}
use Rattle.meaning.specs.Text.{decimal, text_line}
use Rattle.meaning.proofs.Reports.{formed, count-is, figures_read, totals_read}
use Rattle.fields.specs.Fields.{Field}
use Rattle.report_read.specs.Figures.{figure_at, figures_at}
use Rattle.report_read.specs.Readable.{Readable}
use Rattle.report_read.specs.Entries.{entry_number}
use Rattle.report_read.proofs.Entries.{figures-drop}
use Rattle.decimal_write.specs.Digits.{Counted}
use Rattle.report_text.specs.Rows.{Measured, head_numbers, entry_numbers}
use Rattle.decimal_write.proofs.Counts.{count-one}

-- the bytes of fields, each with the byte behind it
unfoldable pub spans : List ℕ → ℕ
spans [] = 0
spans (n ∷ ns) = length (decimal n) + 1 + spans ns

pub length-line : (ns : List ℕ) → 0 < length ns → length (text_line ns) ≡ spans ns
unfolding text_line spans
length-line [] h = absurd (omega arith)
length-line (n ∷ []) h = rw (length-append (decimal n) (10 ∷ []), add-zero)
length-line (n ∷ m ∷ ns) h = rw (length-append (decimal n) (32 ∷ text_line (m ∷ ns)), length-line (m ∷ ns) (omega arith)) (omega arith)

pub length-figures : (b : List ℕ) (at : ℕ) → length (figures_at figure_count b at) ≡ figure_count
unfolding figures_at
length-figures b at = length_counted (figure_at b at) 0 figure_count

figure-is : (b : List ℕ) (at k : ℕ) → k < figure_count → get_or (figures_at figure_count b at) k 0 ≡ number_at 8 b (at + 8 * k)
unfolding figures_at
figure-is b at k l = at_counted (figure_at b at) 0 figure_count k l

-- k figures are measured
pub record Measuring (b : List ℕ) (at total k : ℕ) : Type 0 where
  pub low : k ≤ figure_count
  pub rest : total + spans (drop k (figures_at figure_count b at)) ≡ spans (figures_at figure_count b at)
  pub small : total ≤ 21 * k

module _ {b : List ℕ} {at total k : ℕ} (m : Measuring b at total k) where
  abbrev figures : List ℕ
  figures = figures_at figure_count b at

  module _ {figure digits : ℕ} (l : k < figure_count) (f : Field 8 b (at + 8 * k) figure) (c : Counted figure digits) where
    pub measuring_more : Measuring b at (total + (digits + 1)) (k + 1)
    unfolding spans
    measuring_more =
        let h : k < length figures = omega (arith, length-figures b at) in
        let e : get_or figures k 0 ≡ figure = figure-is b at k l ∙ sym f.is in
        let s : spans (drop k figures) ≡ length (decimal figure) + 1 + spans (drop (k + 1) figures) = rw (drop-cons figures k 0 h, e, add-one k) in
        record { low = omega arith; rest = omega (arith, m.rest, c.count); small = omega (arith, m.small, c.few) }

  pub measuring_all : figure_count ≤ k → Measured figures total
  unfolding spans
  measuring_all h =
      let n = length-figures b at in
      let z : spans (drop k figures) ≡ 0 = ap spans (drop_of_length-le figures {i = k} (omega (arith, n))) in
      record { is = rw (length-line figures (omega (arith, n))) (omega (arith, m.rest)); small = omega (arith, n, m.small, m.low) }

-- two numbers before the figures
row_measured : {fs : List ℕ} {rest a b first second : ℕ} → length fs ≡ figure_count → Measured fs rest → Counted a first → Counted b second
    → Measured (a ∷ b ∷ fs) (first + second + 2 + rest)
unfolding spans
row_measured {fs} {a = a} {b = b} e m f s =
    record {
      is = rw (length-line (a ∷ b ∷ fs) (omega arith)) (omega (arith, f.count, s.count, m.is, length-line fs (omega arith)));
      small = omega (arith, f.few, s.few, m.small);
    }

-- the numbers of a line as they are read
pub totals_are : {b : List ℕ} → Readable b → totals (entries_of b) ≡ figures_at figure_count b 24
unfolding figures_at
totals_are {b} r = totals_read b (formed b r.right)

module _ {b : List ℕ} (r : Readable b) {year n : ℕ} (y : year ≡ report_year b) (f : n ≡ entry_count b) where
  head_read : head_numbers b ≡ year ∷ n ∷ figures_at figure_count b 24
  unfolding head_numbers
  head_read = rw (y, f, count-is b, totals_are r)

  module _ {first second rest : ℕ} (p : Counted year first) (q : Counted n second) (m : Measured (figures_at figure_count b 24) rest) where
    pub head-fits : Fits w64 (first + second + 2 + rest)
    head-fits = record { fits = omega (arith, p.few, q.few, m.small, length-figures b 24) }

    pub head_measured : Measured (head_numbers b) (first + second + 2 + rest)
    head_measured = rw head_read (row_measured (length-figures b 24) m p q)

module _ {b : List ℕ} {i : ℕ} (r : Readable b) (l : i < entry_count b) where
  abbrev place : ℕ
  place = entries_at + entry_length * i

  abbrev entry : Entry
  entry = entry_in (entry_at b i)

  pub method_read : {method : ℕ} → Field 1 b (place + 4) method → method ≡ entry.method
  unfolding entry_in
  method_read m = m.is ∙ sym (number_at-drop 1 b place 4)

  one-digit : Counted entry.method 1
  one-digit = record { count = count-one entry.method (omega (arith, ((formed b r.right).entry i l).method.1)); few = omega arith }

  module _ {number : ℕ} (f : number ≡ entry_number b i) where
    pub entry_read : entry_numbers entry ≡ number ∷ entry.method ∷ figures_at figure_count b (place + 8)
    unfolding entry_numbers entry_number entry_in figures_at
    entry_read =
        sym (rw (f, figures-drop figure_count b place 8, figures_read (drop place b) ((formed b r.right).entry i l).right))

    module _ {first rest : ℕ} (p : Counted number first) (m : Measured (figures_at figure_count b (place + 8)) rest) where
      pub entry-fits : Fits w64 (first + 3 + rest)
      entry-fits = record { fits = omega (arith, p.few, m.small, length-figures b (place + 8)) }

      pub entry_measured : Measured (entry_numbers entry) (first + 3 + rest)
      entry_measured =
          let w = row_measured (length-figures b (place + 8)) m p one-digit in
          rw entry_read (record { is = omega (arith, w.is); small = omega (arith, w.small) })

pub ruleset rowing = (rules, head-fits, head_measured, entry-fits, entry_measured)
