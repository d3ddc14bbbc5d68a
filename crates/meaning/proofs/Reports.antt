-- Laws of reports: what a well-formed one says, and its figures and totals as they are read. Assumes nothing.
use mathlib.Core.Bool.{true, false}
use mathlib.Core.List.{List, [], ◌∷◌, ◌++◌, map}
use mathlib.Core.Path.{◌≡◌, sym, ◌∙◌}
use Prim.Native.Nat.{ℕ, zero, suc, ◌+◌, ◌≤◌, ◌<◌, zero-le}
use native.Mathlib.Nat.{not-suc-le-zero, le_of_suc-le-suc, mul-le-mul_right}
use native.Mathlib.Omega.{arith}
use lib.ListN.{length, get_or, take, drop, replicate, length-append, length-drop}
use lib.Seq.{take-add}
use borrow.Author.Tests.{ltb-false, leb-true, leb-false, eqb-true, not-true, not-false}
use Rattle.basis.specs.Bytes.{number_at, packed, Bytes, starts_with}
use Rattle.basis.specs.Lists.{Each, sum, count_up}
use Rattle.basis.proofs.Bools.{and-true, or_false}
use Rattle.basis.proofs.Counting.{length_counted, at_counted, counted_all, counted_none}
use Rattle.basis.proofs.Lists.{sum_both}
use Rattle.basis.proofs.Rows.{number_at-drop, unpacked, unpacked_same, packed_unpacked, bytes_drop}
use Rattle.meaning.specs.Masses.{gas_count, warming, weighed, equivalent, limit}
use Rattle.meaning.specs.Register.{most_sources}
use Rattle.meaning.specs.Report.{Entry, figures, figure_count, figure, totals, report_tag, report_layout, entries_at, entry_length, report_length, entry_bytes, report_year, entry_count, total_at, entry_at, figure_in, entry_in, entries_of, header_right, number_before, wrong_entry, wrong_total, well_formed}

-- what a right header says
pub record Headed (b : List ℕ) : Type 0 where
  pub filled : length b ≡ report_length (entry_count b)
  pub tag : starts_with report_tag b ≡ true
  pub layout : number_at 2 b 4 ≡ report_layout
  pub year : (1990 ≤ report_year b) × (report_year b ≤ 2100)
  pub few : entry_count b ≤ most_sources
  pub zero1 : number_at 2 b 10 ≡ 0
  pub offset : number_at 4 b 12 ≡ entries_at
  pub size : number_at 4 b 16 ≡ report_length (entry_count b)
  pub zero2 : number_at 4 b 20 ≡ 0

pub headed : (b : List ℕ) → header_right b ≡ true → Headed b
unfolding header_right
headed b w =
    let c1 = and-true _ _ w in
    let c2 = and-true _ _ c1.0 in
    let c3 = and-true _ _ c2.0 in
    let c4 = and-true _ _ c3.0 in
    let c5 = and-true _ _ c4.0 in
    let c6 = and-true _ _ c5.0 in
    let c7 = and-true _ _ c6.0 in
    let c8 = and-true _ _ c7.0 in
    let y = and-true _ _ c6.1 in
    record {
      filled = eqb-true _ _ c8.0;
      tag = c8.1;
      layout = eqb-true _ _ c7.1;
      year = (leb-true _ _ y.0, leb-true _ _ y.1);
      few = leb-true _ _ c5.1;
      zero1 = eqb-true _ _ c4.1;
      offset = eqb-true _ _ c3.1;
      size = eqb-true _ _ c2.1;
      zero2 = eqb-true _ _ c1.1;
    }

-- what a right entry says
pub record RightEntry (b : List ℕ) (i : ℕ) : Type 0 where
  pub above : number_before b i < (entry_in (entry_at b i)).number
  pub method : (1 ≤ (entry_in (entry_at b i)).method) × ((entry_in (entry_at b i)).method ≤ 6)
  pub zeros : number_at 3 (entry_at b i) 5 ≡ 0
  pub right : figure_in (entry_at b i) gas_count ≡ equivalent (entry_in (entry_at b i)).masses
  pub kept : equivalent (entry_in (entry_at b i)).masses ≤ limit

pub right-entry : (b : List ℕ) (i : ℕ) → wrong_entry b i ≡ false → RightEntry b i
unfolding wrong_entry
right-entry b i w =
    let c1 = or_false _ _ w in
    let c2 = or_false _ _ c1.0 in
    let c3 = or_false _ _ c2.0 in
    let c4 = or_false _ _ c3.0 in
    let m = and-true _ _ (not-false _ c4.1) in
    record {
      above = leb-false _ _ c4.0;
      method = (leb-true _ _ m.0, leb-true _ _ m.1);
      zeros = eqb-true _ _ (not-false _ c3.1);
      right = eqb-true _ _ (not-false _ c2.1);
      kept = ltb-false _ _ c1.1;
    }

-- what a well-formed report says
pub record Formed (b : List ℕ) : Type 0 where
  pub header : Headed b
  pub entry : (i : ℕ) → i < entry_count b → RightEntry b i
  pub total : (k : ℕ) → k < figure_count → total_at b k ≡ get_or (totals (entries_of b)) k 0

pub formed : (b : List ℕ) → well_formed b ≡ true → Formed b
unfolding well_formed wrong_total
formed b w =
    let p = and-true _ _ w in
    let q = and-true _ _ p.0 in
    record {
      header = headed b q.0;
      entry = λ i l. right-entry b i (counted_none (wrong_entry b) (entry_count b) 0 (not-true _ q.1) i (omega arith) (omega arith));
      total = λ k l. eqb-true _ _ (not-false _ (counted_none (wrong_total b) figure_count 0 (not-true _ p.1) k (omega arith) (omega arith)));
    }

pub count-is : (b : List ℕ) → length (entries_of b) ≡ entry_count b
unfolding entries_of
count-is b = length_counted (λ i. entry_in (entry_at b i)) 0 (entry_count b)

pub length-masses : (r : List ℕ) → length (entry_in r).masses ≡ gas_count
unfolding entry_in
length-masses r = length_counted (figure_in r) 0 gas_count

-- Figures. None is above the equivalent, since no warming value is below 1.
pub length-figures : (e : Entry) → length e.masses ≡ gas_count → length (figures e) ≡ figure_count
unfolding figures
length-figures e g = rw (length-append, g)

mass-weighed : (ws ms : List ℕ) (k : ℕ) → Each (λ w. 1 ≤ w) ws → length ms ≤ length ws → get_or ms k 0 ≤ weighed ws ms
unfolding weighed
mass-weighed ws [] k p l = zero-le
mass-weighed [] (m ∷ ms) k p l = absurd (not-suc-le-zero l)
mass-weighed (w ∷ ws) (m ∷ ms) zero p l = omega (arith, mul-le-mul_right m p.0)
mass-weighed (w ∷ ws) (m ∷ ms) (suc k) p l = omega (arith, mass-weighed ws ms k p.1 (le_of_suc-le-suc l))

last_bounded : (ms : List ℕ) (q k : ℕ) → ((i : ℕ) → get_or ms i 0 ≤ q) → get_or (ms ++ (q ∷ [])) k 0 ≤ q
last_bounded [] q zero h = omega arith
last_bounded [] q (suc k) h = zero-le
last_bounded (m ∷ ms) q zero h = h 0
last_bounded (m ∷ ms) q (suc k) h = last_bounded ms q k (λ i. h (suc i))

pub figure_bounded : (k : ℕ) (e : Entry) → length e.masses ≤ gas_count → figure k e ≤ equivalent e.masses
unfolding figure figures equivalent
figure_bounded k e g = last_bounded e.masses (equivalent e.masses) k (λ i. mass-weighed warming e.masses i (omega arith) g)

-- the figures of an entry that states its equivalent, as they are read
pub figures_read : (r : List ℕ) → figure_in r gas_count ≡ equivalent (entry_in r).masses → figures (entry_in r) ≡ map (figure_in r) (count_up 0 figure_count)
unfolding figures entry_in count_up
figures_read r e = rw (← e)

pub figure_read : (r : List ℕ) → figure_in r gas_count ≡ equivalent (entry_in r).masses → (k : ℕ) → k < figure_count → figure k (entry_in r) ≡ figure_in r k
unfolding figure
figure_read r e k l = rw (figures_read r e) (at_counted (figure_in r) 0 figure_count k l)

-- an entry that is read and written again is what stood there
abbrev front_widths : List ℕ
front_widths = 4 ∷ 1 ∷ 3 ∷ []

module _ (r : List ℕ) (zeros : number_at 3 r 5 ≡ 0) (right : figure_in r gas_count ≡ equivalent (entry_in r).masses) where
  front-again : unpacked front_widths r ≡ ((entry_in r).number ∷ (entry_in r).method ∷ 0 ∷ [])
  unfolding unpacked entry_in
  front-again = simp (number_at-drop, zeros)

  figures-again : unpacked (replicate figure_count 8) (drop 8 r) ≡ figures (entry_in r)
  figures-again = unpacked_same 8 8 r figure_count 0 ∙ sym (figures_read r right)

  pub entry-again : Bytes r → entry_length ≤ length r → entry_bytes (entry_in r) ≡ take entry_length r
  unfolding entry_bytes sum
  entry-again h l =
      let k : 8 ≤ length r = omega arith in
      let m : 32 ≤ length (drop 8 r) = rw length-drop (omega arith) in
      let f : packed front_widths ((entry_in r).number ∷ (entry_in r).method ∷ 0 ∷ []) ≡ take 8 r = rw (← front-again) (packed_unpacked front_widths r h k) in
      let g : packed (replicate figure_count 8) (figures (entry_in r)) ≡ take 32 (drop 8 r) =
      rw (← figures-again) (packed_unpacked (replicate figure_count 8) (drop 8 r) (bytes_drop 8 r h) m) in
      rw (f, g) (sym (take-add 8 32 r))

-- Totals, and how they are read.
pub length-totals : (es : List Entry) → length (totals es) ≡ figure_count
unfolding totals
length-totals es = length_counted (λ k. sum (map (figure k) es)) 0 figure_count

pub total-is : (es : List Entry) (k : ℕ) → k < figure_count → get_or (totals es) k 0 ≡ sum (map (figure k) es)
unfolding totals
total-is es k l = at_counted (λ k. sum (map (figure k) es)) 0 figure_count k l

-- numbers that are the totals of entries, one by one
pub totals-by : (f : ℕ → ℕ) (es : List Entry) → ((k : ℕ) → k < figure_count → f k ≡ sum (map (figure k) es)) → map f (count_up 0 figure_count) ≡ totals es
totals-by f es h =
    let n = length-totals es in
    rw n at (counted_all f 0 (totals es) (λ k l. let m : k < figure_count = rw n at l in h k m ∙ sym (total-is es k m)))

pub total_read : (b : List ℕ) → Formed b → (k : ℕ) → k < figure_count → total_at b k ≡ sum (map (figure k) (entries_of b))
total_read b f k l = f.total k l ∙ total-is (entries_of b) k l

pub totals_read : (b : List ℕ) → Formed b → totals (entries_of b) ≡ map (total_at b) (count_up 0 figure_count)
totals_read b f = sym (totals-by (total_at b) (entries_of b) (total_read b f))

pub total_more : (es : List Entry) (e : Entry) (k : ℕ) → k < figure_count → get_or (totals (es ++ (e ∷ []))) k 0 ≡ get_or (totals es) k 0 + figure k e
unfolding sum
total_more es e k l = rw (total-is (es ++ (e ∷ [])) k l, total-is es k l) (omega (arith, sum_both (figure k) es (e ∷ [])))
