-- The figures of all sources added up, and that they are the totals of the report. Assumes nothing.
use mathlib.Core.List.{List, [], ◌∷◌, map, map-map}
use mathlib.Core.Path.{◌≡◌, refl, sym, ap, ◌∙◌}
use Prim.Native.Nat.{ℕ, zero, suc, ◌+◌, ◌*◌, ◌≤◌, ◌<◌}
use native.Mathlib.Nat.{add-zero, zero-add}
use native.Mathlib.Numerals.{add-one}
use native.Mathlib.Omega.{arith}
use mir.Syntax.{w64}
use mir.Val.{Fits}
use lib.ListN.{length, get_or, drop, replicate, set}
use lib.Seq.{get_or-take, get_or-drop}
use Rattle.basis.specs.Lists.{sum, count_up}
use Rattle.basis.proofs.ByIndex.{same-by_index}
use Rattle.basis.proofs.Counting.{counted_append, length_counted, at_counted}
use Rattle.basis.proofs.Filling.{Filled, filled_none, filled_now, filled_more, filled-all}
use Rattle.basis.proofs.Lists.{sum_append}
use Rattle.meaning.specs.Masses.{gas_count, limit}
use Rattle.meaning.specs.Register.{source_count, source_at, sources_of}
use Rattle.meaning.specs.Report.{entry_of, figures, figure_count, figure, totals}
use Rattle.meaning.specs.Calls.{entries_for}
use Rattle.meaning.proofs.Reports.{figure_bounded}
use Rattle.meaning.proofs.Lengths.{source_massed}
use Rattle.meaning.proofs.Totals.{totals-in_order}
use Rattle.register_order.proofs.Tested.{passed_headed}
use Rattle.calculation_write.specs.Ready.{Ready, figure_of, total, totals_of, Summable}

-- one source more
total_more : (figures : List ℕ) (i k : ℕ) → total figures (i + 1) k ≡ total figures i k + figure_of figures k i
unfolding total sum count_up
total_more figures i k =
    ap sum (counted_append (figure_of figures k) 0 i 1)
    ∙ sum_append (map (figure_of figures k) (count_up 0 i)) (figure_of figures k (0 + i) ∷ [])
    ∙ rw (zero-add i, add-zero (figure_of figures k i))

total-none : (stored : List ℕ) (k : ℕ) → total stored 0 k ≡ 0
unfolding total sum count_up
total-none stored k = refl

-- no total of so few sources leaves 64 bits
total-small : (stored : List ℕ) (n i k : ℕ) → Summable stored n → i ≤ n → k < figure_count → total stored i k ≤ limit * i
total-small stored n zero k h l m = rw (total-none stored k) (omega arith)
total-small stored n (suc i) k h l m =
    rw (← add-one i, total_more stored i k) (omega (arith, total-small stored n i k h (omega arith) m, h.small i k (omega arith) m))

pub length-totals_of : (figures : List ℕ) (n : ℕ) → length (totals_of figures n) ≡ figure_count
unfolding totals_of
length-totals_of figures n = length_counted (total figures n) 0 figure_count

-- the totals of no source, and those of all sources from those of one less
pub totals-none : (figures : List ℕ) → replicate figure_count 0 ≡ totals_of figures 0
unfolding totals_of total sum count_up
totals-none figures = refl

-- k totals have source i added
pub record Adding (figures : List ℕ) (i : ℕ) (to₀ to : List ℕ) (k : ℕ) : Type 0 where
  pub before : to₀ ≡ totals_of figures i
  pub filled : Filled (total figures (i + 1)) to₀ to k

pub adding-none : {figures to : List ℕ} {i : ℕ} → to ≡ totals_of figures i → Adding figures i to to 0
adding-none {figures} {to} {i} e = record { before = e; filled = filled_none (total figures (i + 1)) to }

module _ {figures to₀ to : List ℕ} {i k : ℕ} (r : Adding figures i to₀ to k) where
  pub adding-each : length to₀ ≡ figure_count
  adding-each = ap length r.before ∙ length-totals_of figures i

  module _ (h : Summable figures (i + 1)) (l : k < figure_count) where
    is : get_or to k 0 ≡ total figures i k
    unfolding totals_of
    is = filled_now r.filled ∙ ap (λ (l : List ℕ). get_or l k 0) r.before ∙ at_counted (total figures i) 0 figure_count k l

    pub adding-fits : Fits w64 (get_or to k 0 + get_or figures (figure_count * i + k) 0)
    adding-fits = omega (arith, is, total-small figures (i + 1) i k h (omega arith) l, h.small i k (omega arith) l, h.few)

    pub adding_more : Adding figures i to₀ (set to k (get_or to k 0 + get_or figures (figure_count * i + k) 0)) (k + 1)
    adding_more =
        record {
          before = r.before;
          filled = filled_more r.filled (omega (arith, r.filled.kept, adding-each)) (ap (λ (m : ℕ). m + figure_of figures k i) is ∙ sym (total_more figures i k));
        }

  pub adding-all : figure_count ≤ k → to ≡ totals_of figures (i + 1)
  unfolding totals_of
  adding-all l =
      filled-all r.filled (omega (arith, r.filled.kept, adding-each)) ∙ ap (λ (m : ℕ). map (total figures (i + 1)) (count_up 0 m)) adding-each

module _ {b keys stored : List ℕ} (r : Ready b keys stored) where
  -- the figures of a source, as they are stored
  stored_is : (i k : ℕ) → i < source_count b → k < figure_count → figure_of stored k i ≡ figure k (entry_of (source_at b i))
  unfolding figure
  stored_is i k l m =
      sym (get_or-take figure_count (drop (figure_count * i) stored) k 0 m ∙ get_or-drop (figure_count * i) stored k 0) ∙ ap (λ (l : List ℕ). get_or l k 0) (r.stored i l)

  pub summable : {n : ℕ} → n ≡ source_count b → Summable stored n
  summable f =
      record {
        few = omega (arith, (passed_headed b r.passes).sources);
        long = omega (arith, r.long);
        small = λ i k l m.
            let q : i < source_count b = omega arith in
            let g : length (entry_of (source_at b i)).masses ≤ gas_count = omega (arith, source_massed (source_at b i)) in
            rw (stored_is i k q m) (omega (arith, figure_bounded k (entry_of (source_at b i)) g, r.kept i q));
      }

  total-is : (k : ℕ) → k < figure_count → total stored (source_count b) k ≡ sum (map (figure k) (map entry_of (sources_of b)))
  unfolding total sources_of
  total-is k m =
      ap sum
      (same-by_index (figure_of stored k) (λ i. figure k (entry_of (source_at b i))) (source_count b) 0 (λ i z l. stored_is i k (omega arith) m)
      ∙ sym (ap (map (figure k)) (map-map entry_of (source_at b) (count_up 0 (source_count b))) ∙ map-map (figure k) (λ i. entry_of (source_at b i)) (count_up 0 (source_count b))))

  -- in whichever order the sources are added
  pub totals_are : totals_of stored (source_count b) ≡ totals (entries_for (sources_of b))
  unfolding totals_of totals entries_for
  totals_are =
      same-by_index (total stored (source_count b)) (λ k. sum (map (figure k) (map entry_of (sources_of b)))) figure_count 0 (λ k z m. total-is k (omega arith))
      ∙ sym (totals-in_order (map entry_of (sources_of b)))
