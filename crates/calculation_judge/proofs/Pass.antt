-- One pass over the sources of a register that has passed: tests 5 to 7, and the figures kept. Assumes nothing.
use Rattle.std.specs.Prelude.{None, Ok, Err, IsErrAnd}
use Rattle.std.specs.Result.{result_unwrap_or}
use mathlib.Core.Bool.{false}
use mathlib.Core.List.{List, [], ◌∷◌, ◌++◌, map, append-nil}
use mathlib.Core.Path.{◌≡◌, refl, sym, ap, ◌∙◌}
use Prim.Native.Nat.{ℕ, zero, suc, ◌+◌, ◌*◌, ◌-◌, ◌≤◌, ◌<◌}
use native.Mathlib.Decide.{dec_lt}
use native.Mathlib.Nat.{zero-add, sub-zero}
use native.Mathlib.Numerals.{add-one}
use native.Mathlib.Omega.{arith}
use mir.Syntax.{w64}
use mir.Val.{Fits}
use borrow.Author.Tests.{eqb-true, not-false}
use lib.Dec.{eqb}
use lib.ListN.{length, get_or, take, drop, length-map, get_or-map, drop_of_length-le}
use lib.Seq.{drop-cons, take_at}
use Rattle.basis.specs.Bytes.{Written}
use Rattle.basis.specs.declared.Refusal.{Refusal}
use Rattle.basis.specs.Answers.{Verdict, Passes, first_refusal}
use Rattle.basis.specs.Lists.{Each, count_up, joined}
use Rattle.basis.specs.First.{first, NoneBelow}
use Rattle.basis.proofs.Answers.{never, single_test, passed-at-first, passed_then, refused_then, passed_up}
use Rattle.basis.proofs.Bools.{or_false}
use Rattle.basis.proofs.ByIndex.{same-by_index, joined-last}
use Rattle.basis.proofs.Bytes.{splice-none, read_inside, length-written, written_then}
use Rattle.basis.proofs.Counting.{get_d_either, get_d_count_up, counted_append}
use Rattle.basis.proofs.First.{first-is, first-end}
use Rattle.basis.proofs.Lists.{length-count_up, at_each}
use Rattle.basis.proofs.Rows.{row_at, length-rows}
use Rattle.fields.specs.Fields.{Field}
use Rattle.meaning.specs.Methods.{Decoded, refusal_of}
use Rattle.meaning.specs.Masses.{masses}
use Rattle.meaning.specs.Register.{Source, lines_at, source_count, line_count, source_entry, first_line_in, line_count_in, source_at, sources_of, line_start, unsound, misplaced, wrong_source, decoded_lines}
use Rattle.meaning.specs.Report.{entry_of, figures, figure_count}
use Rattle.meaning.specs.Calls.{line_test, mass_fault, fault_at, mass_test}
use Rattle.meaning.proofs.Lines.{Following, read_as, all_lines, next_line, length-lines, line-is}
use Rattle.meaning.proofs.Sources.{Placed, placed, no_source, length-sources, source-at}
use Rattle.meaning.proofs.Registers.{right-register}
use Rattle.mass_sums.specs.Lines.{verdict_from}
use Rattle.mass_source.specs.Source.{Judged, no_figures, fault_in, figures_in, figures_beside}
use Rattle.calculation_judge.specs.Sources.{Judgeable, LinesSpan, verdict_at, refused_at, ComesAt, waited, kept_of, kept_to, AllJudged}
use Rattle.calculation_judge.proofs.Waiting.{waited_from, mass_test_lem}

-- where an entry of a register that has passed stands
stands : (b : List ℕ) → Judgeable b → (i : ℕ) → i < source_count b → Placed b i
unfolding wrong_source
stands b h i l = placed b i (or_false (misplaced b i) (unsound (source_at b i)) ((right-register b h.tests).each i l)).0

-- the lines of a register that has passed follow one another
pub following : (b : List ℕ) → Judgeable b → Following b
following b h = record { each = λ i l. (stands b h i l).line; last = (right-register b h.tests).last_line }

-- where the lines of the first source begin, and those of source i
pub begins-first : (b : List ℕ) → 0 ≡ line_start b 0
unfolding line_start
begins-first b = refl

-- the lines of source i end behind so many, where those of the next begin
module _ {b : List ℕ} {n i first count : ℕ} (h : Judgeable b) (e : n ≡ source_count b) (l : i < n) (f : first ≡ line_start b i) (c : Field 2 (source_entry b i) 6 count) where
  within : i < source_count b
  within = omega arith

  pub end_fits : Fits w64 (first + count)
  end_fits = record { fits = omega (arith, h.head.lines, (stands b h i within).lines, (stands b h i within).line, c.is) }

  pub span_at : {base : ℕ} → base ≡ lines_at (source_count b) → LinesSpan b base i first (first + count)
  span_at d = record { stand = d; from = f ∙ sym (stands b h i within).line; up_to = rw c.is }

  pub begins_next : first + count ≡ line_start b (i + 1)
  begins_next = omega (arith, next_line b (following b h) i within, (stands b h i within).line, c.is)

-- what each line of the table is answered, from one on; what those of source i are
unfoldable pub answers_from : List ℕ → ℕ → List Verdict
answers_from b j = map (λ k. refusal_of (get_or (all_lines b) k None) k) (count_up j (line_count b - j))

abbrev answers_of : List ℕ → ℕ → List Verdict
answers_of b i = map (λ k. refusal_of (read_as b i k) k) (count_up (first_line_in (source_entry b i)) (line_count_in (source_entry b i)))

answers-all : (b : List ℕ) → Judgeable b → first_refusal (answers_from b 0) ≡ line_test (sources_of b)
unfolding answers_from line_test
answers-all b h = rw (sub-zero, length-lines b (following b h))

answers-none : (b : List ℕ) → first_refusal (answers_from b (line_count b)) ≡ Passes
unfolding answers_from count_up first_refusal
answers-none b = let z : line_count b - line_count b ≡ 0 = omega arith in rw z

answers_next : (b : List ℕ) → Judgeable b → (i : ℕ) → i < source_count b → answers_from b (line_start b i) ≡ answers_of b i ++ answers_from b (line_start b (i + 1))
unfolding answers_from
answers_next b h i l =
    let f = following b h in
    let e = f.each i l in
    let n = next_line b f i l in
    let c = line_count_in (source_entry b i) in
    let left = line_count b - line_start b (i + 1) in
    let answer : ℕ → Verdict = λ k. refusal_of (get_or (all_lines b) k None) k in
    let q : line_count b - line_start b i ≡ c + left = omega (arith, (stands b h i l).lines) in
    let own : map answer (count_up (line_start b i) c) ≡ answers_of b i =
    rw (← e) (same-by_index answer _ c (first_line_in (source_entry b i)) (λ k p m. ap (λ (d : Decoded). refusal_of d k) (line-is b f i k l p m))) in
    rw q (counted_append answer (line_start b i) c left ∙ rw (← n, own))

-- the faults of all sources
unfoldable pub faults : List ℕ → List ℕ
faults b = map mass_fault (sources_of b)

length_faults : (b : List ℕ) → length (faults b) ≡ source_count b
unfolding faults
length_faults b = length-map (sources_of b) mass_fault ∙ length-sources b

fault-at : (b : List ℕ) (i : ℕ) → i < source_count b → get_or (faults b) i 0 ≡ mass_fault (source_at b i)
unfolding faults
fault-at b i l =
    get_d_either (faults b) i 0 (mass_fault no_source) (omega (arith, length_faults b))
    ∙ get_or-map mass_fault (sources_of b) i no_source
    ∙ ap mass_fault (source-at b i l)

fault_now : (b : List ℕ) (i : ℕ) → i < source_count b → drop i (faults b) ≡ mass_fault (source_at b i) ∷ drop (i + 1) (faults b)
fault_now b i l = drop-cons (faults b) i 0 (omega (arith, length_faults b)) ∙ rw (fault-at b i l, add-one i)

-- where tests 6 and 7 pass, no source has a fault
pub none_faulty : (b : List ℕ) → mass_test (sources_of b) ≡ Passes → (i : ℕ) → i < source_count b → mass_fault (source_at b i) ≡ 0
unfolding mass_test fault_at faults
none_faulty b e i l =
    let none = (passed-at-first (fault_at (faults b)) (length (faults b)) _ _).0 e in
    sym (fault-at b i l) ∙ eqb-true (get_or (faults b) i 0) 0 (not-false (eqb (get_or (faults b) i 0) 0) (none i (omega (arith, length_faults b))))

-- figures are as many of every source
length-kept : (s : Source) → length (kept_of s) ≡ figure_count
unfolding kept_of masses count_up
length-kept s = by (mass_fault s)
  where
    by : (fault : ℕ) → length (figures_beside fault (masses (decoded_lines s))) ≡ figure_count
    by zero = refl
    by (suc fault) = refl

any_of : (ks : List ℕ) → Each (λ _. Unit {0}) ks
any_of ks = at_each (λ _. Unit {0}) ks 0 (λ i l. tt)

length-kept_to : (b : List ℕ) (n : ℕ) → length (kept_to b n) ≡ figure_count * n
unfolding kept_to
length-kept_to b n =
    length-rows (λ k. kept_of (source_at b k)) (λ _. 0) figure_count (λ _. Unit {0}) (λ k _. length-kept (source_at b k)) (count_up 0 n) (any_of (count_up 0 n)) ∙ rw (length-count_up 0 n)

kept_next : (b : List ℕ) (i : ℕ) → kept_to b (i + 1) ≡ kept_to b i ++ kept_of (source_at b i)
unfolding kept_to
kept_next b i = rw (add-one i) (joined-last (λ k. kept_of (source_at b k)) 0 i ∙ rw (zero-add i))

-- what is kept of a source stands at its place, and without a fault is its entry's figures
kept_at : (b : List ℕ) (n i : ℕ) → i < n → take figure_count (drop (figure_count * i) (kept_to b n)) ≡ kept_of (source_at b i)
unfolding kept_to
kept_at b n i l =
    let ks = count_up 0 n in
    let m : i < length ks = rw (length-count_up 0 n) l in
    let g : get_or ks i 0 ≡ i = get_d_count_up 0 n 0 i l ∙ zero-add i in
    let r = row_at (λ k. kept_of (source_at b k)) (λ _. 0) figure_count (λ _. Unit {0}) (λ k _. length-kept (source_at b k)) 0 [] ks i m (any_of ks) in
    rw (rw (append-nil (joined (map (λ k. kept_of (source_at b k)) ks))) at r) (take_at (kept_of (source_at b (get_or ks i 0))) _ figure_count (length-kept (source_at b (get_or ks i 0))) ∙ rw g)

kept-figures : (s : Source) → mass_fault s ≡ 0 → kept_of s ≡ figures (entry_of s)
unfolding kept_of figures entry_of
kept-figures s z = rw z

-- the sources before source i: their lines pass, the lines left are answered as all are, the first fault waits, and their figures are kept
pub record Passing (b kept₀ : List ℕ) (w : Verdict) (kept : List ℕ) (i : ℕ) : Type 0 where
  pub low : i ≤ source_count b
  pub size : length kept ≡ length kept₀
  pub good : NoneBelow (refused_at b) i
  pub lines : first_refusal (answers_from b (line_start b i)) ≡ line_test (sources_of b)
  pub rest : waited_from i (drop i (faults b)) w ≡ mass_test (sources_of b)
  pub stored : Written kept₀ 0 (kept_to b i) kept

pub passing_none : (b kept : List ℕ) → Judgeable b → Passing b kept Passes kept 0
unfolding line_start faults kept_to count_up joined
passing_none b kept h =
    record {
      low = omega arith;
      size = refl;
      good = λ k l. absurd (omega arith);
      lines = answers-all b h;
      rest = sym (mass_test_lem (sources_of b));
      stored = record { fits = omega arith; is = sym (splice-none kept 0) };
    }

module _ {b kept₀ kept : List ℕ} {w : Verdict} {i : ℕ} (h : Judgeable b) (s : Passing b kept₀ w kept i) (l : i < source_count b) where
  -- the lines of the source, and then those behind them
  lines_now : line_test (sources_of b) ≡ first_refusal (answers_of b i ++ answers_from b (line_start b (i + 1)))
  lines_now = sym s.lines ∙ ap first_refusal (answers_next b h i l)

  pub passing_bad : {refusal : Refusal} {v : Verdict} → ComesAt b i (Err refusal) → IsErrAnd v (λ r. r ≡ refusal) → AllJudged b kept₀ v kept
  unfolding verdict_from first_refusal
  passing_bad {refusal = refusal} {v = v} c u =
      let e : verdict_at b i ≡ Err refusal = sym c.verdict in
      let p : v ≡ Err refusal = passed_up v u in
      let t : line_test (sources_of b) ≡ Err refusal = lines_now ∙ refused_then (answers_of b i) (answers_from b (line_start b (i + 1))) {n = refusal.number} {p = refusal.place} e in
      let f : first (refused_at b) (source_count b) ≡ i = first-is (refused_at b) (source_count b) i l s.good (rw e) in
      record { verdict = p ∙ rw t; left = rw f s.stored; stored = λ q. absurd (never (sym q ∙ p)) }

  pub passing_more : {judged : Judged} {kept' : List ℕ} {w' : Verdict} → ComesAt b i (Ok judged) → Written kept (figure_count * i) (figures_in judged) kept'
      → w' ≡ waited w (fault_in judged) i → Passing b kept₀ w' kept' (i + 1)
  unfolding waited_from verdict_from kept_of
  passing_more {judged = judged} {kept'} {w'} c v u =
      let t : verdict_at b i ≡ Passes = sym c.verdict in
      let fault : fault_in judged ≡ mass_fault (source_at b i) = c.fault in
      let figures : figures_in judged ≡ kept_of (source_at b i) = c.figures in
      record {
        low = omega arith;
        size = length-written v ∙ s.size;
        good = good_next t;
        lines = sym (lines_now ∙ passed_then (answers_of b i) (answers_from b (line_start b (i + 1))) t);
        rest = rw (u, fault) (rw (fault_now b i l) at s.rest);
        stored = rw (kept_next b i, ← figures) (written_then s.stored v (omega (arith, length-kept_to b i)));
      }
    where
      good_next : verdict_at b i ≡ Passes → (k : ℕ) → k < i + 1 → refused_at b k ≡ false
      good_next t k m = by (dec_lt k i)
        where
          by : Dec (k < i) → refused_at b k ≡ false
          by (yes q) = s.good k q
          by (no q) = let o : k ≡ i = omega arith in rw (o, t)

pub passing_all : {b kept₀ kept : List ℕ} {w : Verdict} {i : ℕ} → Judgeable b → Passing b kept₀ w kept i → source_count b ≤ i → AllJudged b kept₀ w kept
unfolding waited_from first_refusal
passing_all {b} {kept₀} {kept} {w} {i} h s l =
    let o : i ≡ source_count b = omega (arith, s.low) in
    let lines : line_test (sources_of b) ≡ Passes = sym s.lines ∙ rw (o, (following b h).last) (answers-none b) in
    let none : drop i (faults b) ≡ [] = drop_of_length-le (faults b) {i = i} (omega (arith, length_faults b)) in
    let sums : w ≡ mass_test (sources_of b) = rw none at s.rest in
    let f : first (refused_at b) (source_count b) ≡ i = first-end (refused_at b) (source_count b) (rw o at s.good) ∙ sym o in
    record {
      verdict = sums ∙ rw lines (sym (single_test (mass_test (sources_of b))));
      left = rw f s.stored;
      stored = λ p k m.
          rw (zero-add (figure_count * k)) at (read_inside s.stored (figure_count * k) figure_count (omega (arith, length-kept_to b i)))
          ∙ kept_at b i k (omega arith)
          ∙ kept-figures (source_at b k) (none_faulty b (sym sums ∙ p) k m);
    }

-- zeros are kept of a source that has a fault
pub figures_or : (judged : Judged) → result_unwrap_or judged no_figures ≡ figures_in judged
figures_or (Ok figures) = refl
figures_or (Err fault) = refl
