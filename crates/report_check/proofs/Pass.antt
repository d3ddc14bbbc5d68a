-- The pass over the entries and the comparison of the totals: how each begins, goes on and ends. Assumes nothing.
use mathlib.Core.Bool.{Bool, true, false, not, ◌&&◌, ◌||◌}
use mathlib.Core.List.{List, [], ◌∷◌, ◌++◌, map}
use mathlib.Core.Path.{◌≡◌, refl, sym, ap, ◌∙◌}
use Prim.Native.Nat.{ℕ, zero, suc, ◌+◌, ◌*◌, ◌-◌, ◌≤◌, ◌<◌}
use native.Mathlib.Nat.{add-zero, zero-add, sub-zero}
use native.Mathlib.Numerals.{add-one}
use native.Mathlib.Omega.{arith}
use borrow.Author.Rules.{rules}
use lib.Dec.{eqb}
use lib.ListN.{length, get_or}
use Rattle.basis.specs.Lists.{sum, count_up, any}
use Rattle.basis.proofs.Rows.{number_at-drop}
use Rattle.meaning.specs.Masses.{limit}
use Rattle.meaning.specs.Register.{most_sources}
use Rattle.meaning.specs.Report.{Entry, figure_count, totals, entries_at, entry_length, report_length, entry_count, entry_at, entry_in, entries_of, number_before, wrong_entry, wrong_total}
use Rattle.meaning.proofs.Reports.{RightEntry, right-entry, length-totals, total-is, totals-by, total_more}
use Rattle.fields.specs.Fields.{Field}
use Rattle.report_read.specs.Figures.{figure_at, added_at, Addable}
use Rattle.report_read.proofs.Entries.{figure-stands, figure-small}

-- no index below i has the test, and the later ones decide
pub record Searched (test : ℕ → Bool) (n i : ℕ) : Type 0 where
  pub low : i ≤ n
  pub rest : any test (count_up i (n - i)) ≡ any test (count_up 0 n)

searched_none : (test : ℕ → Bool) (n : ℕ) → Searched test n 0
searched_none test n = record { low = omega arith; rest = rw sub-zero }

module _ {test : ℕ → Bool} {n i : ℕ} (s : Searched test n i) where
  searched_next : i < n → test i || any test (count_up (i + 1) (n - (i + 1))) ≡ any test (count_up 0 n)
  unfolding any count_up
  searched_next l = let q : n - i ≡ suc (n - (i + 1)) = omega arith in rw q at s.rest

  searched_more : i < n → test i ≡ false → Searched test n (i + 1)
  searched_more l e = record { low = omega arith; rest = rw e at (searched_next l) }

  searched_hit : i < n → test i ≡ true → any test (count_up 0 n) ≡ true
  searched_hit l e = sym (rw e at (searched_next l))

  searched_all : n ≤ i → any test (count_up 0 n) ≡ false
  unfolding any count_up
  searched_all l = let z : n - i ≡ 0 = omega arith in sym (rw z at s.rest)

-- the totals before k are the sums
pub record Compared (b : List ℕ) (k : ℕ) : Type 0 where
  pub searched : Searched (wrong_total b) figure_count k

pub compared_none : (b : List ℕ) → Compared b 0
compared_none b = record { searched = searched_none (wrong_total b) figure_count }

module _ {b : List ℕ} {k : ℕ} (c : Compared b k) where
  module _ {ts : List ℕ} {stated : ℕ} (l : k < figure_count) (h : (entries_at ≤ length b) × (ts ≡ totals (entries_of b))) (f : Field 8 b (24 + 8 * k) stated) where
    wrong-is : wrong_total b k ≡ not (eqb stated (get_or ts k 0))
    unfolding wrong_total
    wrong-is = rw (h.1, f.is)

    pub compared_more : not (eqb stated (get_or ts k 0)) ≡ false → Compared b (k + 1)
    compared_more e = record { searched = searched_more c.searched l (wrong-is ∙ e) }

    pub compared_not : not (eqb stated (get_or ts k 0)) ≡ true → false ≡ not (any (wrong_total b) (count_up 0 figure_count))
    compared_not e = rw (searched_hit c.searched l (wrong-is ∙ e))

  pub compared_all : figure_count ≤ k → true ≡ not (any (wrong_total b) (count_up 0 figure_count))
  compared_all l = rw (searched_all c.searched l)

pub ruleset comparing = (rules, compared_more, compared_not, compared_all)

-- the entries before i
unfoldable pub entries_to : List ℕ → ℕ → List Entry
entries_to b i = map (λ j. entry_in (entry_at b j)) (count_up 0 i)

counted_more : {A : Type 0} (f : ℕ → A) (n j : ℕ) → map f (count_up j (suc n)) ≡ map f (count_up j n) ++ (f (j + n) ∷ [])
unfolding count_up
counted_more f zero j = rw add-zero
counted_more f (suc n) j =
    let q : j + 1 + n ≡ j + suc n = omega arith in
    rw (counted_more f n (j + 1), q)

-- the entries before i are right, the last of them has the number before, and the totals are theirs
pub record Checked (b : List ℕ) (n : ℕ) (ts : List ℕ) (before i : ℕ) : Type 0 where
  pub searched : Searched (wrong_entry b) n i
  pub prior : before ≡ number_before b i
  pub sums : ts ≡ totals (entries_to b i)
  pub small : (k : ℕ) → k < figure_count → get_or ts k 0 ≤ limit * i

pub checked-none : (b : List ℕ) (n : ℕ) → Checked b n (0 ∷ 0 ∷ 0 ∷ 0 ∷ []) 0 0
unfolding number_before totals sum count_up entries_to
checked-none b n =
    let z : ◌≡◌ {A = List ℕ} (0 ∷ 0 ∷ 0 ∷ 0 ∷ []) (totals (entries_to b 0)) = refl in
    record { searched = searched_none (wrong_entry b) n; prior = refl; sums = z; small = λ k l. rw (z, total-is [] k l) (omega arith) }

-- what the check of n entries asks
abbrev pub OfCount : List ℕ → ℕ → Type 0
OfCount b n = (length b ≡ report_length n) × (n ≤ most_sources) × (n ≡ entry_count b)

module _ {b : List ℕ} {n : ℕ} {ts : List ℕ} {before i : ℕ} (c : Checked b n ts before i) where
  pub checked-length : figure_count ≡ length ts
  checked-length = sym (ap length c.sums ∙ length-totals (entries_to b i))

  module _ (p : OfCount b n) (l : i < n) where
    pub checked-wrong : {wrong : Bool} → wrong ≡ wrong_entry b i → wrong ≡ true
        → false ≡ not (any (wrong_entry b) (count_up 0 n)) && not (any (wrong_total b) (count_up 0 figure_count))
    checked-wrong e t = rw (searched_hit c.searched l (sym e ∙ t))

    module _ {wrong : Bool} (e : wrong ≡ wrong_entry b i) (t : wrong ≡ false) where
      entry-right : RightEntry b i
      entry-right = right-entry b i (sym e ∙ t)

      stated-small : (k : ℕ) → k < figure_count → figure_at b (entries_at + entry_length * i + 8) k ≤ limit
      stated-small k m = rw (figure-stands entry-right k m) (figure-small entry-right k)

      pub checked-adds : Addable b (entries_at + entry_length * i + 8) ts
      checked-adds =
          record {
            stand = omega (arith, p.0, checked-length);
            fit = λ k m. let q : k < figure_count = rw (sym checked-length) at m in omega (arith, c.small k q, stated-small k q, p.1);
          }

      pub checked_more : {next : ℕ} {us : List ℕ} → us ≡ added_at b (entries_at + entry_length * i + 8) ts → Field 4 b (entries_at + entry_length * i) next
          → Checked b n us next (i + 1)
      unfolding number_before entries_to added_at entry_in
      checked_more {next} {us} u f =
          let at = entries_at + entry_length * i in
          let es = entries_to b (i + 1) in
          let s : es ≡ entries_to b i ++ (entry_in (entry_at b i) ∷ []) = rw (add-one i) (rw (zero-add i) at (counted_more (λ j. entry_in (entry_at b j)) i 0)) in
          let each : (k : ℕ) → k < figure_count → get_or ts k 0 + figure_at b (at + 8) k ≡ get_or (totals es) k 0 =
          λ k m. rw (s, total_more (entries_to b i) (entry_in (entry_at b i)) k m, ← c.sums, figure-stands entry-right k m) in
          let made : added_at b (at + 8) ts ≡ totals es =
          rw (← checked-length) (totals-by (λ k. get_or ts k 0 + figure_at b (at + 8) k) es (λ k m. each k m ∙ total-is es k m)) in
          record {
            searched = searched_more c.searched l (sym e ∙ t);
            prior = f.is ∙ rw (add-one i, number_at-drop 4 b at 0, add-zero);
            sums = u ∙ made;
            small = λ k m. rw (u ∙ made, ← each k m) (omega (arith, c.small k m, stated-small k m));
          }

  pub checked-totals : OfCount b n → n ≤ i → ts ≡ totals (entries_of b)
  unfolding entries_to entries_of
  checked-totals p l =
      let q : i ≡ n = omega (arith, c.searched.low) in
      c.sums ∙ rw (q, p.2)

  pub checked-all : n ≤ i → {r : Bool} → r ≡ not (any (wrong_total b) (count_up 0 figure_count))
      → r ≡ not (any (wrong_entry b) (count_up 0 n)) && not (any (wrong_total b) (count_up 0 figure_count))
  checked-all l e = rw (searched_all c.searched l) e
