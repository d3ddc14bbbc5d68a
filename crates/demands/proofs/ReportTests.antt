-- The tests 9 to 13 of combination, removal and the report check decide their rows. Assumes nothing.
use mathlib.Core.Bool.{Bool, true, false, not}
use mathlib.Core.List.{List, ◌++◌, map}
use mathlib.Core.Logic.{◌≢◌}
use mathlib.Core.Path.{◌≡◌, refl, sym, ap, subst, ◌∙◌}
use Prim.Native.Nat.{ℕ, ◌+◌, ◌≤◌, ◌<◌}
use native.Mathlib.Omega.{arith}
use native.Mathlib.Decide.{dec_lt}
use lib.Dec.{eqb}
use lib.ListN.{length, get_or, length-map, length-append, get_or-map}
use borrow.Author.Tests.{eqb-true, eq-eqb, not-true, not-false}
use Rattle.basis.specs.Answers.{Passes, refuse_if}
use Rattle.basis.specs.Bytes.{number_at, Bytes}
use Rattle.basis.specs.Lists.{Each, stands, any}
use Rattle.basis.proofs.Answers.{never, refused-at-first, passed-at-first}
use Rattle.basis.proofs.Lists.{length-sorted_by, at_each, each_append, sorted_by-each}
use Rattle.basis.proofs.Bools.{clash, not_both}
use Rattle.meaning.specs.Register.{most_sources}
use Rattle.meaning.specs.Report.{Entry, report_year, entry_count, entry_at, entry_in, entries_of, in_order, well_formed}
use Rattle.meaning.specs.Calls.{form_test, year_test, shared_at, shared_test, count_test, numbered, absent_test}
use Rattle.demands.specs.Valid.{Entered, entry_number, no_entry, Reportable, IsReport}
use Rattle.demands.specs.Exactly.{Nowhere, at}
use Rattle.demands.specs.Refusals.{NoReport, HasNumber, InBoth}
use Rattle.basis.proofs.Counting.{any_some, some-any, any-map}
use Rattle.demands.proofs.Order.{ascending_each, ascending_distinct, ascending_lt, sorted_ascending, distinct_append}
use Rattle.demands.proofs.Compared.{decide_is, decide_above}
use Rattle.demands.proofs.Exactly.{Decides, decide_if}
use Rattle.demands.proofs.Reports.{report-right}
use Rattle.demands.proofs.Holds.{is-report, written-again}
use Rattle.meaning.proofs.Reports.{formed, count-is}
use Rattle.demands.proofs.WellFormed.{reportable, report-again, entry-at}

-- a well-formed report is the report of its year and its entries
pub formed-report : (b : List ℕ) → Bytes b → well_formed b ≡ true → IsReport b (report_year b) (entries_of b)
formed-report b h e =
    let w = formed b e in
    subst (λ (x : List ℕ). IsReport x (report_year b) (entries_of b)) (report-again b h w) (is-report (report_year b) (entries_of b) (reportable b h w))

-- 9
pub form_decides : (b : List ℕ) (which : ℕ) → Bytes b → Decides (form_test b which) (at 9 which (NoReport b))
form_decides b which h =
    decide_if (not (well_formed b)) 9 which (NoReport b)
    (λ e year es r. clash (ap well_formed (sym (written-again b year es r)) ∙ report-right year es r.makes) (not-true (well_formed b) e))
    (λ e f. f (report_year b) (entries_of b) (formed-report b h (not-false (well_formed b) e)))

pub passed_form : (b : List ℕ) (which : ℕ) → form_test b which ≡ Passes → well_formed b ≡ true
passed_form b which e = by (well_formed b) refl e
  where
    by : (c : Bool) → well_formed b ≡ c → refuse_if (not c) 9 which ≡ Passes → well_formed b ≡ true
    by true p q = p
    by false p q = absurd (never (sym q))

-- 10
pub year_decides : (one other : List ℕ) → Decides (year_test one other) (at 10 0 (report_year one ≢ report_year other))
year_decides one other = decide_is (report_year one) (report_year other) 10 0

-- the numbers of a report: by index, and, where it is well-formed, ascending
number-at : (b : List ℕ) (i : ℕ) → i < entry_count b → (get_or (entries_of b) i no_entry).number ≡ number_at 4 (entry_at b i) 0
unfolding entry_in
number-at b i l = ap (λ (e : Entry). e.number) (entry-at b i l)

module _ (b : List ℕ) (h : Bytes b) (w : well_formed b ≡ true) where
  pub made_of : Reportable (report_year b) (entries_of b)
  made_of = reportable b h (formed b w)

  pub has : (x : ℕ) → HasNumber b x → any (numbered x) (entries_of b) ≡ true
  has x r =
      let l : r.0 < length (entries_of b) = rw (count-is b) r.1 in
      some-any (numbered x) no_entry (entries_of b) r.0 l (eq-eqb _ x (number-at b r.0 r.1 ∙ r.2))

  pub has_it : (x : ℕ) → any (numbered x) (entries_of b) ≡ true → HasNumber b x
  has_it x e =
      let r = any_some (numbered x) no_entry (entries_of b) e in
      let l : r.0 < entry_count b = rw (count-is b) at r.1 in
      (r.0, l, sym (number-at b r.0 l) ∙ eqb-true _ x r.2)

-- 13
pub absent_decides : (b : List ℕ) (x : ℕ) → Bytes b → well_formed b ≡ true → Decides (absent_test b x) (at 13 x (HasNumber b x → ⊥))
absent_decides b x h w =
    decide_if (not (any (numbered x) (entries_of b))) 13 x (HasNumber b x → ⊥)
    (λ e r. clash (has b h w x r) (not-true _ e))
    (λ e f. f (has_it b h w x (not-false _ e)))

irrefl : {n : ℕ} → n < n → ⊥
irrefl l = omega arith

-- 11. The numbers of the one, by index, and whether each stands in the other
numbers : List ℕ → List ℕ
numbers b = map entry_number (entries_of b)

module _ (one other : List ℕ) (h : Bytes one) (g : Bytes other) (w : well_formed one ≡ true) (v : well_formed other ≡ true) where
  shared_test_lem : ℕ → Bool
  shared_test_lem = shared_at (numbers one) (numbers other)

  shared_at_lem : (i : ℕ) → i < entry_count one → shared_test_lem i ≡ any (numbered (number_at 4 (entry_at one i) 0)) (entries_of other)
  unfolding shared_test_lem shared_at numbers stands
  shared_at_lem i l =
      any-map (λ m. eqb m (get_or (numbers one) i 0)) entry_number (entries_of other)
      ∙ ap (λ (x : ℕ). any (numbered x) (entries_of other)) (get_or-map entry_number (entries_of one) i no_entry ∙ number-at one i l)

  number_lt : (i k : ℕ) → i < k → k < entry_count one → number_at 4 (entry_at one i) 0 < number_at 4 (entry_at one k) 0
  number_lt i k l m =
      let q : k < length (entries_of one) = rw (count-is one) m in
      rw (number-at one i (omega arith), number-at one k m) at (ascending_lt entry_number 0 (entries_of one) no_entry (made_of one h w).order i k l q)

  index_lt : (k i : ℕ) → k < entry_count one → i < entry_count one → number_at 4 (entry_at one k) 0 < number_at 4 (entry_at one i) 0 → k < i
  index_lt k i m l e = by (dec_lt k i) (dec_lt i k)
    where
      by : Dec (k < i) → Dec (i < k) → k < i
      by (yes q) o = q
      by (no q) (yes o) = absurd (omega (arith, number_lt i k o m))
      by (no q) (no o) = let f : k ≡ i = omega arith in absurd (irrefl (rw f at e))

  long : length (numbers one) ≡ entry_count one
  unfolding numbers
  long = length-map (entries_of one) entry_number ∙ count-is one

  -- an index of the one at which the test holds has a number that stands in both
  both_at : (i : ℕ) → i < entry_count one → shared_test_lem i ≡ true → InBoth one other (number_at 4 (entry_at one i) 0)
  both_at i l e = ((i, l, refl), has_it other g v (number_at 4 (entry_at one i) 0) (sym (shared_at_lem i l) ∙ e))

  at_both : (x : ℕ) (r : InBoth one other x) → shared_test_lem r.0.0 ≡ true
  at_both x r = shared_at_lem r.0.0 r.0.1 ∙ ap (λ (y : ℕ). any (numbered y) (entries_of other)) r.0.2 ∙ has other g v x r.1

  place_at : (i : ℕ) → i < entry_count one → get_or (numbers one) i 0 ≡ number_at 4 (entry_at one i) 0
  unfolding numbers
  place_at i l = get_or-map entry_number (entries_of one) i no_entry ∙ number-at one i l

  pub shared_decides : Decides (shared_test one other) (λ n p. (n ≡ 11) × InBoth one other p × ((x : ℕ) → x < p → InBoth one other x → ⊥))
  unfolding shared_test shared_test_lem numbers
  shared_decides n p =
      let exactly = refused-at-first shared_test_lem (length (numbers one)) (λ i. 11) (λ i. get_or (numbers one) i 0) n p in (
        λ e.
            let r = exactly.0 e in
            let i = r.0 in
            let l : i < entry_count one = omega (arith, r.1, long) in
            let f : p ≡ number_at 4 (entry_at one i) 0 = r.5 ∙ place_at i l in (
              r.4,
              subst (InBoth one other) (sym f) (both_at i l r.2),
              λ x m s. clash (at_both x s) (r.3 s.0.0 (index_lt s.0.0 i s.0.1 l (omega (arith, m, f, s.0.2)))),
            ),
        λ r.
            let k = r.1.0.0 in
            let l : k < entry_count one = r.1.0.1 in
            exactly.1 (
              k,
              omega (arith, l, long),
              at_both p r.1,
              λ j m.
                  let o : j < entry_count one = omega (arith, m, l) in
                  not_both (shared_test_lem j) (λ t. r.2 (number_at 4 (entry_at one j) 0) (rw r.1.0.2 at (number_lt j k m l)) (both_at j o t)),
              r.0,
              sym r.1.0.2 ∙ sym (place_at k l),
            ),
      )

  pub passed_shared : shared_test one other ≡ Passes → (x : ℕ) → InBoth one other x → ⊥
  unfolding shared_test shared_test_lem numbers
  passed_shared e x r = clash (at_both x r) ((passed-at-first shared_test_lem (length (numbers one)) 11 _).0 e r.0.0 (omega (arith, r.0.1, long)))

  -- the entries of both make a report
  pub entries-apart : ((x : ℕ) → InBoth one other x → ⊥) → Each (λ x. Each (λ z. entry_number x ≢ entry_number z) (entries_of other)) (entries_of one)
  entries-apart a =
      at_each (λ x. Each (λ z. entry_number x ≢ entry_number z) (entries_of other)) (entries_of one) no_entry
      (λ i l. at_each (λ z. entry_number (get_or (entries_of one) i no_entry) ≢ entry_number z) (entries_of other) no_entry
      (λ j m e.
      let p : i < entry_count one = rw (count-is one) at l in
      let q : j < entry_count other = rw (count-is other) at m in
      a (number_at 4 (entry_at one i) 0) ((i, p, refl), (j, q, sym (number-at other j q) ∙ sym e ∙ number-at one i p))))

-- entries of two lists that make reports, apart and not too many, make a report
pub both_make : {y z : ℕ} (xs zs : List Entry) → Reportable y xs → Reportable z zs → Each (λ x. Each (λ z. entry_number x ≢ entry_number z) zs) xs
    → length xs + length zs ≤ most_sources → Reportable y (in_order (xs ++ zs))
unfolding in_order
both_make xs zs v w a l =
    record {
      in_range = v.in_range;
      count = rw (length-sorted_by entry_number (xs ++ zs), length-append) l;
      order =
          sorted_ascending entry_number 0 (xs ++ zs)
          (each_append (λ e. 0 < entry_number e) xs zs (ascending_each entry_number 0 xs v.order) (ascending_each entry_number 0 zs w.order))
          (distinct_append entry_number xs zs (ascending_distinct entry_number 0 xs v.order) (ascending_distinct entry_number 0 zs w.order) a);
      each = sorted_by-each entry_number Entered (xs ++ zs) (each_append Entered xs zs v.each w.each);
    }

-- 12
pub count_decides : (one other : List ℕ) → Decides (count_test one other) (at 12 (entry_count one + entry_count other) (most_sources < entry_count one + entry_count other))
count_decides one other = let n = entry_count one + entry_count other in decide_above most_sources n 12 n

pub nowhere_at : {number place : ℕ} {C : Type 0} → Nowhere (at number place C) → C → ⊥
nowhere_at {number} {place} h c = h number place (refl, refl, c)
