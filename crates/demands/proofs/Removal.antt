-- The empty report changes nothing; what is removed and combined again comes back. Assumes nothing.
use mathlib.Core.Bool.{true, not}
use mathlib.Core.List.Permᴰ
use mathlib.Core.List.{List, [], ◌∷◌, ◌++◌, append-nil, Permᴰ}
use mathlib.Core.Logic.{◌≢◌}
use mathlib.Core.Path.{◌≡◌, refl, sym, ap, ap₂, subst, ◌∙◌}
use Prim.Native.Nat.{ℕ, zero, suc, ◌-◌, ◌≤◌, ◌<◌}
use native.Mathlib.Nat.{not-suc-le-zero, le_of_suc-le-suc}
use native.Mathlib.Omega.{arith}
use lib.ListN.{length, get_or}
use borrow.Author.Tests.{eq-eqb, ne_eqb}
use Rattle.basis.proofs.Lists.{◌&◌, each_at}
use Rattle.basis.specs.Lists.{Each, any, without}
use Rattle.meaning.specs.Report.{Entry, in_order, report_bytes, report_length, report_year, entry_count, entries_of, well_formed}
use Rattle.meaning.specs.Calls.{room_test, numbered, removed, removal_tests}
use Rattle.demands.specs.Valid.{Entered, Distinct, entry_number, Reportable}
use Rattle.demands.specs.Trees.{wrote, Accepted}
use Rattle.demands.specs.Demand3.{GoodReport, CombinesTo, Neutral, Again}
use Rattle.basis.proofs.Counting.{some-any}
use Rattle.basis.proofs.Answers.{passes-each, if_passed}
use Rattle.demands.proofs.Order.{ascending_each, ascending_distinct, ascending_sorted, distinct_perm, sorted_perm}
use Rattle.demands.proofs.Reports.{year-back, count-back, entries-back, report-right, length-report}
use Rattle.meaning.proofs.Reports.{formed}
use Rattle.demands.proofs.WellFormed.{reportable, report-again}
use Rattle.demands.proofs.ReportCalls.{without_make, without_absent, without-one}
use Rattle.demands.proofs.Compared.{enough_room}
use Rattle.demands.proofs.Combined.{accepted-written, apart, combined_writes}

pub good-made : (b : List ℕ) → GoodReport b → Reportable (report_year b) (entries_of b) × (report_bytes (report_year b) (entries_of b) ≡ b)
good-made b g = let f = formed b g.formed in (reportable b g.bytes f, report-again b g.bytes f)

-- entries in order, whatever they are combined from
in_order_lem : {y : ℕ} (xs es : List Entry) → Reportable y es → Permᴰ es xs → in_order xs ≡ es
unfolding in_order
in_order_lem xs es v d = sym (sorted_perm entry_number d (ascending_distinct entry_number 0 es v.order)) ∙ ascending_sorted entry_number 0 es v.order

pub empty_reportable : {y : ℕ} (es : List Entry) → Reportable y es → Reportable y []
empty_reportable es v = record { in_range = v.in_range; count = omega arith; order = tt; each = tt }

-- no entry is apart from none
each_none : {A : Type 0} (P : A → A → Type 0) (xs : List A) → Each (λ x. Each (P x) []) xs
each_none P [] = tt
each_none P (x ∷ xs) = (tt, each_none P xs)

pub neutral : Neutral
neutral b buffer g o =
    let r = good-made b g in
    let y = report_year b in
    let es = entries_of b in
    let z = empty_reportable es r.0 in
    let n : length b ≡ report_length (length es) = ap length (sym r.1) ∙ length-report y es r.0 in
    let few = r.0.count in
    let right = combined_writes y es [] r.0 z (each_none (λ x w. entry_number x ≢ entry_number w) es) (omega arith) buffer (omega arith) in
    let left = combined_writes y [] es z r.0 tt (omega arith) buffer (omega arith) in
    let e = in_order_lem (es ++ []) es r.0 (subst (Permᴰ es) (sym (append-nil es)) (Permᴰ.refl es)) in
    let f = in_order_lem es es r.0 (Permᴰ.refl es) in (
      subst (λ (x : List ℕ). CombinesTo x (report_bytes y []) buffer x) r.1 (right.0, right.1 ∙ ap (report_bytes y) e),
      subst (λ (x : List ℕ). CombinesTo (report_bytes y []) x buffer x) r.1 (left.0, left.1 ∙ ap (report_bytes y) f),
    )

-- the entries but one, with that one, are the entries
pub without_perm : (e : Entry) (es : List Entry) → Distinct entry_number es → (i : ℕ) → i < length es → get_or es i e ≡ e → Permᴰ (e ∷ without (numbered e.number) es) es
unfolding without
without_perm e [] d i l q = absurd (not-suc-le-zero l)
without_perm e (f ∷ fs) d zero l q =
    let n : f.number ≡ e.number = ap entry_number q in
    let a = without_absent e.number fs (subst (λ (x : ℕ). Each (λ g. x ≢ entry_number g) fs) n d.0) in
    rw (eq-eqb f.number e.number n, a) (Permᴰ.cons (sym q) (Permᴰ.refl fs))
without_perm e (f ∷ fs) d (suc i) l q =
    let m = each_at (λ g. f.number ≢ entry_number g) fs e d.0 i (le_of_suc-le-suc l) in
    rw (ne_eqb f.number e.number (λ n. m (n ∙ ap entry_number (sym q))))
    (Permᴰ.trans (Permᴰ.swap refl refl) (Permᴰ.cons refl (without_perm e fs d.1 i (le_of_suc-le-suc l) q)))

pub removed_writes : (y x : ℕ) (es : List Entry) → Reportable y es → any (numbered x) es ≡ true → (result : List ℕ) → report_length (length es - 1) ≤ length result
    → Accepted (removed (report_bytes y es) x result) × (wrote (removed (report_bytes y es) x result) ≡ report_bytes y (without (numbered x) es))
unfolding removed
removed_writes y x es v h result o =
    let b = report_bytes y es in
    let made = report_bytes (report_year b) (without (numbered x) (entries_of b)) in
    let is : made ≡ report_bytes y (without (numbered x) es) = ap₂ report_bytes (year-back y es v) (ap (without (numbered x)) (entries-back y es v)) in
    let one = without-one x es (ascending_distinct entry_number 0 es v.order) h in
    let long : length made ≡ report_length (length (without (numbered x) es)) = ap length is ∙ length-report y (without (numbered x) es) (without_make x es v) in
    let there : any (numbered x) (entries_of b) ≡ true = ap (any (numbered x)) (entries-back y es v) ∙ h in
    let r =
    accepted-written (removal_tests b x) made result
    (passes-each (removal_tests b x ++ (room_test made result ∷ []))
    (if_passed (not (well_formed b)) 9 1 (ap not (report-right y es v))
    & if_passed (not (any (numbered x) (entries_of b))) 13 x (ap not there)
    & enough_room made result (omega arith)
    & tt)) in
    (r.0, r.1 ∙ is)

-- on lists of entries: what is removed and combined again
module _ (y : ℕ) (es : List Entry) (v : Reportable y es) (e : Entry) (i : ℕ) (l : i < length es) (q : get_or es i e ≡ e) where
  entered : Entered e
  entered = subst Entered q (each_at Entered es e v.each i l)

  positive : 0 < e.number
  positive = subst (λ (f : Entry). 0 < f.number) q (each_at (λ f. 0 < entry_number f) es e (ascending_each entry_number 0 es v.order) i l)

  pub single : Reportable y (e ∷ [])
  single = record { in_range = v.in_range; count = omega arith; order = (positive, tt); each = (entered, tt) }

  present : any (numbered e.number) es ≡ true
  present = some-any (numbered e.number) e es i l (eq-eqb (get_or es i e).number e.number (ap entry_number q))

  others : List Entry
  others = without (numbered e.number) es

  taken_out : Permᴰ es (e ∷ others)
  unfolding others
  taken_out = Permᴰ.symm (without_perm e es (ascending_distinct entry_number 0 es v.order) i l q)

  distinct : Distinct entry_number (e ∷ others)
  distinct = distinct_perm entry_number taken_out (ascending_distinct entry_number 0 es v.order)

  behind : Permᴰ (e ∷ others) (others ++ (e ∷ []))
  behind = Permᴰ.append_comm (e ∷ []) others

  rest : Reportable y others
  unfolding others
  rest = without_make e.number es v

  pub again : (result buffer : List ℕ) → report_length (length es - 1) ≤ length result → report_length (length es) ≤ length buffer
      → Accepted (removed (report_bytes y es) e.number result)
      × CombinesTo (wrote (removed (report_bytes y es) e.number result)) (report_bytes y (e ∷ [])) buffer (report_bytes y es)
      × CombinesTo (report_bytes y (e ∷ [])) (wrote (removed (report_bytes y es) e.number result)) buffer (report_bytes y es)
  unfolding others
  again result buffer o p =
      let r = removed_writes y e.number es v present result o in
      let n = without-one e.number es (ascending_distinct entry_number 0 es v.order) present in
      let few = v.count in
      let left =
      combined_writes y others (e ∷ []) rest single (apart entry_number others (e ∷ []) (distinct_perm entry_number behind distinct)) (omega arith) buffer (omega arith) in
      let right = combined_writes y (e ∷ []) others single rest (apart entry_number (e ∷ []) others distinct) (omega arith) buffer (omega arith) in (
        r.0,
        subst (λ (x : List ℕ). CombinesTo x (report_bytes y (e ∷ [])) buffer (report_bytes y es)) (sym r.1)
            (left.0, left.1 ∙ ap (report_bytes y) (in_order_lem (others ++ (e ∷ [])) es v (Permᴰ.trans taken_out behind))),
        subst (λ (x : List ℕ). CombinesTo (report_bytes y (e ∷ [])) x buffer (report_bytes y es)) (sym r.1)
            (right.0, right.1 ∙ ap (report_bytes y) (in_order_lem (e ∷ others) es v taken_out)),
      )

pub again-report : Again
again-report b result buffer i e g l q o p =
    let r = good-made b g in
    let y = report_year b in
    let es = entries_of b in
    let n : length b ≡ report_length (length es) = ap length (sym r.1) ∙ length-report y es r.0 in
    let c : length es ≡ entry_count b = sym (count-back y es r.0) ∙ ap entry_count r.1 in
    let a = again y es r.0 e i (omega arith) q result buffer (omega arith) (omega arith) in
    subst
    (λ (x : List ℕ). Accepted (removed x e.number result)
    × CombinesTo (wrote (removed x e.number result)) (report_bytes y (e ∷ [])) buffer x
    × CombinesTo (report_bytes y (e ∷ [])) (wrote (removed x e.number result)) buffer x)
    r.1 a
