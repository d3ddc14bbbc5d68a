-- Combination commutes, and associates where both groupings are accepted. Assumes nothing.
use Rattle.std.specs.Prelude.{Err, Ok}
use mathlib.Core.Bool.{not}
use mathlib.Core.List.Permᴰ
use mathlib.Core.List.{List, [], ◌∷◌, ◌++◌, append_assoc, Permᴰ}
use mathlib.Core.Logic.{inl, inr, ⊎_elim}
use mathlib.Core.Path.{◌≡◌, refl, sym, ap, ap₂, subst, ◌∙◌}
use Prim.Native.Nat.{ℕ}
use native.Mathlib.Nat.{add_comm}
use lib.Dec.{eqb}
use lib.ListN.{length}
use borrow.Author.Tests.{eqb-true, not-false}
use Rattle.basis.specs.Answers.{Verdict, Passes, first_refusal, settled}
use Rattle.basis.specs.Bytes.{Bytes}
use Rattle.basis.proofs.Answers.{never, each-passes, passed_if}
use Rattle.basis.proofs.Lists.{◌&◌, sorted_by_perm}
use Rattle.meaning.specs.Report.{Entry, in_order, report_bytes, report_year, entry_count, entries_of}
use Rattle.meaning.specs.Calls.{written, room_test, both_entries, combined, combination_tests, combined_report}
use Rattle.demands.specs.Valid.{entry_number, Reportable}
use Rattle.demands.specs.Exactly.{Row, FirstOf}
use Rattle.demands.specs.Refusals.{NoReport, combination_rows}
use Rattle.demands.specs.Trees.{wrote, Accepted}
use Rattle.demands.specs.Demand3.{GoodReport}
use Rattle.demands.specs.Algebra.{Algebra}
use Rattle.demands.proofs.Order.{ascending_once}
use Rattle.demands.proofs.Exactly.{Decides, first_decides}
use Rattle.demands.proofs.Reports.{year-back, entries-back, report-bytes}
use Rattle.demands.proofs.ReportCalls.{combination_decides, combination-passed, both_reportable}
use Rattle.demands.proofs.Combined.{accepted-written}
use Rattle.demands.proofs.ReportTests.{formed-report}

-- rows that say the same refuse alike
abbrev Agree : List Row → List Row → Type 0
Agree [] [] = Unit {0}
Agree [] (row ∷ rows) = ⊥
Agree (row ∷ rows) [] = ⊥
Agree (row ∷ rows) (row' ∷ rows') = ((n p : ℕ) → (row n p → row' n p) × (row' n p → row n p)) × Agree rows rows'

agree_first : (rows rows' : List Row) → Agree rows rows' → (n p : ℕ) → (FirstOf rows n p → FirstOf rows' n p) × (FirstOf rows' n p → FirstOf rows n p)
agree_first [] [] a n p = (λ r. r, λ r. r)
agree_first [] (row ∷ rows) a n p = absurd a
agree_first (row ∷ rows) [] a n p = absurd a
agree_first (row ∷ rows) (row' ∷ rows') a n p =
    let later = agree_first rows rows' a.1 n p in (
      ⊎_elim (λ r. inl ((a.0 n p).0 r)) (λ r. inr ((λ m q h. r.0 m q ((a.0 m q).1 h)), later.0 r.1)),
      ⊎_elim (λ r. inl ((a.0 n p).1 r)) (λ r. inr ((λ m q h. r.0 m q ((a.0 m q).0 h)), later.1 r.1)),
    )

same-verdict : (v w : Verdict) (rows rows' : List Row) → Decides v (FirstOf rows) → Decides w (FirstOf rows') → Agree rows rows' → v ≡ w
same-verdict (Ok done) (Ok done_too) rows rows' d e a = refl
same-verdict (Ok done) (Err refusal) rows rows' d e a = absurd (never ((d refusal.number refusal.place).1 ((agree_first rows rows' a refusal.number refusal.place).1 ((e refusal.number refusal.place).0 refl))))
same-verdict (Err refusal) w rows rows' d e a = sym ((e refusal.number refusal.place).1 ((agree_first rows rows' a refusal.number refusal.place).0 ((d refusal.number refusal.place).0 refl)))

no_such : (b : List ℕ) → GoodReport b → NoReport b → ⊥
no_such b g f = f (report_year b) (entries_of b) (formed-report b g.bytes g.formed)

module _ (one other : List ℕ) (g : GoodReport one) (h : GoodReport other) (buffer : List ℕ) where
  agree : Agree (combination_rows one other (length buffer)) (combination_rows other one (length buffer))
  agree =
      (λ n p. (λ r. absurd (no_such one g r.2), λ r. absurd (no_such other h r.2)))
      & (λ n p. (λ r. absurd (no_such other h r.2), λ r. absurd (no_such one g r.2)))
      & (λ n p. (λ r. (r.0, r.1, λ e. r.2 (sym e)), λ r. (r.0, r.1, λ e. r.2 (sym e))))
      & (λ n p. (λ r. (r.0, (r.1.1, r.1.0), λ x l q. r.2 x l (q.1, q.0)), λ r. (r.0, (r.1.1, r.1.0), λ x l q. r.2 x l (q.1, q.0))))
      & (λ n p. rw (add_comm (entry_count one) (entry_count other)) (λ r. r, λ r. r))
      & (λ n p. rw (add_comm (entry_count one) (entry_count other)) (λ r. r, λ r. r))
      & tt

both_dealt : (one other : List ℕ) → Permᴰ (both_entries one other) (entries_of one ++ entries_of other)
unfolding both_entries in_order
both_dealt one other = sorted_by_perm entry_number (entries_of one ++ entries_of other)

abbrev combining : List ℕ → List ℕ → List ℕ → List Verdict
combining one other buffer = combination_tests one other ++ (room_test (combined_report one other) buffer ∷ [])

-- what an accepted combination is made of
pub record Together (one other : List ℕ) : Type 0 where
  pub makes : Reportable (report_year one) (both_entries one other)
  pub same_year : report_year one ≡ report_year other

together : (one other buffer : List ℕ) → Bytes one → Bytes other → first_refusal (combining one other buffer) ≡ Passes → Together one other
together one other buffer h g e =
    let p = each-passes (combining one other buffer) e in
    let same = eqb (report_year one) (report_year other) in
    record {
      makes = (both_reportable one other h g p.0 p.1.0 p.1.1.1.0 p.1.1.1.1.0).0;
      same_year = eqb-true (report_year one) (report_year other) (not-false same (passed_if (not same) 10 0 p.1.1.0));
    }

-- two calls of one verdict that make the same where they accept are one
same-settled : (v w : Verdict) (made made' buffer : List ℕ) → v ≡ w → (v ≡ Passes → made ≡ made') → settled v made buffer ≡ settled w made' buffer
unfolding settled
same-settled (Ok done) w made made' buffer e m = ap₂ (λ (x : Verdict) (bs : List ℕ). settled x bs buffer) e (m refl)
same-settled (Err refusal) w made made' buffer e m = ap (λ (x : Verdict). settled x made' buffer) e

commutes : (one other buffer : List ℕ) → GoodReport one → GoodReport other → combined one other buffer ≡ combined other one buffer
unfolding combined written
commutes one other buffer g h =
    let v = first_refusal (combining one other buffer) in
    let w = first_refusal (combining other one buffer) in
    let rows = combination_rows one other (length buffer) in
    let rows' = combination_rows other one (length buffer) in
    let e : v ≡ w =
    same-verdict v w rows rows'
    (first_decides (combining one other buffer) rows (combination_decides one other g.bytes h.bytes buffer))
    (first_decides (combining other one buffer) rows' (combination_decides other one h.bytes g.bytes buffer))
    (agree one other g h buffer) in
    same-settled v w (combined_report one other) (combined_report other one) buffer e
    (λ p.
    let t = together one other buffer g.bytes h.bytes p in
    let u = together other one buffer h.bytes g.bytes (sym e ∙ p) in
    let d =
    Permᴰ.trans (both_dealt one other)
    (Permᴰ.trans (Permᴰ.append_comm (entries_of one) (entries_of other)) (Permᴰ.symm (both_dealt other one))) in
    ap₂ report_bytes t.same_year (ascending_once entry_number 0 0 (both_entries one other) (both_entries other one) t.makes.order u.makes.order d))

-- what an accepted combination writes, and reads as
module _ (one other buffer : List ℕ) (h : Bytes one) (g : Bytes other) (a : Accepted (combined one other buffer)) where
  goes : Together one other
  goes = together one other buffer h g (combination-passed one other h g buffer a)

  wrote-is : wrote (combined one other buffer) ≡ report_bytes (report_year one) (both_entries one other)
  unfolding combined
  wrote-is =
      (accepted-written (combination_tests one other) (combined_report one other) buffer
      (combination-passed one other h g buffer a)).1

  wrote-bytes : Bytes (wrote (combined one other buffer))
  wrote-bytes = subst Bytes (sym wrote-is) (report-bytes (report_year one) (both_entries one other) goes.makes)

  wrote-entries : entries_of (wrote (combined one other buffer)) ≡ both_entries one other
  wrote-entries = ap entries_of wrote-is ∙ entries-back (report_year one) (both_entries one other) goes.makes

  wrote-year : report_year (wrote (combined one other buffer)) ≡ report_year one
  wrote-year = ap report_year wrote-is ∙ year-back (report_year one) (both_entries one other) goes.makes

pub algebra : Algebra
algebra =
    record {
      commutes = commutes;
      associates = λ a b c p q r s ha hb hc ab abc bc a-bc.
          let l = wrote (combined a b p) in
          let m = wrote (combined b c r) in
          let hl = wrote-bytes a b p ha hb ab in
          let hm = wrote-bytes b c r hb hc bc in
          let left : Permᴰ (both_entries l c) (entries_of a ++ (entries_of b ++ entries_of c)) =
          Permᴰ.trans (both_dealt l c)
          (subst (λ (es : List Entry). Permᴰ (es ++ entries_of c) (entries_of a ++ (entries_of b ++ entries_of c))) (sym (wrote-entries a b p ha hb ab))
          (subst (Permᴰ (both_entries a b ++ entries_of c)) (append_assoc (entries_of a) (entries_of b) (entries_of c)) (Permᴰ.append_right (entries_of c) (both_dealt a b)))) in
          let right : Permᴰ (both_entries a m) (entries_of a ++ (entries_of b ++ entries_of c)) =
          Permᴰ.trans (both_dealt a m)
          (subst (λ (es : List Entry). Permᴰ (entries_of a ++ es) (entries_of a ++ (entries_of b ++ entries_of c))) (sym (wrote-entries b c r hb hc bc))
          (Permᴰ.append_left (entries_of a) (both_dealt b c))) in
          wrote-is l c q hl hc abc
          ∙ ap₂ report_bytes (wrote-year a b p ha hb ab)
          (ascending_once entry_number 0 0 (both_entries l c) (both_entries a m) (goes l c q hl hc abc).makes.order (goes a m s ha hm a-bc).makes.order (Permᴰ.trans left (Permᴰ.symm right)))
          ∙ sym (wrote-is a m s ha hm a-bc);
    }
