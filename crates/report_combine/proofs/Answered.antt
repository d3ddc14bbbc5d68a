-- Combination: what each test answers, and what is answered and left where a test refuses, where there is no room, and where the call accepts. Assumes nothing.
use mathlib.Core.Bool.{Bool, true, false, cond}
use mathlib.Core.List.{List}
use mathlib.Core.Path.{◌≡◌, refl, sym, ap, ◌∙◌}
use Prim.Native.Nat.{ℕ, ◌+◌, ◌≤◌}
use native.Mathlib.Omega.{arith}
use borrow.Author.Tests.{ltb-false}
use lib.Dec.{ltb}
use lib.ListN.{length}
use Rattle.basis.specs.declared.Refusal.{Refusal}
use Rattle.basis.specs.Answers.{Verdict, Passes, Refuses, refuse_if, first_refusal, answered, Gives}
use Rattle.basis.specs.Bytes.{Written}
use Rattle.basis.proofs.Answers.{each-passes, passed_append, passed_if, room-there}
use Rattle.meaning.specs.Register.{most_sources}
use Rattle.meaning.specs.Report.{report_length, report_year, entry_count}
use Rattle.meaning.specs.Calls.{shared_test, combination_tests, both_entries, combined_report, combined}
use Rattle.meaning.proofs.Calls.{refused-gives, short-gives, made-gives}
use Rattle.meaning.proofs.Lengths.{length-report}
use Rattle.report_read.specs.Readable.{Readable}
use Rattle.report_check.proofs.Form.{readable}
use Rattle.report_merge.specs.Merge.{shared_number, Combinable}
use Rattle.report_merge.proofs.Shared.{shared-at}
use Rattle.std.specs.Prelude.{Result, Ok, Err, IsErrAnd, Option, Some, None}
use Rattle.std.specs.Option.{is_some, unwrap_or}
use Rattle.std.proofs.lemmas.Option.{cond_some, none-some}
use Rattle.report_merge.proofs.Merged.{massed_both, length_both}
use Rattle.report_combine.specs.Tests.{form_tests, entry_tests}

-- 11
module _ (one other : List ℕ) where
  shared_refused : {n : ℕ} → shared_number one other ≡ Some n → shared_test one other ≡ Refuses 11 n
  unfolding shared_test
  shared_refused e = let s = cond_some _ _ _ (shared-at one other ∙ e) in rw (s.0, s.1)

  none_shared : shared_number one other ≡ None → shared_test one other ≡ Passes
  unfolding shared_test
  none_shared e = by _ _ (shared-at one other ∙ e)
    where
      by : (b : Bool) (n : ℕ) → cond b (Some n) None ≡ None → refuse_if b 11 n ≡ Passes
      by true n e = absurd (none-some _ (sym e))
      by false n e = refl

  shared_none : shared_test one other ≡ Passes → shared_number one other ≡ None
  unfolding shared_test
  shared_none e = let p = passed_if _ 11 _ e in sym (shared-at one other) ∙ rw p

-- 11 as it is told
module _ (one other : List ℕ) {shared : Option ℕ} (f : shared ≡ shared_number one other) where
  pub number_shared : {s : ℕ} → shared ≡ Some s → Refuses 11 s ≡ shared_test one other
  number_shared l = sym (shared_refused one other (sym f ∙ l))

  pub number-apart : shared ≡ None → Passes ≡ shared_test one other
  number-apart l = sym (none_shared one other (sym f ∙ l))

-- and as it is tested: whether there is one, and which
pub shared_told : (one other : List ℕ) {stands : Bool} {place : ℕ} (shared : Option ℕ) → shared ≡ shared_number one other → stands ≡ is_some shared
    → place ≡ unwrap_or shared 0 → refuse_if stands 11 place ≡ shared_test one other
shared_told one other None f s p = rw s (number-apart one other f refl)
shared_told one other (Some n) f s p = rw (s, p) (number_shared one other f refl)

pub both_readable : (one other : List ℕ) {v : Verdict} → v ≡ first_refusal (form_tests one other) → v ≡ Passes → Readable one × Readable other
unfolding form_tests
both_readable one other e f =
    let p = each-passes (form_tests one other) (sym e ∙ f) in
    (readable one 1 refl p.0, readable other 2 refl p.1.0)

-- a combination that passes its tests, and one that does not
module _ (one other buffer : List ℕ) where
  pub combination-refused : {v : Verdict} {refusal : Refusal} (w : Result ℕ Refusal) → v ≡ first_refusal (combination_tests one other) → v ≡ Err refusal
      → IsErrAnd w (λ r. r ≡ refusal) → Gives (combined one other buffer) (answered w) buffer
  unfolding combined
  combination-refused w e = refused-gives (combination_tests one other) (combined_report one other) buffer w (sym e)

  module _ (h : Combinable one other × (first_refusal (combination_tests one other) ≡ Passes)) {n m needed : ℕ}
      (e : n ≡ entry_count one) (f : m ≡ entry_count other) (g : needed ≡ report_length (n + m)) where
    length-combined : length (combined_report one other) ≡ needed
    length-combined = length-report (report_year one) (both_entries one other) (massed_both one other) ∙ rw (g, e, f) (ap report_length (length_both one other))

    pub combination-room : {v : Verdict} → v ≡ refuse_if (ltb (length buffer) needed) 8 needed → v ≡ Passes → report_length (entry_count one + entry_count other) ≤ length buffer
    combination-room r t = omega (arith, room-there (length buffer) needed r t, e, f, g)

    pub combination-short : {v : Verdict} {refusal : Refusal} (w : Result ℕ Refusal) → v ≡ refuse_if (ltb (length buffer) needed) 8 needed → v ≡ Err refusal
        → IsErrAnd w (λ r. r ≡ refusal) → Gives (combined one other buffer) (answered w) buffer
    unfolding combined
    combination-short = short-gives (combination_tests one other) (combined_report one other) buffer h.1 length-combined

    pub combination-made : {left : List ℕ} → Written buffer 0 (combined_report one other) left → Gives (combined one other buffer) (answered (Ok needed)) left
    unfolding combined
    combination-made = made-gives (combination_tests one other) (combined_report one other) buffer h.1 length-combined

pub combinable : (one other : List ℕ) {v : Verdict} → v ≡ first_refusal (combination_tests one other) → v ≡ Passes
    → Combinable one other × (first_refusal (combination_tests one other) ≡ Passes)
unfolding form_tests entry_tests
combinable one other e f =
    let p = each-passes (combination_tests one other) (sym e ∙ f) in
    let r = both_readable one other (sym (passed_append (form_tests one other) (entry_tests one other) (sym e ∙ f)).0) refl in
    let n = entry_count one + entry_count other in
    (record { first = r.0; second = r.1; apart = shared_none one other p.1.1.1.0; few = ltb-false most_sources n (passed_if (ltb most_sources n) 12 n p.1.1.1.1.0) }, sym e ∙ f)
