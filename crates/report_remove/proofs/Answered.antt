-- Removal: what is answered and left where a test refuses, where there is no room, and where the call accepts. Assumes nothing.
use mathlib.Core.List.{List}
use mathlib.Core.Path.{◌≡◌, refl, sym, ap, ◌∙◌}
use Prim.Native.Nat.{ℕ, ◌-◌, ◌≤◌, ◌<◌}
use native.Mathlib.Omega.{arith}
use lib.Dec.{ltb}
use lib.ListN.{length}
use Rattle.basis.specs.declared.Refusal.{Refusal}
use Rattle.basis.specs.Answers.{Verdict, Passes, refuse_if, first_refusal, answered, Gives}
use Rattle.basis.specs.Bytes.{Written}
use Rattle.basis.specs.First.{first}
use Rattle.meaning.specs.Report.{report_length, report_bytes, report_year, entry_count}
use Rattle.meaning.specs.Calls.{form_test, removal_tests, removed_report, removed}
use Rattle.meaning.proofs.Calls.{refused-gives, short-gives, made-gives}
use Rattle.meaning.proofs.Lengths.{length-report}
use Rattle.basis.proofs.Answers.{room-there}
use Rattle.report_read.specs.Readable.{Readable}
use Rattle.report_read.specs.Entries.{numbered_at, index_numbered}
use Rattle.report_read.proofs.Searching.{index-some, index-none}
use Rattle.std.specs.Prelude.{Result, Ok, Err, IsErrAnd, Option, Some, None, ok_or}
use Rattle.report_remove.specs.Others.{other_entries}
use Rattle.report_remove.proofs.Others.{length_others}
use Rattle.report_remove.proofs.Removed.{others_massed, absent, present, without_is}

-- the refusal that is handed up where no entry has the number
abbrev refusal_given : Refusal → Result ℕ Refusal → Refusal
refusal_given other (Ok n) = other
refusal_given other (Err refusal) = refusal

module _ (b : List ℕ) (x : ℕ) (buffer : List ℕ) where
  pub removal_malformed : {v : Verdict} {refusal : Refusal} (w : Result ℕ Refusal) → v ≡ form_test b 1 → v ≡ Err refusal → IsErrAnd w (λ r. r ≡ refusal)
      → Gives (removed b x buffer) (answered w) buffer
  unfolding removed first_refusal
  removal_malformed w e t = refused-gives (removal_tests b x) (removed_report b x) buffer w (rw (← e, t)) t

  module _ (r : Readable b) {found : Option ℕ} (f : found ≡ index_numbered b x) where
    pub removal_absent : {refusal : Refusal} (w : Result ℕ Refusal) → found ≡ None → Err refusal ≡ ok_or found (record { number = 13; place = x })
        → IsErrAnd w (λ r. r ≡ refusal) → Gives (removed b x buffer) (answered w) buffer
    unfolding removed first_refusal
    removal_absent (Ok made) h t a = elim a [ ]
    removal_absent (Err refused) h t a =
        let e : refused ≡ record { number = 13; place = x } = a ∙ ap (refusal_given refused) (t ∙ ap (λ (o : Option ℕ). ok_or o (record { number = 13; place = x })) h) in
        rw e (refused-gives (removal_tests b x) (removed_report b x) buffer (Err (record { number = 13; place = x })) (rw (r.right, absent b r x _ refl (index-none b x (sym f ∙ h)))) refl refl)

    module _ {i : ℕ} (h : found ≡ Some i) where
      first-is : i ≡ first (numbered_at b x) (entry_count b)
      first-is = (index-some b x (sym f ∙ h)).0

      pub stands-there : i < entry_count b
      stands-there = (index-some b x (sym f ∙ h)).1

    module _ {n i : ℕ} (e : n ≡ entry_count b) (h : found ≡ Some i) {needed : ℕ} (g : needed ≡ report_length (n - 1)) where
      tests_pass : first_refusal (removal_tests b x) ≡ Passes
      unfolding first_refusal
      tests_pass = rw (r.right, present b r x i (first-is h) (stands-there h))

      report-is : removed_report b x ≡ report_bytes (report_year b) (other_entries b i)
      report-is = ap (report_bytes (report_year b)) (without_is b r x i (first-is h) (stands-there h))

      length_removed : length (removed_report b x) ≡ needed
      length_removed = rw report-is (length-report (report_year b) (other_entries b i) (others_massed b i) ∙ rw (g, e) (ap report_length (length_others b i (stands-there h))))

      pub removal-room : {v : Verdict} → v ≡ refuse_if (ltb (length buffer) needed) 8 needed → v ≡ Passes → report_length (entry_count b - 1) ≤ length buffer
      removal-room s t = omega (arith, room-there (length buffer) needed s t, e, g)

      pub removal-short : {v : Verdict} {refusal : Refusal} (w : Result ℕ Refusal) → v ≡ refuse_if (ltb (length buffer) needed) 8 needed → v ≡ Err refusal
          → IsErrAnd w (λ r. r ≡ refusal) → Gives (removed b x buffer) (answered w) buffer
      unfolding removed
      removal-short = short-gives (removal_tests b x) (removed_report b x) buffer tests_pass length_removed

      pub removal-made : {left : List ℕ} → Written buffer 0 (report_bytes (report_year b) (other_entries b i)) left → Gives (removed b x buffer) (answered (Ok needed)) left
      unfolding removed
      removal-made w = made-gives (removal_tests b x) (removed_report b x) buffer tests_pass length_removed (rw report-is w)
