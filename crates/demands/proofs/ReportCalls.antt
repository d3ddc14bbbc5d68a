-- The tests of combination and of removal decide the table's rows; the report check. Assumes nothing.
use mathlib.Core.Bool.{Bool, true, false, cond, ◌||◌, not}
use mathlib.Core.List.{List, [], ◌∷◌, ◌++◌}
use mathlib.Core.Logic.{inl, inr, ⊎_elim, ◌≢◌}
use mathlib.Core.Path.{◌≡◌, refl, sym, ap, ◌∙◌}
use Prim.Native.Nat.{ℕ, suc, ◌+◌, ◌-◌, ◌≤◌}
use native.Mathlib.Nat.{le_trans}
use native.Mathlib.Omega.{arith}
use lib.ListN.{length, length-append}
use borrow.Author.Tests.{eqb-true, ne_eqb, not-true, not-false}
use Rattle.basis.specs.Answers.{Verdict, Passes, refuse_if, first_refusal, answer}
use Rattle.basis.specs.Bytes.{Bytes}
use Rattle.basis.specs.Lists.{Each, any, without}
use Rattle.basis.proofs.Lists.{◌&◌, each_map, without-none}
use Rattle.basis.proofs.Bools.{clash, not_both}
use Rattle.meaning.specs.Register.{most_sources}
use Rattle.meaning.specs.Report.{Entry, report_length, report_year, entry_count, entries_of, well_formed}
use Rattle.meaning.specs.Calls.{form_test, shared_test, count_test, room_test, both_entries, numbered, absent_test, combined, checked, combination_tests, combined_report, removal_tests, removed_report}
use Rattle.meaning.proofs.Laws.{length-in_order}
use Rattle.demands.specs.Valid.{Entered, Ascending, Distinct, entry_number, Reportable}
use Rattle.demands.specs.Exactly.{Row, at, FirstOf}
use Rattle.demands.specs.Refusals.{NoReport, combination_rows, removal_rows, check_rows}
use Rattle.demands.specs.Calls.{Checks}
use Rattle.demands.proofs.Order.{ascending_distinct}
use Rattle.demands.proofs.Compared.{room_decides}
use Rattle.demands.proofs.Exactly.{◌then◌, Decides, DecideAll, passes_nowhere, exactly, zero-passes, answers-verdict, Numbered}
use Rattle.demands.proofs.Reports.{length-report}
use Rattle.meaning.proofs.Reports.{count-is}
use Rattle.demands.proofs.ReportTests.{form_decides, passed_form, year_decides, made_of, has, absent_decides, shared_decides, passed_shared, entries-apart, both_make, count_decides, nowhere_at}

module _ (one other : List ℕ) (h : Bytes one) (g : Bytes other) where
  pub both_reportable : form_test one 1 ≡ Passes → form_test other 2 ≡ Passes → shared_test one other ≡ Passes → count_test one other ≡ Passes
      → Reportable (report_year one) (both_entries one other) × (length (both_entries one other) ≡ entry_count one + entry_count other)
  unfolding both_entries
  both_reportable p q s c =
      let w = passed_form one 1 p in
      let v = passed_form other 2 q in
      let few = nowhere_at (passes_nowhere (count_test one other) _ (count_decides one other) c) in
      let n : length (entries_of one) + length (entries_of other) ≡ entry_count one + entry_count other = rw (count-is one, count-is other) in
      let m : length (entries_of one) + length (entries_of other) ≤ most_sources = omega arith in (
        both_make (entries_of one) (entries_of other) (made_of one h w) (made_of other g v) (entries-apart one other h g w v (passed_shared one other h g w v s)) m,
        length-in_order (entries_of one ++ entries_of other) ∙ length-append (entries_of one) (entries_of other) ∙ n,
      )

  pub both_length : form_test one 1 ≡ Passes → form_test other 2 ≡ Passes → shared_test one other ≡ Passes → count_test one other ≡ Passes
      → length (combined_report one other) ≡ report_length (entry_count one + entry_count other)
  both_length p q s c =
      let r = both_reportable p q s c in
      length-report (report_year one) (both_entries one other) r.0 ∙ ap report_length r.1

  pub combination_decides : (report : List ℕ)
      → DecideAll
      (combination_tests one other ++ (room_test (combined_report one other) report ∷ []))
      (combination_rows one other (length report))
  combination_decides report =
      form_decides one 1 h
      & (λ p. form_decides other 2 g
      & (λ q. year_decides one other
      then shared_decides one other h g (passed_form one 1 p) (passed_form other 2 q)
      & (λ s. count_decides one other
      & (λ c. room_decides (combined_report one other) report (report_length (entry_count one + entry_count other)) (both_length p q s c) then tt))))

  pub numbered_9_12 : (report : List ℕ) → Numbered (8 ∷ 9 ∷ 10 ∷ 11 ∷ 12 ∷ []) (combination_rows one other (length report))
  numbered_9_12 report =
      record {
        positive = omega arith;
        among =
            (λ n p r. inr (inl r.0))
            & (λ n p r. inr (inl r.0))
            & (λ n p r. inr (inr (inl r.0)))
            & (λ n p r. inr (inr (inr (inl r.0))))
            & (λ n p r. inr (inr (inr (inr (inl r.0)))))
            & (λ n p r. inl r.0)
            & tt;
      }

  pub combination-passed : (report : List ℕ) → (combined one other report).answer.number ≡ 0
      → first_refusal (combination_tests one other ++ (room_test (combined_report one other) report ∷ [])) ≡ Passes
  unfolding combined
  combination-passed report e =
      zero-passes (combination_tests one other) (8 ∷ 9 ∷ 10 ∷ 11 ∷ 12 ∷ [])
      (combination_rows one other (length report)) (combined_report one other) report (combination_decides report) (numbered_9_12 report) e

-- Removal
pub without-each : (P : Entry → Type 0) (x : ℕ) (es : List Entry) → Each P es → Each P (without (numbered x) es)
unfolding without
without-each P x [] p = tt
without-each P x (e ∷ es) p = by (numbered x e) (without-each P x es p.1)
  where
    by : (b : Bool) → Each P (without (numbered x) es) → Each P (cond b (without (numbered x) es) (e ∷ without (numbered x) es))
    by true r = r
    by false r = (p.0, r)

ascending_above : (m n : ℕ) (es : List Entry) → m ≤ n → Ascending entry_number n es → Ascending entry_number m es
ascending_above m n [] l a = tt
ascending_above m n (e ∷ es) l a = (omega (arith, a.0), a.1)

pub without_ascending : (n x : ℕ) (es : List Entry) → Ascending entry_number n es → Ascending entry_number n (without (numbered x) es)
unfolding without
without_ascending n x [] a = tt
without_ascending n x (e ∷ es) a = by (numbered x e) (without_ascending (entry_number e) x es a.1)
  where
    by : (b : Bool) → Ascending entry_number (entry_number e) (without (numbered x) es)
        → Ascending entry_number n (cond b (without (numbered x) es) (e ∷ without (numbered x) es))
    by true r = ascending_above n (entry_number e) (without (numbered x) es) (omega (arith, a.0)) r
    by false r = (a.0, r)

without_≤ : (x : ℕ) (es : List Entry) → length (without (numbered x) es) ≤ length es
unfolding without
without_≤ x [] = omega arith
without_≤ x (e ∷ es) = by (numbered x e) (without_≤ x es)
  where
    by : (b : Bool) → length (without (numbered x) es) ≤ length es → length (cond b (without (numbered x) es) (e ∷ without (numbered x) es)) ≤ suc (length es)
    by true l = omega arith
    by false l = omega arith

pub without_absent : (x : ℕ) (es : List Entry) → Each (λ e. x ≢ entry_number e) es → without (numbered x) es ≡ es
without_absent x es p = without-none (numbered x) es (each_map (λ e q. ne_eqb (entry_number e) x (λ r. q (sym r))) es p)

pub without-one : (x : ℕ) (es : List Entry) → Distinct entry_number es → any (numbered x) es ≡ true → suc (length (without (numbered x) es)) ≡ length es
unfolding without any
without-one x [] d h = absurd (clash h refl)
without-one x (e ∷ es) d h = by (numbered x e) refl h (without-one x es d.1)
  where
    by : (b : Bool) → numbered x e ≡ b → b || any (numbered x) es ≡ true → (any (numbered x) es ≡ true → suc (length (without (numbered x) es)) ≡ length es)
        → suc (length (cond b (without (numbered x) es) (e ∷ without (numbered x) es))) ≡ suc (length es)
    by true q r later =
        let f : entry_number e ≡ x = eqb-true (entry_number e) x q in
        ap (λ (l : List Entry). suc (length l)) (without_absent x es (rw f at d.0))
    by false q r later = ap suc (later r)

-- the entries but one make a report
pub without_make : {y : ℕ} (x : ℕ) (es : List Entry) → Reportable y es → Reportable y (without (numbered x) es)
without_make x es v =
    record {
      in_range = v.in_range;
      count = le_trans (without_≤ x es) v.count;
      order = without_ascending 0 x es v.order;
      each = without-each Entered x es v.each;
    }

module _ (report : List ℕ) (number : ℕ) (h : Bytes report) where
  pub rest-length : form_test report 1 ≡ Passes → absent_test report number ≡ Passes
      → length (removed_report report number) ≡ report_length (entry_count report - 1)
  rest-length p a =
      let w = passed_form report 1 p in
      let v = made_of report h w in
      let present : any (numbered number) (entries_of report) ≡ true =
      not-false _ (not_both (not (any (numbered number) (entries_of report)))
      (λ e. nowhere_at (passes_nowhere (absent_test report number) _ (absent_decides report number h w) a) (λ r. clash (has report h w number r) (not-true _ e)))) in
      let one = without-one number (entries_of report) (ascending_distinct entry_number 0 (entries_of report) v.order) present in
      length-report (report_year report) (without (numbered number) (entries_of report)) (without_make number (entries_of report) v)
      ∙ ap report_length (omega (arith, one, count-is report))

  pub removal_decides : (result : List ℕ) → DecideAll (removal_tests report number ++ (room_test (removed_report report number) result ∷ [])) (removal_rows report number (length result))
  removal_decides result =
      form_decides report 1 h
      & (λ p. absent_decides report number h (passed_form report 1 p)
      & (λ a. room_decides (removed_report report number) result (report_length (entry_count report - 1)) (rest-length p a) then tt))

  pub numbered_9_13 : (result : List ℕ) → Numbered (8 ∷ 9 ∷ 13 ∷ []) (removal_rows report number (length result))
  numbered_9_13 result =
      record { positive = omega arith; among = (λ n p r. inr (inl r.0)) & (λ n p r. inr (inr (inl r.0))) & (λ n p r. inl r.0) & tt }

first_decides_one : (v : Verdict) (row : Row) → Decides v row → Decides v (FirstOf (row ∷ []))
first_decides_one v row d n p = (λ e. inl ((d n p).0 e), λ r. ⊎_elim (λ q. (d n p).1 q) (λ q. absurd q.1) r)

module _ (report : List ℕ) (h : Bytes report) where
  numbered_9 : Numbered (9 ∷ []) (check_rows report)
  numbered_9 = record { positive = omega arith; among = (λ n p r. inl r.0, tt) }

  check_decides : Decides (form_test report 1) (FirstOf (check_rows report))
  check_decides = first_decides_one (form_test report 1) (at 9 1 (NoReport report)) (form_decides report 1 h)

  pub check : Checks report (checked report)
  unfolding checked
  check =
      record {
        from_table = answers-verdict (form_test report 1) (9 ∷ []) (check_rows report) (length report) check_decides numbered_9;
        exactly = exactly (form_test report 1) (9 ∷ []) (check_rows report) (length report) check_decides numbered_9;
        judged = judged (not (well_formed report));
      }
    where
      judged : (wrong : Bool) → (answer (refuse_if wrong 9 1) (length report)).number ≡ 0 → (answer (refuse_if wrong 9 1) (length report)).length ≡ length report
      judged false e = refl
      judged true e = absurd (omega arith)
