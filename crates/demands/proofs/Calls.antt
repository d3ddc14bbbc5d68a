-- What demands 1 and 2 say of each call holds of the meaning's. Assumes nothing.
use Rattle.std.specs.Prelude.{Err, Ok}
use mathlib.Core.Bool.{true, not}
use mathlib.Core.List.{List, [], ◌∷◌, ◌++◌, map, map-map, Perm}
use mathlib.Core.Logic.{inl, inr, ◌≢◌}
use mathlib.Core.Path.{◌≡◌, refl, sym, ap, subst, ◌∙◌}
use Prim.Native.Nat.{ℕ, ◌*◌, ◌/◌, ◌≤◌, ◌<◌}
use native.Mathlib.Omega.{arith}
use lib.Dec.{eqb}
use lib.ListN.{length, get_or, drop, replicate, length-replicate}
use lib.Seq.{take-append_seam}
use borrow.Author.Tests.{eqb-true, not-false}
use Rattle.basis.specs.declared.Answer.{Answer}
use Rattle.basis.specs.Answers.{Verdict, Passes, first_refusal, Outcome, settled}
use Rattle.basis.specs.Bytes.{number_at, Bytes}
use Rattle.basis.specs.Lists.{any, without, count_up}
use Rattle.basis.proofs.Answers.{each-passes, passed_append, passed_if}
use Rattle.basis.proofs.Counting.{any_some, get_d_either}
use Rattle.meaning.specs.Report.{Entry, report_year, entries_of}
use Rattle.meaning.specs.Text.{text_line}
use Rattle.meaning.specs.Calls.{written, form_test, year_test, shared_test, count_test, absent_test, calculated, combined, removed, text, amounts, both_entries, numbered, calculation_tests, calculated_report, combination_tests, combined_report, removal_tests, removed_report}
use Rattle.meaning.specs.Programs.{front, said, text_output, report_room, output, amount_lines, amounts_output}
use Rattle.meaning.proofs.Laws.{entries_of_both}
use Rattle.meaning.proofs.Programs.{said-made, said-refused}
use Rattle.demands.specs.Fields.{sources_in, cards_in}
use Rattle.demands.specs.Valid.{entry_number, no_entry, Reportable}
use Rattle.demands.specs.Text.{Lines, IsText, printed, RefusalLine}
use Rattle.demands.specs.Exactly.{Row, at, FirstOf}
use Rattle.demands.specs.Refusals.{NoReport, room_row, source_rows, calculation_rows, combination_rows, removal_rows, text_rows, card_rows, amount_rows}
use Rattle.demands.specs.Demand2.{ReportOfBoth, ReportWithout, AmountsOf}
use Rattle.demands.specs.Calls.{Leaves, Calculates, Combines, Removes, SaysRegister, SaysReport, SaysAmounts, Calls}
use Rattle.demands.proofs.Order.{ascending_distinct}
use Rattle.demands.proofs.Exactly.{first_decides, first-number, writes}
use Rattle.demands.proofs.Holds.{is-report}
use Rattle.demands.proofs.ReportTests.{formed-report, passed_form, made_of, nowhere_at}
use Rattle.demands.proofs.ReportCalls.{both_reportable, both_length, combination_decides, numbered_9_12, without_make, rest-length, removal_decides, numbered_9_13, check}
use Rattle.demands.proofs.Removal.{without_perm}
use Rattle.demands.proofs.Calculated.{calculation_numbers, sources-passed, sources_decide, calculation_decides, calculation-numbered, accepting}
use Rattle.demands.proofs.Masses.{report_of_lem}
use Rattle.demands.proofs.Cards.{amounts-numbered, working, numbers_read}
use Rattle.demands.proofs.Texts.{text-written, lines-written, lines-once, printing, refusal-line}
use Rattle.demands.proofs.Longest.{longest}
use Rattle.demands.proofs.Names.{finds, finds_of_two}

pub calculation : (register : List ℕ) → Bytes register → (report : List ℕ) → Calculates register report (calculated register report)
unfolding calculated
calculation register h report =
    writes (calculation_tests register) calculation_numbers (calculation_rows register (length report)) (calculated_report register) report
    (calculation_decides register h report) (calculation-numbered register h report)
    (λ e. let r = sources-passed register h (passed_append (calculation_tests register) _ e).0 in report_of_lem register h r.0 r.1)

-- "all entries of both"
module _ (one other : List ℕ) (h : Bytes one) (g : Bytes other) where
  report_of_both : form_test one 1 ≡ Passes → form_test other 2 ≡ Passes → year_test one other ≡ Passes → shared_test one other ≡ Passes → count_test one other ≡ Passes
      → ReportOfBoth one other (combined_report one other)
  report_of_both p q y s c =
      let same = eqb-true (report_year one) (report_year other) (not-false _ (passed_if (not (eqb (report_year one) (report_year other))) 10 0 y)) in
      record {
        first = entries_of one;
        second = entries_of other;
        es = both_entries one other;
        of_first = formed-report one h (passed_form one 1 p);
        of_second = rw same (formed-report other g (passed_form other 2 q));
        all = entries_of_both one other;
        is_report = is-report (report_year one) (both_entries one other) (both_reportable one other h g p q s c).0;
        size = both_length one other h g p q s c;
      }

  pub combination : (report : List ℕ) → Combines one other report (combined one other report)
  unfolding combined
  combination report =
      writes (combination_tests one other) (8 ∷ 9 ∷ 10 ∷ 11 ∷ 12 ∷ []) (combination_rows one other (length report)) (combined_report one other) report
      (combination_decides one other h g report) (numbered_9_12 one other h g report)
      (λ e. let p = each-passes _ e in report_of_both p.0 p.1.0 p.1.1.0 p.1.1.1.0 p.1.1.1.1.0)

-- the entry that removal takes out
taken_out : (x : ℕ) (es : List Entry) {y : ℕ} → Reportable y es → any (numbered x) es ≡ true → (e : Entry) × (e.number ≡ x) × Perm (e ∷ without (numbered x) es) es
taken_out x es v h =
    let r = any_some (numbered x) no_entry es h in
    let e = get_or es r.0 no_entry in
    let n : e.number ≡ x = eqb-true e.number x r.2 in
    (e, n, ∣ rw n at (without_perm e es (ascending_distinct entry_number 0 es v.order) r.0 r.1 (get_d_either es r.0 e no_entry r.1)) ∣₁)

module _ (report : List ℕ) (number : ℕ) (h : Bytes report) where
  report-without : form_test report 1 ≡ Passes → absent_test report number ≡ Passes → ReportWithout report number (removed_report report number)
  report-without p a =
      let w = passed_form report 1 p in
      let v = made_of report h w in
      let t = taken_out number (entries_of report) v (not-false _ (passed_if (not (any (numbered number) (entries_of report))) 13 number a)) in
      record {
        whole = entries_of report;
        gone = t.0;
        es = without (numbered number) (entries_of report);
        of_report = formed-report report h w;
        numbered = t.1;
        all = t.2;
        is_report = is-report (report_year report) (without (numbered number) (entries_of report)) (without_make number (entries_of report) v);
        size = rest-length report number h p a;
      }

  removal : (result : List ℕ) → Removes report number result (removed report number result)
  unfolding removed
  removal result =
      writes (removal_tests report number) (8 ∷ 9 ∷ 13 ∷ []) (removal_rows report number (length result)) (removed_report report number) result
      (removal_decides report number h result) (numbered_9_13 report number h result)
      (λ e. let p = each-passes _ e in report-without p.0 p.1.0)

-- what an accepted call made stands at the front of what it left
front-made : {Made : List ℕ → Type 0} {buffer : List ℕ} {o : Outcome} (l : Leaves Made buffer o) → front o ≡ l.bytes
front-made {buffer = buffer} l = rw (l.answers, l.left) (take-append_seam l.bytes (drop (length l.bytes) buffer))

refused-line : (a : Answer) (made : List ℕ) (n p : ℕ) → n ≢ 0 → a ≡ record { number = n; place = p; length = 0 } → RefusalLine n p (said a made)
refused-line a made n p z e = rw e (rw (said-refused (record { number = n; place = p; length = 0 }) made z) (refusal-line n p))

short-text : (report t : List ℕ) → IsText report t → length t ≤ 38994
short-text report t (y, es, r, l) =
    rw (lines-once (printed y es) t _ l (text-written y es r.makes.each)) (longest y es r.makes)

show : (report room : List ℕ) → Bytes report → 38994 ≤ length room → SaysReport report (text_output report room)
unfolding text_output
show report room h l =
    let o = text report room in
    let p = printing report h room in
    record {
      refused = λ n.
          let e = (p.exactly.refused 9 1 (omega arith)).1 (inl (refl, refl, n)) in
          refused-line o.answer (front o) 9 1 (omega arith) e;
      shown = λ f.
          let z = p.exactly.accepted.1 (none f) in
          let m = p.leaves z in
          rw (said-made o.answer (front o) z ∙ front-made m) m.made;
    }
  where
    none : (NoReport report → ⊥) → (n p : ℕ) → FirstOf (text_rows report (length room)) n p → ⊥
    none f n p (inl r) = f r.2
    none f n p (inr (x, inl r)) = omega (arith, short-text report r.1.0 r.1.1, r.1.2, r.2)
    none f n p (inr (x, inr r)) = r.1

first_append : (rows more : List Row) (n p : ℕ) → FirstOf rows n p → FirstOf (rows ++ more) n p
first_append [] more n p r = absurd r
first_append (row ∷ rows) more n p (inl r) = inl r
first_append (row ∷ rows) more n p (inr r) = inr (r.0, first_append rows more n p r.1)

module _ (register : List ℕ) (h : Bytes register) where
  -- where no row of 1 to 7 refuses, the tests 1 to 7 pass
  rows-passed : ((n p : ℕ) → FirstOf (source_rows register) n p → ⊥) → first_refusal (calculation_tests register) ≡ Passes
  rows-passed f = by (first_refusal (calculation_tests register)) refl
    where
      by : (v : Verdict) → first_refusal (calculation_tests register) ≡ v → v ≡ Passes
      by (Ok done) e = refl
      by (Err refusal) e = absurd (f refusal.number refusal.place ((first_decides (calculation_tests register) (source_rows register) (sources_decide register h) refusal.number refusal.place).0 e))

  program : (room : List ℕ) → 38994 ≤ length room → SaysRegister register (output register room)
  unfolding output calculated written settled
  program room l =
      let report : List ℕ = replicate report_room 0 in
      let o = calculated register report in
      record {
        refused = λ n p r.
            let f = first_append (source_rows register) (room_row (sources_in register) (length report) ∷ []) n p r in
            let z = first-number calculation_numbers _ (calculation-numbered register h report) n p f in
            let e = ((calculation register h report).exactly.refused n p z).1 f in
            refused-line o.answer (text_output (front o) room) n p z e;
        shown = λ f.
            let s = sources-passed register h (rows-passed f) in
            let e = accepting register h report s.0 s.1 (omega (arith, s.0.laid.sources, length-replicate {A = ℕ} report_room 0)) in
            let z : o.answer.number ≡ 0 = ap (λ (v : Verdict). (settled v (calculated_report register) report).answer.number) e in
            let m = (calculation register h report).leaves z in
            let t = (show m.bytes room m.made.is_report.bytes l).shown (λ n. n _ _ m.made.is_report) in
            let said-text = said-made o.answer (text_output (front o) room) z ∙ ap (λ (b : List ℕ). text_output b room) (front-made m) in
            (m.bytes, m.made, subst (IsText m.bytes) (sym said-text) t);
      }

-- the decimals of amounts
amount-lines : (cards bytes : List ℕ) (x : AmountsOf cards bytes) → Lines (map (λ n. n ∷ []) x.amounts) (amount_lines bytes)
unfolding amount_lines
amount-lines cards bytes x =
    let line : ℕ → List ℕ = λ n. text_line (n ∷ []) in
    let many : length bytes / 8 ≡ cards_in cards = omega (arith, x.size) in
    let read = numbers_read cards bytes x (λ i. number_at 8 bytes (8 * i)) (λ i. refl) in
    let lines = map (λ n. n ∷ []) x.amounts in
    let same = map-map text_line (λ n. n ∷ []) x.amounts ∙ ap (map line) (sym read) ∙ map-map line (λ i. number_at 8 bytes (8 * i)) (count_up 0 (cards_in cards)) in
    rw (many, ← same) (lines-written lines)

say_amounts_lem : (cards room : List ℕ) → 8192 ≤ length room → SaysAmounts cards (amounts_output cards room)
unfolding amounts_output
say_amounts_lem cards room l =
    let o = amounts cards room in
    let w = working cards room in
    record {
      refused = λ n p r.
          let f = first_append (card_rows cards) (at 8 (8 * cards_in cards) (length room < 8 * cards_in cards) ∷ []) n p r in
          let z = first-number (8 ∷ 14 ∷ 15 ∷ []) (amount_rows cards (length room)) (amounts-numbered cards room) n p f in
          refused-line o.answer (amount_lines (front o)) n p z ((w.exactly.refused n p z).1 f);
      shown = λ f.
          let z = w.exactly.accepted.1 (none f) in
          let m = w.leaves z in
          (m.made.amounts, m.made.consumed, rw (said-made o.answer (amount_lines (front o)) z, front-made m) (amount-lines cards m.bytes m.made));
    }
  where
    none : ((n p : ℕ) → FirstOf (card_rows cards) n p → ⊥) → (n p : ℕ) → FirstOf (amount_rows cards (length room)) n p → ⊥
    none f n p (inl r) = f n p (inl r)
    none f n p (inr (x, inl r)) = f n p (inr (x, inl r))
    none f n p (inr (x, inr (y, inl r))) = f n p (inr (x, inr (y, inl r)))
    none f n p (inr (x, inr (y, inr (z, inl r)))) = nowhere_at x (inr (omega (arith, r.2, l)))
    none f n p (inr (x, inr (y, inr (z, inr r)))) = r.1

pub calls : Calls
calls =
    record {
      calculation = λ register report h. calculation register h report;
      combination = λ one other report h g. combination one other h g report;
      removal = λ report result number h. removal report number h result;
      check = check;
      printing = λ report buffer h. printing report h buffer;
      working = working;
      name = finds;
      name_of_two = finds_of_two;
      program = λ register room h l. program register h room l;
      show = show;
      say_amounts = say_amounts_lem;
    }
