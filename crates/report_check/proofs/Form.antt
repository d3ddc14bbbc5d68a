-- The form of a report: its header by the fields that were read, and the whole by its header and its entries. Assumes nothing.
use Rattle.std.specs.Prelude.{Result, Ok, Err}
use Rattle.std.specs.Result.{result_and}
use mathlib.Core.Bool.{Bool, true, false, not, ◌&&◌}
use mathlib.Core.List.{List}
use mathlib.Core.Path.{◌≡◌, refl, sym, ap, ◌∙◌}
use Prim.Native.Nat.{ℕ, ◌≤◌, ◌<◌}
use native.Mathlib.Omega.{arith}
use borrow.Author.Tests.{ne_eqb, not-false}
use lib.Dec.{eqb, leb}
use lib.ListN.{length}
use Rattle.basis.specs.declared.Answer.{Answer}
use Rattle.basis.specs.declared.Refusal.{Refusal}
use Rattle.basis.specs.Answers.{Verdict, Passes, refuse_if, answer, answered}
use Rattle.basis.specs.Bytes.{starts_with}
use Rattle.basis.specs.Lists.{count_up, any}
use Rattle.basis.proofs.Answers.{passed_if}
use Rattle.meaning.specs.Register.{most_sources}
use Rattle.meaning.specs.Report.{figure_count, report_tag, entries_at, report_length, entry_count, header_right, wrong_entry, wrong_total, well_formed}
use Rattle.meaning.specs.Calls.{form_test, checked}
use Rattle.meaning.proofs.Reports.{headed, formed}
use Rattle.fields.specs.Fields.{Field}
use Rattle.report_read.specs.Readable.{Readable}
use Rattle.report_check.specs.Rules.{front_right}

-- what is accepted has a length, where a verdict has none
answered-and : (v : Verdict) (n : ℕ) → answered (result_and v (Ok n)) ≡ answer v n
answered-and (Ok done) n = refl
answered-and (Err refusal) n = refl

module _ (b : List ℕ) where
  pub front-judged : {n whole layout year : ℕ} {tagged : Bool} → (entries_at ≤ length b) × (n ≡ entry_count b) × (whole ≡ report_length n) → tagged ≡ starts_with report_tag b
      → Field 2 b 4 layout → Field 2 b 6 year
      → eqb (length b) whole && tagged && eqb layout 1 && (leb 1990 year && leb year 2100) && leb n 512 ≡ front_right b
  unfolding front_right
  front-judged p t l y = rw (p.2, p.1, t, l.is, y.is)

  pub header_judged : {n whole zeros offset size after : ℕ} {front : Bool} → front ≡ front_right b → Field 2 b 8 n → whole ≡ report_length n → Field 2 b 10 zeros
      → Field 4 b 12 offset → Field 4 b 16 size → Field 4 b 20 after
      → front && eqb zeros 0 && eqb offset 56 && eqb size whole && eqb after 0 ≡ header_right b
  unfolding front_right header_right
  header_judged f n w z o s a = rw (f, w, n.is, z.is, o.is, s.is, a.is)

  -- what is shorter than a header has none
  pub too_short : length b < entries_at → false ≡ well_formed b
  unfolding well_formed header_right
  too_short l = rw (ne_eqb (length b) (report_length (entry_count b)) (λ e. absurd (omega arith)))

  module _ {right : Bool} (e : right ≡ header_right b) where
    pub header_wrong : right ≡ false → false ≡ well_formed b
    unfolding well_formed
    header_wrong f = rw (← e, f)

    module _ (t : right ≡ true) {n : ℕ} (f : Field 2 b 8 n) where
      pub header_length : length b ≡ report_length n
      header_length = rw f.is (headed b (sym e ∙ t)).filled

      pub header_few : n ≤ most_sources
      header_few = rw f.is (headed b (sym e ∙ t)).few

      pub entries-judged : {r : Bool} → r ≡ not (any (wrong_entry b) (count_up 0 n)) && not (any (wrong_total b) (count_up 0 figure_count)) → r ≡ well_formed b
      unfolding well_formed
      entries-judged j = rw (← e, t, ← f.is) j

  -- a report that passes its test can be read
  pub readable : {v : Verdict} (which : ℕ) → v ≡ form_test b which → v ≡ Passes → Readable b
  readable which e t =
      let w : well_formed b ≡ true = not-false (well_formed b) (passed_if (not (well_formed b)) 9 which (sym e ∙ t)) in
      record { right = w; filled = (formed b w).header.filled; few = (formed b w).header.few }

  pub form_judged : {right : Bool} {v : Verdict} (which : ℕ) → right ≡ well_formed b → v ≡ refuse_if (not right) 9 which → v ≡ form_test b which
  form_judged which e f = rw e at f

  pub report-judged : {v : Verdict} {made : Result ℕ Refusal} {a : Answer} → v ≡ form_test b 1 → made ≡ result_and v (Ok (length b)) → a ≡ answered made → a ≡ checked b
  unfolding checked
  report-judged {v} e f g = g ∙ ap answered f ∙ answered-and v (length b) ∙ ap (λ (v : Verdict). answer v (length b)) e
