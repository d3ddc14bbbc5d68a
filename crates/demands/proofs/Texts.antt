-- The text of a report is the one that document 01 prints. Assumes nothing.
use mathlib.Core.List.{List, [], ◌∷◌, ◌++◌, map}
use mathlib.Core.Logic.{inl, inr}
use mathlib.Core.Path.{◌≡◌, refl, sym, ap, ap₂, subst, ◌∙◌}
use Prim.Native.Nat.{ℕ, ◌<◌}
use native.Mathlib.Omega.{arith}
use lib.ListN.{length}
use Rattle.basis.specs.declared.Answer.{Answer}
use Rattle.basis.specs.Answers.{Passes}
use Rattle.basis.specs.Bytes.{Bytes}
use Rattle.basis.specs.Lists.{Each, sum, count_up, joined}
use Rattle.basis.proofs.Answers.{each-passes}
use Rattle.basis.proofs.Lists.{◌&◌}
use Rattle.meaning.specs.Report.{Entry, figures, figure, totals, report_year, entries_of}
use Rattle.meaning.specs.Text.{decimal, text_line, report_text, refused_line, accepted_line}
use Rattle.meaning.specs.Calls.{room_test, form_test, text}
use Rattle.meaning.specs.Programs.{answer_line}
use Rattle.meaning.proofs.Programs.{said-made, said-refused}
use Rattle.demands.specs.Table.{CO2, CH4, N2O}
use Rattle.demands.specs.Valid.{mass_of, equivalent_of, Entered}
use Rattle.demands.specs.Text.{Line, Lines, printed, IsText, RefusalLine, AcceptedLine, SaysAnswer, Texts}
use Rattle.demands.specs.Refusals.{TextLength, text_rows}
use Rattle.demands.specs.Calls.{Prints}
use Rattle.demands.proofs.Figures.{three_masses, equivalent-is}
use Rattle.demands.proofs.Decimals.{decimal-written, decimal-only}
use Rattle.demands.proofs.Compared.{room_decides}
use Rattle.demands.proofs.Holds.{figure-mass, figure-last, sum_same, entries-held}
use Rattle.demands.proofs.Exactly.{Decides, DecideAll, Numbered, writes}
use Rattle.demands.proofs.ReportTests.{form_decides, formed-report, passed_form, made_of}

line-written : (ns : List ℕ) → Line ns (text_line ns)
unfolding text_line
line-written [] = refl
line-written (n ∷ []) = (decimal n, decimal-written n, refl)
line-written (n ∷ m ∷ ns) = (decimal n, text_line (m ∷ ns), decimal-written n, line-written (m ∷ ns), refl)

line-only : (ns t : List ℕ) → Line ns t → t ≡ text_line ns
unfolding text_line
line-only [] t e = e
line-only (n ∷ []) t w = w.2 ∙ ap (λ (ds : List ℕ). ds ++ (10 ∷ [])) (decimal-only n w.0 w.1)
line-only (n ∷ m ∷ ns) t w =
    w.4 ∙ ap₂ (λ (ds rest : List ℕ). ds ++ (32 ∷ rest)) (decimal-only n w.0 w.2) (line-only (m ∷ ns) w.1 w.3)

pub lines-written : (lines : List (List ℕ)) → Lines lines (joined (map text_line lines))
unfolding joined
lines-written [] = refl
lines-written (ns ∷ lines) = (text_line ns, joined (map text_line lines), line-written ns, lines-written lines, refl)

lines-only : (lines : List (List ℕ)) (t : List ℕ) → Lines lines t → t ≡ joined (map text_line lines)
unfolding joined
lines-only [] t e = e
lines-only (ns ∷ lines) t w = w.4 ∙ ap₂ ◌++◌ (line-only ns w.0 w.2) (lines-only lines w.1 w.3)

-- the numbers that are printed
totals-printed : (es : List Entry) → Each Entered es
    → totals es ≡ sum (map (mass_of CO2) es) ∷ sum (map (mass_of CH4) es) ∷ sum (map (mass_of N2O) es) ∷ sum (map equivalent_of es) ∷ []
unfolding totals count_up
totals-printed es v =
    rw (
      sum_same Entered (figure 0) (mass_of CO2) (figure-mass 0 (omega arith)) es v,
      sum_same Entered (figure 1) (mass_of CH4) (figure-mass 1 (omega arith)) es v,
      sum_same Entered (figure 2) (mass_of N2O) (figure-mass 2 (omega arith)) es v,
      sum_same Entered (figure 3) equivalent_of figure-last es v,
    )

figures-printed : (e : Entry) → Entered e → figures e ≡ mass_of CO2 e ∷ mass_of CH4 e ∷ mass_of N2O e ∷ equivalent_of e ∷ []
unfolding figures
figures-printed e v = ap₂ (λ (ms : List ℕ) (q : ℕ). ms ++ (q ∷ [])) (sym (three_masses e.masses v.gases)) (equivalent-is e v.gases)

entries-printed : (es : List Entry) → Each Entered es
    → joined (map text_line (map (λ e. e.number ∷ e.method ∷ mass_of CO2 e ∷ mass_of CH4 e ∷ mass_of N2O e ∷ equivalent_of e ∷ []) es))
    ≡ joined (map (λ e. text_line (e.number ∷ e.method ∷ figures e)) es)
unfolding joined
entries-printed [] v = refl
entries-printed (e ∷ es) v = ap₂ ◌++◌ (ap (λ (fs : List ℕ). text_line (e.number ∷ e.method ∷ fs)) (sym (figures-printed e v.0))) (entries-printed es v.1)

pub text-is : (year : ℕ) (es : List Entry) → Each Entered es → joined (map text_line (printed year es)) ≡ report_text year es
unfolding joined report_text
text-is year es v = ap₂ ◌++◌ (ap (λ (ts : List ℕ). text_line (year ∷ length es ∷ ts)) (sym (totals-printed es v))) (entries-printed es v)

pub text-written : (year : ℕ) (es : List Entry) → Each Entered es → Lines (printed year es) (report_text year es)
text-written year es v = rw (← text-is year es v) (lines-written (printed year es))

pub lines-once : (lines : List (List ℕ)) (t u : List ℕ) → Lines lines t → Lines lines u → t ≡ u
lines-once lines t u v w = lines-only lines t v ∙ sym (lines-only lines u w)

pub line-once : (ns t u : List ℕ) → Line ns t → Line ns u → t ≡ u
line-once ns t u v w = line-only ns t v ∙ sym (line-only ns u w)

-- a report has one text
pub text-once : (report t u : List ℕ) → IsText report t → IsText report u → t ≡ u
text-once report t u v w =
    let es : v.1 ≡ w.1 = sym (entries-held report v.0 v.1 v.2) ∙ entries-held report w.0 w.1 w.2 in
    let years : v.0 ≡ w.0 = sym v.2.holds.of_year ∙ w.2.holds.of_year in
    lines-once (printed w.0 w.1) t u (subst (λ (lines : List (List ℕ)). Lines lines t) (ap₂ printed years es) v.3) w.3

module _ (report : List ℕ) (h : Bytes report) where
  abbrev pub shown : List ℕ
  shown = report_text (report_year report) (entries_of report)

  pub is-text : form_test report 1 ≡ Passes → IsText report shown
  is-text p =
      let w = passed_form report 1 p in
      (report_year report, entries_of report, formed-report report h w, text-written (report_year report) (entries_of report) (made_of report h w).each)

  -- 8 has the length of the text
  room_of_text : (buffer : List ℕ) → IsText report shown → Decides (room_test shown buffer) (λ n p. (n ≡ 8) × TextLength report p × (length buffer < p))
  room_of_text buffer t n p =
      let d = room_decides shown buffer (length shown) refl n p in (
        λ e. let r = d.0 e in (r.0, (shown, t, sym r.1), rw r.1 r.2),
        λ r. let e : p ≡ length shown = sym r.1.2 ∙ ap length (text-once report r.1.0 shown r.1.1 t) in d.1 (r.0, e, rw e at r.2),
      )

  text_decides : (buffer : List ℕ) → DecideAll (form_test report 1 ∷ room_test shown buffer ∷ []) (text_rows report (length buffer))
  text_decides buffer = (form_decides report 1 h, λ p. (room_of_text buffer (is-text p), λ _. tt))

  numbered_8_9 : (buffer : List ℕ) → Numbered (8 ∷ 9 ∷ []) (text_rows report (length buffer))
  numbered_8_9 buffer = record { positive = omega arith; among = (λ n p r. inr (inl r.0)) & (λ n p r. inl r.0) & tt }

  pub printing : (buffer : List ℕ) → Prints report buffer (text report buffer)
  unfolding text
  printing buffer =
      writes (form_test report 1 ∷ []) (8 ∷ 9 ∷ []) (text_rows report (length buffer)) shown buffer (text_decides buffer) (numbered_8_9 buffer)
      (λ e. is-text (each-passes _ e).0)

-- the lines of an acceptance and of a refusal
pub refusal-line : (number place : ℕ) → RefusalLine number place (refused_line number place)
unfolding refused_line
refusal-line number place = (text_line (number ∷ place ∷ []), line-written (number ∷ place ∷ []), refl)

accepted-line : (size : ℕ) → AcceptedLine size (accepted_line size)
unfolding accepted_line
accepted-line size = (text_line (size ∷ []), line-written (size ∷ []), refl)

answer-line : (a : Answer) → SaysAnswer a (answer_line a)
answer-line a =
    record {
      accepted = λ e. rw (said-made a (accepted_line a.length) e) (accepted-line a.length);
      refused = λ n. rw (said-refused a (accepted_line a.length) n) (refusal-line a.number a.place);
    }

pub texts : Texts
texts = record { written = text-written; once = lines-once; refusal = refusal-line; acceptance = accepted-line; answer = answer-line }
