-- What is said of a call is said of one outcome alone. Assumes nothing.
use Rattle.std.specs.Prelude.{Err, Ok}
use mathlib.Core.Bool.{Bool, true, false, cond}
use mathlib.Core.List.Permᴰ
use mathlib.Core.List.{List, [], ◌∷◌, ◌++◌, map, Perm, is_set, Permᴰ}
use mathlib.Core.Logic.{◌⊎◌, inl, inr, ∥∥₁_elim}
use mathlib.Core.Path.{◌≡◌, refl, sym, ap, ap₂, subst, ◌∙◌}
use Prim.Native.Nat.{ℕ, ◌+◌, ◌^◌, ◌<◌}
use native.Mathlib.Nat.{ℕ_set}
use native.Mathlib.Decide.{ℕ_discrete}
use native.Mathlib.Omega.{arith}
use lib.Dec.{leb}
use lib.ListN.{length, take, drop}
use lib.Seq.{ext_get_or}
use borrow.Author.Tests.{eq-eqb}
use Rattle.basis.specs.declared.Answer.{Answer}
use Rattle.basis.specs.Answers.{Verdict, first_refusal}
use Rattle.basis.specs.Bytes.{Bytes}
use Rattle.basis.specs.Lists.{Each, insert_by, sorted_by, without}
use Rattle.basis.proofs.Answers.{coincide, coincide-part}
use Rattle.meaning.specs.declared.RawLine.{RawLine}
use Rattle.meaning.specs.declared.Part.{Part}
use Rattle.meaning.specs.declared.Found.{Found}
use Rattle.meaning.specs.Register.{Source}
use Rattle.meaning.specs.Report.{Entry, report_bytes, report_year}
use Rattle.meaning.specs.Calls.{form_test, numbered, calculation_tests}
use Rattle.meaning.specs.Cards.{card_tests}
use Rattle.meaning.proofs.Sources.{no_source}
use Rattle.demands.specs.Table.{CO2, CH4, N2O, FitAll, Nearest}
use Rattle.demands.specs.Fields.{year_in}
use Rattle.demands.specs.Valid.{mass_of, entry_number, IsReport}
use Rattle.demands.specs.Text.{Lines, IsText, RefusalLine, AcceptedLine, SaysAnswer}
use Rattle.demands.specs.Exactly.{Row, at, FirstOf, Exactly}
use Rattle.demands.specs.Refusals.{NoReport, source_rows, check_rows, card_rows}
use Rattle.demands.specs.Demand1.{FromTable}
use Rattle.demands.specs.Demand2.{Defined, DefinedAll, States, Stated, ReportOf, ReportOfBoth, ReportWithout, Refused, Numbered, Absent, IsName, part_of}
use Rattle.demands.specs.Calls.{Writes, Checks, Finds, FindsOfTwo, IsPartOf, HandsBack, HandsBackEither, SaysRegister, SaysReport, SaysAmounts}
use Rattle.demands.specs.Fixed.{Once, Fixed}
use Rattle.demands.proofs.Figures.{three_masses}
use Rattle.demands.proofs.Order.{sorted_perm, distinct_perm, ascending_distinct, ascending_sorted, ascending_once}
use Rattle.demands.proofs.Exactly.{Decides, first_decides, passes_nowhere, among_positive}
use Rattle.demands.proofs.Holds.{written-again, entries-held}
use Rattle.demands.proofs.ReportTests.{form_decides, nowhere_at}
use Rattle.demands.proofs.ReportCalls.{without_absent}
use Rattle.demands.proofs.Calculated.{sources_decide}
use Rattle.demands.proofs.Tabled.{tabled}
use Rattle.demands.proofs.Sums.{rounds}
use Rattle.demands.proofs.Cards.{card_tests_decide, consumed-once, amounts-once}
use Rattle.demands.proofs.Texts.{line-once, lines-once, text-once}
use Rattle.demands.proofs.Names.{Case, here, nowhere, bad, case, refused, not-refused}

-- an answer: a refusal by the row that refuses so, acceptance by its length
answer-once : (ns : List ℕ) (rows : List Row) (a b : Answer) → Each (λ m. 0 < m) ns → FromTable ns a → FromTable ns b → Exactly rows a → Exactly rows b
    → (a.number ≡ 0 → b.number ≡ 0 → a.length ≡ b.length) → a ≡ b
answer-once ns rows a b z s t x y l = by s t
  where
    same : a.number ≡ b.number → a.place ≡ b.place → a.length ≡ b.length → a ≡ b
    same n p k i = record { number = n i; place = p i; length = k i }

    by : FromTable ns a → FromTable ns b → a ≡ b
    by (inl u) (inl v) = same (u.0 ∙ sym v.0) (u.1 ∙ sym v.1) (l u.0 v.0)
    by (inl u) (inr v) = absurd (among_positive ns z b.number v.0 (y.accepted.1 (x.accepted.0 u.0)))
    by (inr u) v =
        let n = among_positive ns z a.number u.0 in
        let e : a ≡ record { number = a.number; place = a.place; length = 0 } = λ i. record { number = a.number; place = a.place; length = u.1 i } in
        e ∙ sym ((y.refused a.number a.place n).1 ((x.refused a.number a.place n).0 e))

-- a call that writes, where what it is to make is one list of bytes
writes_once : {ns : List ℕ} {rows : List Row} {Made : List ℕ → Type 0} {buffer : List ℕ} → Each (λ m. 0 < m) ns → Once Made → Once (Writes ns rows Made buffer)
writes_once {ns} {rows} {Made} {buffer} z once o p x y = λ i. record { answer = answers i; left = left (ℕ_discrete o.answer.number 0) i }
  where
    bytes : (u : o.answer.number ≡ 0) (v : p.answer.number ≡ 0) → (x.leaves u).bytes ≡ (y.leaves v).bytes
    bytes u v = once (x.leaves u).bytes (y.leaves v).bytes (x.leaves u).made (y.leaves v).made

    answers : o.answer ≡ p.answer
    answers =
        answer-once ns rows o.answer p.answer z x.answers.from_table y.answers.from_table x.exactly y.exactly
        (λ u v. (x.leaves u).answers ∙ ap length (bytes u v) ∙ sym (y.leaves v).answers)

    number : o.answer.number ≡ p.answer.number
    number i = (answers i).number

    left : Dec (o.answer.number ≡ 0) → o.left ≡ p.left
    left (no n) = x.answers.held n ∙ sym (y.answers.held (λ u. n (number ∙ u)))
    left (yes u) =
        let v = sym number ∙ u in
        (x.leaves u).left ∙ ap (λ (bs : List ℕ). bs ++ drop (length bs) buffer) (bytes u v) ∙ sym (y.leaves v).left

-- entries that are dealt in any order make one report
same-report : (b c : List ℕ) (y : ℕ) (es fs : List Entry) → IsReport b y es → IsReport c y fs → es ≡ fs → b ≡ c
same-report b c y es fs r s e = sym (written-again b y es r) ∙ ap (report_bytes y) e ∙ written-again c y fs s

report-once : (b c : List ℕ) (y : ℕ) (es fs xs : List Entry) → IsReport b y es → IsReport c y fs → Perm es xs → Perm fs xs → b ≡ c
report-once b c y es fs xs r s p q =
    ∥∥₁_elim p (is_set ℕ_set b c) (λ d. ∥∥₁_elim q (is_set ℕ_set b c) (λ f.
    same-report b c y es fs r s (ascending_once entry_number 0 0 es fs r.makes.order s.makes.order (Permᴰ.trans d (Permᴰ.symm f)))))

-- one entry of a source
rows-once : (m p : ℕ) (rows others : List ℕ) (ls : List RawLine) → FitAll m p rows ls → FitAll m p others ls → rows ≡ others
rows-once m p [] [] [] f g = refl
rows-once m p [] (j ∷ js) [] f g = absurd g
rows-once m p (i ∷ is) js [] f g = absurd f
rows-once m p [] js (l ∷ ls) f g = absurd f
rows-once m p (i ∷ is) [] (l ∷ ls) f g = absurd g
rows-once m p (i ∷ is) (j ∷ js) (l ∷ ls) f g = ap₂ ◌∷◌ (tabled.once m p i j l f.0 g.0) (rows-once m p is js ls f.1 g.1)

nearest_once : (n d : ℕ) → 0 < d → Once (Nearest n d)
nearest_once n d l r s a b = sym ((rounds n d r l).1 a) ∙ (rounds n d s l).1 b

defined-once : (s : Source) → Once (Defined s)
defined-once s e f d g i = record { number = (d.number ∙ sym g.number) i; method = (d.method ∙ sym g.method) i; masses = masses i }
  where
    rows : d.rows ≡ g.rows
    rows = rows-once s.method s.parameter d.rows g.rows s.lines d.fit g.fit

    masses : e.masses ≡ f.masses
    masses =
        let c = rw rows at d.co2 in
        let h = rw rows at d.ch4 in
        let n = rw rows at d.n2o in
        sym (three_masses e.masses d.entered.gases)
        ∙ ap₂ ◌∷◌ (nearest_once _ (10 ^ 10) (omega arith) (mass_of CO2 e) (mass_of CO2 f) c g.co2)
        (ap₂ ◌∷◌ (nearest_once _ (10 ^ 7) (omega arith) (mass_of CH4 e) (mass_of CH4 f) h g.ch4)
        (ap₂ ◌∷◌ (nearest_once _ (10 ^ 4) (omega arith) (mass_of N2O e) (mass_of N2O f) n g.n2o) refl))
        ∙ three_masses f.masses g.entered.gases

all-defined-once : (ss : List Source) → Once (DefinedAll ss)
all-defined-once [] [] [] d g = refl
all-defined-once [] [] (f ∷ fs) d g = absurd g
all-defined-once [] (e ∷ es) fs d g = absurd d
all-defined-once (s ∷ ss) [] fs d g = absurd d
all-defined-once (s ∷ ss) (e ∷ es) [] d g = absurd g
all-defined-once (s ∷ ss) (e ∷ es) (f ∷ fs) d g = ap₂ ◌∷◌ (defined-once s e f d.0 g.0) (all-defined-once ss es fs d.1 g.1)

-- one list of sources
states_once : (b : List ℕ) (i : ℕ) → Once (States b i)
states_once b i s t x y j =
    record {
      number = (x.of_number ∙ sym y.of_number) j;
      method = (x.of_method ∙ sym y.of_method) j;
      parameter = (x.of_parameter ∙ sym y.of_parameter) j;
      name = (x.name ∙ sym y.name) j;
      lines = (x.lines ∙ sym y.lines) j;
    }

sources-once : (b : List ℕ) → Once (Stated b)
sources-once b ss ts x y =
    ext_get_or no_source ss ts (x.count ∙ sym y.count)
    (λ i l. let m = rw x.count at l in states_once b i _ _ (x.each i no_source m) (y.each i no_source m))

report_of_once : (register : List ℕ) → Once (ReportOf register)
report_of_once register b c x y =
    let d = rw (sources-once register x.sources y.sources x.stated y.stated) at x.defined in
    let e = all-defined-once y.sources x.entries y.entries d y.defined in
    report-once b c (year_in register) x.es y.es y.entries x.is_report y.is_report (rw e at x.one_each) y.one_each

-- a report has one list of entries
entries-once : (b : List ℕ) (y z : ℕ) (es fs : List Entry) → IsReport b y es → IsReport b z fs → es ≡ fs
entries-once b y z es fs r s = sym (entries-held b y es r) ∙ entries-held b z fs s

both_once : (one other : List ℕ) → Once (ReportOfBoth one other)
both_once one other b c x y =
    let u = entries-once one _ _ x.first y.first x.of_first y.of_first in
    let v = entries-once other _ _ x.second y.second x.of_second y.of_second in
    report-once b c (report_year one) x.es y.es (y.first ++ y.second) x.is_report y.is_report (subst (Perm x.es) (ap₂ ◌++◌ u v) x.all) y.all

-- what is left where an entry was put in and is taken out again
without-insert : (n : ℕ) (e : Entry) (es : List Entry) → e.number ≡ n → without (numbered n) (insert_by entry_number e es) ≡ without (numbered n) es
unfolding without insert_by
without-insert n e [] q = rw (eq-eqb e.number n q)
without-insert n e (y ∷ ys) q = by (leb e.number y.number) (without-insert n e ys q)
  where
    by : (b : Bool) → without (numbered n) (insert_by entry_number e ys) ≡ without (numbered n) ys
        → without (numbered n) (cond b (e ∷ y ∷ ys) (y ∷ insert_by entry_number e ys)) ≡ without (numbered n) (y ∷ ys)
    by true later = rw (eq-eqb e.number n q)
    by false later = rw later

module _ (report : List ℕ) (n : ℕ) where
  rest-is : (b : List ℕ) (x : ReportWithout report n b) → Permᴰ (x.gone ∷ x.es) x.whole → x.es ≡ without (numbered n) x.whole
  unfolding sorted_by
  rest-is b x d =
      let e = x.gone in
      let whole = x.of_report.makes.order in
      let apart = distinct_perm entry_number (Permᴰ.symm d) (ascending_distinct entry_number 0 x.whole whole) in
      sym (without_absent n x.es (rw x.numbered at apart.0))
      ∙ sym (without-insert n e x.es x.numbered)
      ∙ ap (λ (l : List Entry). without (numbered n) (insert_by entry_number e l)) (sym (ascending_sorted entry_number 0 x.es x.is_report.makes.order))
      ∙ ap (without (numbered n)) (sorted_perm entry_number d apart ∙ ascending_sorted entry_number 0 x.whole whole)

  without-once : Once (ReportWithout report n)
  without-once b c x y =
      let e = entries-once report _ _ x.whole y.whole x.of_report y.of_report in
      ∥∥₁_elim x.all (is_set ℕ_set b c) (λ d. ∥∥₁_elim y.all (is_set ℕ_set b c) (λ f.
      same-report b c (report_year report) x.es y.es x.is_report y.is_report (rest-is b x d ∙ ap (without (numbered n)) e ∙ sym (rest-is c y f))))

check-once : (report : List ℕ) → Once (Checks report)
check-once report a b x y =
    answer-once (9 ∷ []) (check_rows report) a b (omega arith) x.from_table y.from_table x.exactly y.exactly
    (λ u v. x.judged u ∙ sym (y.judged v))

-- names
same-part : (p q : Part) → p.offset ≡ q.offset → p.length ≡ q.length → p ≡ q
same-part p q e f i = record { offset = e i; length = f i }

name-once : (b : List ℕ) (x : ℕ) → Once (Finds b x)
name-once b x p q f g = by (case b x)
  where
    empty : Refused b ⊎ Absent b x → p ≡ q
    empty r =
        let u = f.none.1 r in
        let v = g.none.1 r in
        same-part p q (f.front u ∙ sym (g.front v)) (u ∙ sym v)

    by : Case b x → p ≡ q
    by (bad e) = empty (inl (refused b e))
    by (nowhere e a) = empty (inr a)
    by (here e i n) =
        let u = f.name i (not-refused b e) n in
        let v = g.name i (not-refused b e) n in
        same-part p q (u.0 ∙ sym v.0) (u.1 ∙ sym v.1)

name_of_two_once : (plant contractor : List ℕ) (x : ℕ) → Once (FindsOfTwo plant contractor x)
name_of_two_once plant contractor x p q f g = by (case plant x) (case contractor x)
  where
    empty : Refused plant ⊎ Refused contractor ⊎ (Absent plant x × Absent contractor x) ⊎ (((i : ℕ) × Numbered plant x i) × ((j : ℕ) × Numbered contractor x j)) → p ≡ q
    empty r = f.front (f.none.1 r) ∙ sym (g.front (g.none.1 r))

    same : (b : List ℕ) (i k : ℕ) → (p.which ≡ k) × IsName b i (part_of p) → (q.which ≡ k) × IsName b i (part_of q) → p ≡ q
    same b i k u v j =
        record { which = (u.0 ∙ sym v.0) j; offset = (u.1.0 ∙ sym v.1.0) j; length = (u.1.1 ∙ sym v.1.1) j }

    by : Case plant x → Case contractor x → p ≡ q
    by (bad e) d = empty (inl (refused plant e))
    by (here e i n) (bad d) = empty (inr (inl (refused contractor d)))
    by (nowhere e n) (bad d) = empty (inr (inl (refused contractor d)))
    by (nowhere e n) (nowhere d m) = empty (inr (inr (inl (n, m))))
    by (here e i n) (here d j m) = empty (inr (inr (inr ((i, n), (j, m)))))
    by (here e i n) (nowhere d m) =
        let is : (r : Found) → FindsOfTwo plant contractor x r → (r.which ≡ 1) × IsName plant i (part_of r) = λ r w. w.of_plant i (not-refused plant e) (not-refused contractor d) n m in
        same plant i 1 (is p f) (is q g)
    by (nowhere e n) (here d j m) =
        let is : (r : Found) → FindsOfTwo plant contractor x r → (r.which ≡ 2) × IsName contractor j (part_of r) = λ r w. w.of_contractor j (not-refused plant e) (not-refused contractor d) n m in
        same contractor j 2 (is p f) (is q g)

-- the part that a lookup hands back
same_bytes : (lent : List ℕ) (from : ℕ × ℕ) (p q : Part) (r s : List ℕ × (ℕ × ℕ)) → p ≡ q → IsPartOf lent from p r.0 r.1 → IsPartOf lent from q s.0 s.1 → r ≡ s
same_bytes lent from p q r s e x y =
    let held = x.holds ∙ ap (λ (n : Part). take n.length (drop n.offset lent)) e ∙ sym y.holds in
    let place = x.stands ∙ ap (λ (n : Part). (from.0, n.offset + from.1)) e ∙ sym y.stands in
    λ i. (held i, place i)

part-once : (register : List ℕ) (from : ℕ × ℕ) (number : ℕ) → Once {A = List ℕ × (ℕ × ℕ)} (λ r. HandsBack register from number r.0 r.1)
part-once register from number r s x y =
    same_bytes register from x.name y.name r s (name-once register number x.name y.name x.finds y.finds) x.part y.part

part_of_either_once : (plant : List ℕ) (from : ℕ × ℕ) (contractor : List ℕ) (from' : ℕ × ℕ) (number : ℕ)
    → Once {A = List ℕ × (ℕ × ℕ)} (λ r. HandsBackEither plant from contractor from' number r.0 r.1)
part_of_either_once plant from contractor from' number r s x y = by x.part y.part
  where
    e : x.name ≡ y.name
    e = name_of_two_once plant contractor number x.name y.name x.finds y.finds

    which : x.name.which ≡ y.name.which
    which i = (e i).which

    part : part_of x.name ≡ part_of y.name
    part i = part_of (e i)

    by : ((x.name.which ≡ 1) × IsPartOf plant from (part_of x.name) r.0 r.1) ⊎ ((x.name.which ≡ 2) × IsPartOf contractor from' (part_of x.name) r.0 r.1)
        → ((y.name.which ≡ 1) × IsPartOf plant from (part_of y.name) s.0 s.1) ⊎ ((y.name.which ≡ 2) × IsPartOf contractor from' (part_of y.name) s.0 s.1)
        → r ≡ s
    by (inl u) (inl v) = same_bytes plant from (part_of x.name) (part_of y.name) r s part u.1 v.1
    by (inr u) (inr v) = same_bytes contractor from' (part_of x.name) (part_of y.name) r s part u.1 v.1
    by (inl u) (inr v) = absurd (omega (arith, which, u.0, v.0))
    by (inr u) (inl v) = absurd (omega (arith, which, u.0, v.0))

-- what a program says
refusal-once : (n p : ℕ) → Once (RefusalLine n p)
refusal-once n p t u x y = x.2 ∙ ap (λ (rest : List ℕ). 114 ∷ 101 ∷ 102 ∷ 117 ∷ 115 ∷ 101 ∷ 100 ∷ 32 ∷ rest) (line-once (n ∷ p ∷ []) x.0 y.0 x.1 y.1) ∙ sym y.2

accepted-once : (size : ℕ) → Once (AcceptedLine size)
accepted-once size t u x y = x.2 ∙ ap (λ (rest : List ℕ). 97 ∷ 99 ∷ 99 ∷ 101 ∷ 112 ∷ 116 ∷ 101 ∷ 100 ∷ 32 ∷ rest) (line-once (size ∷ []) x.0 y.0 x.1 y.1) ∙ sym y.2

says_answer-once : (a : Answer) → Once (SaysAnswer a)
says_answer-once a t u x y = by (ℕ_discrete a.number 0)
  where
    by : Dec (a.number ≡ 0) → t ≡ u
    by (yes z) = accepted-once a.length t u (x.accepted z) (y.accepted z)
    by (no n) = refusal-once a.number a.place t u (x.refused n) (y.refused n)

says_report-once : (report : List ℕ) → Bytes report → Once (SaysReport report)
says_report-once report h t u x y = by (form_test report 1) refl
  where
    decides : Decides (form_test report 1) (at 9 1 (NoReport report))
    decides = form_decides report 1 h

    by : (v : Verdict) → form_test report 1 ≡ v → t ≡ u
    by (Err refusal) e = let r = ((decides refusal.number refusal.place).0 e).2 in refusal-once 9 1 t u (x.refused r) (y.refused r)
    by (Ok done) e = let r = nowhere_at (passes_nowhere (form_test report 1) (at 9 1 (NoReport report)) decides e) in text-once report t u (x.shown r) (y.shown r)

says_register-once : (register : List ℕ) → Bytes register → Once (SaysRegister register)
says_register-once register h t u x y = by (first_refusal (calculation_tests register)) refl
  where
    decides : Decides (first_refusal (calculation_tests register)) (FirstOf (source_rows register))
    decides = first_decides (calculation_tests register) (source_rows register) (sources_decide register h)

    by : (v : Verdict) → first_refusal (calculation_tests register) ≡ v → t ≡ u
    by (Err refusal) e = let r = (decides refusal.number refusal.place).0 e in refusal-once refusal.number refusal.place t u (x.refused refusal.number refusal.place r) (y.refused refusal.number refusal.place r)
    by (Ok done) e =
        let none = passes_nowhere (first_refusal (calculation_tests register)) (FirstOf (source_rows register)) decides e in
        let v = x.shown none in
        let w = y.shown none in
        let b = report_of_once register v.0 w.0 v.1 w.1 in
        text-once w.0 t u (subst (λ (r : List ℕ). IsText r t) b v.2) w.2

says_amounts-once : (cards : List ℕ) → Once (SaysAmounts cards)
says_amounts-once cards t u x y = by (first_refusal (card_tests cards)) refl
  where
    decides : Decides (first_refusal (card_tests cards)) (FirstOf (card_rows cards))
    decides = first_decides (card_tests cards) (card_rows cards) (card_tests_decide cards)

    by : (v : Verdict) → first_refusal (card_tests cards) ≡ v → t ≡ u
    by (Err refusal) e = let r = (decides refusal.number refusal.place).0 e in refusal-once refusal.number refusal.place t u (x.refused refusal.number refusal.place r) (y.refused refusal.number refusal.place r)
    by (Ok done) e =
        let none = passes_nowhere (first_refusal (card_tests cards)) (FirstOf (card_rows cards)) decides e in
        let v = x.shown none in
        let w = y.shown none in
        let lines : List ℕ → List (List ℕ) = map (λ n. n ∷ []) in
        lines-once (lines w.0) t u (subst (λ (ns : List ℕ). Lines (lines ns) t) (consumed-once cards v.0 w.0 v.1 w.1) v.2) w.2

pub fixed : Fixed
fixed =
    record {
      calculation = λ register report. writes_once (omega arith) (report_of_once register);
      combination = λ one other report. writes_once (omega arith) (both_once one other);
      removal = λ report result number. writes_once (omega arith) (without-once report number);
      check = check-once;
      printing = λ report buffer. writes_once (omega arith) (text-once report);
      working = λ cards buffer. writes_once (omega arith) (amounts-once cards);
      name = name-once;
      name_of_two = name_of_two_once;
      part = part-once;
      part_of_either = part_of_either_once;
      program = says_register-once;
      show = says_report-once;
      say_amounts = says_amounts-once;
      answer = says_answer-once;
      coincide = λ o a a' bs bs' g g'. coincide g g';
      coincide_parts = λ A bytes base start offset size held held' place place' s s'. coincide-part s s';
    }
