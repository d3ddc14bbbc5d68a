-- What calculation makes of sources that nothing refuses, and that its tests decide the table's rows. Assumes nothing.
use mathlib.Core.Bool.{Bool, true, false, ◌||◌, ◌&&◌, not}
use mathlib.Core.List.{List, [], ◌∷◌, ◌++◌, map}
use mathlib.Core.Logic.{⊎_elim, ◌≢◌}
use mathlib.Core.Path.{◌≡◌, refl, sym, ap, ◌∙◌}
use Prim.Native.Nat.{ℕ, ◌+◌, ◌*◌, ◌^◌, ◌≤◌, ◌<◌}
use native.Mathlib.Omega.{arith}
use lib.Dec.{eqb}
use lib.ListN.{length, get_or, length-map, get_or-map}
use borrow.Author.Tests.{eqb-true, eq-eqb, not-false}
use Rattle.basis.specs.Answers.{Verdict, Passes, first_refusal}
use Rattle.basis.specs.Bytes.{Bytes}
use Rattle.basis.specs.Lists.{Each, count_up, any, joined}
use Rattle.basis.proofs.Answers.{passed-at-first, passed-at-all, passed_then, each-passes, passed_append, passes-each}
use Rattle.basis.proofs.Lists.{◌&◌, length-sorted_by, each_at, at_each, each_map, sorted_by-each}
use Rattle.basis.proofs.Bools.{clash, and-true, not_both, or_either}
use Rattle.std.specs.Prelude.{None}
use Rattle.meaning.specs.Methods.{within, listed, is_bad}
use Rattle.meaning.specs.Masses.{masses}
use Rattle.meaning.specs.Register.{Source, year_of, source_count, most_sources, sources_at, source_length, source_entry, source_at, sources_of, unsound, decoded_lines, register_tests}
use Rattle.meaning.specs.Report.{entry_of, in_order, report_bytes, report_length}
use Rattle.meaning.specs.Calls.{room_test, line_test, mass_fault, fault_at, mass_test, entries_for, calculated, calculation_tests, calculated_report}
use Rattle.meaning.proofs.Laws.{one-entry-each}
use Rattle.meaning.proofs.Lengths.{source_massed}
use Rattle.meaning.proofs.Lines.{bad_line, line_test_lem}
use Rattle.meaning.proofs.Sources.{no_source, source_number, length-sources, source-at, sound_parts, kept-within}
use Rattle.demands.specs.Valid.{Entered, Distinct, entry_number, Reportable}
use Rattle.demands.specs.Table.{Among}
use Rattle.demands.specs.Exactly.{at}
use Rattle.demands.specs.Refusals.{register_rows, source_rows, calculation_rows}
use Rattle.basis.proofs.Counting.{any_some, some-any, any_append, append_any}
use Rattle.demands.proofs.Figures.{equivalent-is}
use Rattle.demands.proofs.Order.{sorted_ascending}
use Rattle.basis.proofs.Rows.{number_at-fits, bytes_drop}
use Rattle.demands.proofs.Among.{range_among}
use Rattle.demands.proofs.Compared.{room_decides, enough_room}
use Rattle.demands.proofs.Exactly.{decide_append, DecideAll, Numbered, zero-passes}
use Rattle.demands.proofs.Reports.{length-report}
use Rattle.demands.proofs.RegisterTests.{register_decides}
use Rattle.demands.proofs.Registers.{Passed, passed, passing}
use Rattle.demands.proofs.Calculation.{no_fault, line_decides, mass_decides}

-- a source that nothing refuses, with a number of four bytes
pub record Calculable (s : Source) : Type 0 where
  pub number : s.number < 2 ^ 32
  pub sound : unsound s ≡ false
  pub good : any is_bad (decoded_lines s) ≡ false
  pub kept : mass_fault s ≡ 0

-- "methods 1 to 6": those of the pairs listed
method-listed : (m p : ℕ) → listed m p ≡ true → (1 ≤ m) × (m ≤ 6)
method-listed m p e =
    ⊎_elim (λ h. four (and-true (eqb m 1 || eqb m 2 || eqb m 3 || eqb m 5) (eqb p 0) h).0) (λ h. two (and-true (eqb m 4 || eqb m 6) (within 1 6 p) h).0)
    (or_either ((eqb m 1 || eqb m 2 || eqb m 3 || eqb m 5) && eqb p 0) ((eqb m 4 || eqb m 6) && within 1 6 p) e)
  where
    is : (k : ℕ) → 1 ≤ k → k ≤ 6 → eqb m k ≡ true → (1 ≤ m) × (m ≤ 6)
    is k a b h = omega (arith, eqb-true m k h)

    two : eqb m 4 || eqb m 6 ≡ true → (1 ≤ m) × (m ≤ 6)
    two h = ⊎_elim (is 4 (omega arith) (omega arith)) (is 6 (omega arith) (omega arith)) (or_either (eqb m 4) (eqb m 6) h)

    four : eqb m 1 || eqb m 2 || eqb m 3 || eqb m 5 ≡ true → (1 ≤ m) × (m ≤ 6)
    four h =
        ⊎_elim
        (λ h. ⊎_elim (λ h. ⊎_elim (is 1 (omega arith) (omega arith)) (is 2 (omega arith) (omega arith)) (or_either (eqb m 1) (eqb m 2) h)) (is 3 (omega arith) (omega arith)) (or_either (eqb m 1 || eqb m 2) (eqb m 3) h))
        (is 5 (omega arith) (omega arith)) (or_either (eqb m 1 || eqb m 2 || eqb m 3) (eqb m 5) h)

pub entered : (s : Source) → Calculable s → Entered (entry_of s)
unfolding entry_of masses
entered s c =
    let three = source_massed s in
    record {
      number = c.number;
      method = method-listed s.method s.parameter (sound_parts s c.sound).pair;
      gases = three;
      within = rw (← equivalent-is (entry_of s) three) (kept-within s c.kept);
    }

each-entered : (ss : List Source) → Each Calculable ss → Each Entered (map entry_of ss)
each-entered [] h = tt
each-entered (s ∷ ss) h = (entered s h.0, each-entered ss h.1)

each-numbered : (ss : List Source) → Each Calculable ss → Each (λ e. 0 < entry_number e) (map entry_of ss)
unfolding entry_of
each-numbered [] h = tt
each-numbered (s ∷ ss) h = ((sound_parts s h.0.sound).number, each-numbered ss h.1)

each_of : (P : ℕ → Type 0) (ss : List Source) → Each (λ s. P (source_number s)) ss → Each (λ e. P (entry_number e)) (map entry_of ss)
unfolding entry_of
each_of P [] h = tt
each_of P (s ∷ ss) h = (h.0, each_of P ss h.1)

pub entries_distinct : (ss : List Source) → Distinct source_number ss → Distinct entry_number (map entry_of ss)
unfolding entry_of
entries_distinct [] h = tt
entries_distinct (s ∷ ss) h = (each_of (λ n. s.number ≢ n) ss h.0, entries_distinct ss h.1)

-- sources that nothing refuses, different in number and not too many, make a report
pub sources_make : (y : ℕ) (ss : List Source) → (1990 ≤ y) × (y ≤ 2100) → length ss ≤ most_sources → Each Calculable ss → Distinct source_number ss
    → Reportable y (entries_for ss)
unfolding entries_for in_order
sources_make y ss r n c d =
    record {
      in_range = r;
      count = rw (length-sorted_by entry_number (map entry_of ss), length-map ss entry_of) n;
      order = sorted_ascending entry_number 0 (map entry_of ss) (each-numbered ss c) (entries_distinct ss d);
      each = sorted_by-each entry_number Entered (map entry_of ss) (each-entered ss c);
    }

-- lines that pass are good, source by source, and sums that pass are kept
any-joined : {A B : Type 0} (test : B → Bool) (f : A → List B) (xs : List A) → any test (joined (map f xs)) ≡ false → Each (λ x. any test (f x) ≡ false) xs
unfolding joined any
any-joined test f [] e = tt
any-joined test f (x ∷ xs) e = let h = any_append test (f x) (joined (map f xs)) e in (h.0, any-joined test f xs h.1)

joined-any : {A B : Type 0} (test : B → Bool) (f : A → List B) (xs : List A) → Each (λ x. any test (f x) ≡ false) xs → any test (joined (map f xs)) ≡ false
unfolding joined any
joined-any test f [] h = refl
joined-any test f (x ∷ xs) h = append_any test (f x) (joined (map f xs)) h.0 (joined-any test f xs h.1)

pub lines-good : (ss : List Source) → line_test ss ≡ Passes → Each (λ s. any is_bad (decoded_lines s) ≡ false) ss
lines-good ss e =
    let ls = joined (map decoded_lines ss) in
    any-joined is_bad decoded_lines ss (not_both (any is_bad ls) (λ t. let r = any_some is_bad None ls t in clash r.2 ((passed-at-all 5 (bad_line ls) (length ls)).0 (sym (line_test_lem ss) ∙ e) r.0 r.1)))

pub good-lines : (ss : List Source) → Each (λ s. any is_bad (decoded_lines s) ≡ false) ss → line_test ss ≡ Passes
good-lines ss h =
    let ls = joined (map decoded_lines ss) in
    line_test_lem ss
    ∙ (passed-at-all 5 (bad_line ls) (length ls)).1
    (λ i l. not_both (bad_line ls i) (λ t. clash (some-any is_bad None ls i l t) (joined-any is_bad decoded_lines ss h)))

fault-zero : (ss : List Source) (i : ℕ) → mass_fault (get_or ss i no_source) ≡ get_or (map mass_fault ss) i 0
fault-zero ss i = sym (get_or-map mass_fault ss i no_source) ∙ ap (get_or (map mass_fault ss) i) no_fault

pub sums_kept : (ss : List Source) → mass_test ss ≡ Passes → Each (λ s. mass_fault s ≡ 0) ss
unfolding mass_test fault_at
sums_kept ss e =
    let fs = map mass_fault ss in
    let q : length fs ≡ length ss = length-map ss mass_fault in
    let none = (passed-at-first (fault_at fs) (length fs) _ _).0 e in
    at_each (λ s. mass_fault s ≡ 0) ss no_source
    (λ i l. fault-zero ss i ∙ eqb-true (get_or fs i 0) 0 (not-false (eqb (get_or fs i 0) 0) (none i (omega arith))))

pub kept-sums : (ss : List Source) → Each (λ s. mass_fault s ≡ 0) ss → mass_test ss ≡ Passes
unfolding mass_test fault_at
kept-sums ss h =
    let fs = map mass_fault ss in
    let q : length fs ≡ length ss = length-map ss mass_fault in
    (passed-at-first (fault_at fs) (length fs) _ _).1
    (λ i l. ap not (eq-eqb (get_or fs i 0) 0 (sym (fault-zero ss i) ∙ each_at (λ s. mass_fault s ≡ 0) ss no_source h i (omega arith))))

-- the tests of calculation behind those of the register
each_calculable : (ss : List Source) → Each (λ s. s.number < 2 ^ 32) ss → Each (λ s. unsound s ≡ false) ss
    → Each (λ s. any is_bad (decoded_lines s) ≡ false) ss → Each (λ s. mass_fault s ≡ 0) ss → Each Calculable ss
each_calculable [] n u g k = tt
each_calculable (s ∷ ss) n u g k = (record { number = n.0; sound = u.0; good = g.0; kept = k.0 }, each_calculable ss n.1 u.1 g.1 k.1)

abbrev pub calculation_numbers : List ℕ
calculation_numbers = 1 ∷ 2 ∷ 3 ∷ 4 ∷ 5 ∷ 6 ∷ 7 ∷ 8 ∷ []

-- the numbers of its rows
one_of : (m : ℕ) → (1 ≤ m) × (m ≤ 8) → {n : ℕ} → n ≡ m → Among calculation_numbers n
unfolding count_up
one_of m l {n} e = range_among 1 8 n (omega arith) (omega arith)

row_of : (m : ℕ) → (1 ≤ m) × (m ≤ 8) → {place : ℕ} {C : Type 0} (n p : ℕ) → at m place C n p → Among calculation_numbers n
row_of m l n p r = one_of m l r.0

field : {place : ℕ} {C : Type 0} (n p : ℕ) → at 2 place C n p → Among calculation_numbers n
field = row_of 2 (omega arith)

module _ (b : List ℕ) (h : Bytes b) where
  number_fits : (i : ℕ) → i < source_count b → (source_at b i).number < 2 ^ 32
  unfolding source_at
  number_fits i l = number_at-fits 4 (source_entry b i) 0 (bytes_drop (sources_at + source_length * i) b h)

  pub calculable : Passed b → line_test (sources_of b) ≡ Passes → mass_test (sources_of b) ≡ Passes → Each Calculable (sources_of b)
  calculable p l m =
      let n = length-sources b in
      each_calculable (sources_of b)
      (at_each (λ s. s.number < 2 ^ 32) (sources_of b) no_source (λ i q. let r : i < source_count b = omega arith in rw (source-at b i r) (number_fits i r)))
      (at_each (λ s. unsound s ≡ false) (sources_of b) no_source (λ i q. let r : i < source_count b = omega arith in rw (source-at b i r) (p.sound i r)))
      (lines-good (sources_of b) l)
      (sums_kept (sources_of b) m)

  pub register-makes : Passed b → Each Calculable (sources_of b) → Reportable (year_of b) (entries_for (sources_of b))
  register-makes p c = sources_make (year_of b) (sources_of b) p.laid.year (rw (length-sources b) p.laid.sources) c p.once

  pub made-length : Passed b → Each Calculable (sources_of b) → length (report_bytes (year_of b) (entries_for (sources_of b))) ≡ report_length (source_count b)
  made-length p c =
      length-report (year_of b) (entries_for (sources_of b)) (register-makes p c) ∙ ap report_length ((one-entry-each (sources_of b)).1 ∙ length-sources b)

  source-good : line_test (sources_of b) ≡ Passes → (i : ℕ) → i < source_count b → any is_bad (decoded_lines (source_at b i)) ≡ false
  source-good e i l =
      rw (source-at b i l) at (each_at (λ s. any is_bad (decoded_lines s) ≡ false) (sources_of b) no_source (lines-good (sources_of b) e) i (rw (length-sources b) l))

  -- all its tests, that of the room last
  abbrev pub all_tests : List ℕ → List Verdict
  all_tests report = calculation_tests b ++ (room_test (calculated_report b) report ∷ [])

  -- tests 1 to 7 that pass: the register passes 1 to 4, and nothing refuses its sources
  pub sources-passed : first_refusal (calculation_tests b) ≡ Passes → Passed b × Each Calculable (sources_of b)
  sources-passed e =
      let r = passed_append (register_tests b) (line_test (sources_of b) ∷ mass_test (sources_of b) ∷ []) e in
      let q = passed b r.0 in
      let t = each-passes (line_test (sources_of b) ∷ mass_test (sources_of b) ∷ []) r.1 in
      (q, calculable q t.0 t.1.0)

  pub sources_decide : DecideAll (calculation_tests b) (source_rows b)
  sources_decide =
      decide_append (register_tests b) (line_test (sources_of b) ∷ mass_test (sources_of b) ∷ []) (register_rows b) _ (register_decides b)
      (λ p. (line_decides b (passed b p).laid, λ l. (mass_decides b (source-good l), λ m. tt)))

  pub calculation_decides : (report : List ℕ) → DecideAll (all_tests report) (calculation_rows b (length report))
  calculation_decides report =
      decide_append (calculation_tests b) (room_test (calculated_report b) report ∷ []) (source_rows b) _ sources_decide
      (λ e. let r = sources-passed e in (room_decides (calculated_report b) report (report_length (source_count b)) (made-length r.0 r.1), λ _. tt))

  pub calculation-numbered : (report : List ℕ) → Numbered calculation_numbers (calculation_rows b (length report))
  calculation-numbered report =
      record {
        positive = omega arith;
        among =
            row_of 1 (omega arith)
            & field & field & field & field & field & field & field & field & field & field
            & (λ n p r. one_of 3 (omega arith) r.1.0)
            & row_of 3 (omega arith)
            & (λ n p r. one_of 4 (omega arith) r.1.0)
            & (λ n p r. one_of 5 (omega arith) r.1.0)
            & (λ n p r. ⊎_elim (λ f. one_of 6 (omega arith) f.0) (λ f. one_of 7 (omega arith) f.0) r.1)
            & row_of 8 (omega arith)
            & tt;
      }

  pub accepted : (report : List ℕ) → (calculated b report).answer.number ≡ 0 → Passed b × Each Calculable (sources_of b) × (first_refusal (all_tests report) ≡ Passes)
  unfolding calculated
  accepted report e =
      let p = zero-passes (calculation_tests b) calculation_numbers (calculation_rows b (length report)) (calculated_report b) report (calculation_decides report) (calculation-numbered report) e in
      let r = sources-passed (passed_append (calculation_tests b) (room_test (calculated_report b) report ∷ []) p).0 in
      (r.0, r.1, p)

  -- and the other way round, with room
  pub accepting : (report : List ℕ) → Passed b → Each Calculable (sources_of b) → report_length (source_count b) ≤ length report → first_refusal (all_tests report) ≡ Passes
  accepting report p c o =
      let l = made-length p c in
      passed_then (calculation_tests b) (room_test (calculated_report b) report ∷ [])
      (passed_then (register_tests b) (line_test (sources_of b) ∷ mass_test (sources_of b) ∷ []) (passing b p)
      ∙ passes-each (line_test (sources_of b) ∷ mass_test (sources_of b) ∷ [])
      (good-lines (sources_of b) (each_map (λ s h. h.good) (sources_of b) c) & kept-sums (sources_of b) (each_map (λ s h. h.kept) (sources_of b) c) & tt))
      ∙ passes-each (room_test (calculated_report b) report ∷ []) (enough_room (calculated_report b) report (omega arith) & tt)
