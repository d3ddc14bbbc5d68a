-- Calculation as its tests in order: what each part of the code finds is what the call answers. Assumes nothing.
use Rattle.std.specs.Prelude.{Result, Err, IsErrAnd}
use mathlib.Core.Bool.{false}
use mathlib.Core.List.{List, [], ◌∷◌}
use mathlib.Core.Path.{◌≡◌, refl, sym, ◌∙◌}
use Prim.Native.Nat.{ℕ, ◌*◌, ◌≤◌, ◌<◌}
use native.Mathlib.Omega.{arith}
use borrow.Author.Tests.{le-ltb}
use lib.Dec.{ltb}
use lib.ListN.{length, drop}
use lib.Seq.{take_at}
use Rattle.basis.specs.declared.Refusal.{Refusal}
use Rattle.basis.specs.Answers.{Verdict, Passes, Refuses, first_refusal, answered, Gives}
use Rattle.basis.proofs.Answers.{passed_then, refused_then, each-passes}
use Rattle.basis.proofs.Bytes.{length-written}
use Rattle.meaning.specs.Masses.{equivalent, limit}
use Rattle.meaning.specs.Register.{source_count, most_sources, sources_at, source_at, sources_of, register_tests}
use Rattle.meaning.specs.Report.{entry_of, figure_count}
use Rattle.meaning.specs.Calls.{line_test, mass_test, calculation_tests, calculated_report, calculated}
use Rattle.meaning.proofs.Calls.{refused-gives}
use Rattle.meaning.proofs.Registers.{right-register}
use Rattle.meaning.proofs.Sources.{kept-within}
use Rattle.register_order.specs.Keys.{sorted_keys, keys_for, Tested}
use Rattle.register_order.proofs.Accepted.{length-sorted_keys}
use Rattle.register_order.proofs.Tested.{passed_headed, keys_left_lem}
use Rattle.calculation_write.specs.Ready.{Ready}
use Rattle.calculation_judge.specs.Sources.{Judgeable, AllJudged}
use Rattle.calculation_judge.proofs.Pass.{none_faulty}
use Rattle.calculation.specs.Keyed.{Keyed}

-- a refusal of tests 1 to 4
pub register-refused : {b keys left report : List ℕ} {v : Verdict} {refusal : Refusal} (w : Result ℕ Refusal) → Tested b keys v left → v ≡ Err refusal
    → IsErrAnd w (λ r. r ≡ refusal) → Gives (calculated b report) (answered w) report
unfolding calculated
register-refused {b} {report = report} {refusal = refusal} w t e h =
    refused-gives (calculation_tests b) (calculated_report b) report w
    (refused_then (register_tests b) (line_test (sources_of b) ∷ mass_test (sources_of b) ∷ []) {n = refusal.number} {p = refusal.place} (sym t.verdict ∙ e))
    refl
    h

-- and where they pass
pub keyed : {b keys left kept : List ℕ} {v : Verdict} → Tested b keys v left → v ≡ Passes → figure_count * keys_for b ≤ length kept → Keyed b left kept
unfolding keys_for
keyed {b} {keys} t e l =
    let f = sym t.verdict ∙ e in
    let h = passed_headed b f in
    let few : ltb most_sources (source_count b) ≡ false = le-ltb most_sources (source_count b) (right-register b f).header.sources in
    let long : ltb (length b) sources_at ≡ false = le-ltb (length b) sources_at (right-register b f).long in
    record {
      passed = record { tests = f; head = h };
      order = rw (keys_left_lem t e) (take_at (sorted_keys b) (drop (source_count b) keys) (source_count b) (length-sorted_keys b));
      room = rw (long, few) at l;
    }

-- a refusal of tests 5 to 7
pub source-refused : {b kept₀ kept report : List ℕ} {v : Verdict} {refusal : Refusal} (w : Result ℕ Refusal) → Judgeable b → AllJudged b kept₀ v kept → v ≡ Err refusal
    → IsErrAnd w (λ r. r ≡ refusal) → Gives (calculated b report) (answered w) report
unfolding calculated
source-refused {b} {report = report} w h j =
    refused-gives (calculation_tests b) (calculated_report b) report w
    (passed_then (register_tests b) (line_test (sources_of b) ∷ mass_test (sources_of b) ∷ []) h.tests ∙ sym j.verdict)

-- where nothing refuses, each equivalent keeps the limit
each-kept : {b kept₀ kept : List ℕ} {v : Verdict} → AllJudged b kept₀ v kept → v ≡ Passes → (i : ℕ) → i < source_count b → equivalent (entry_of (source_at b i)).masses ≤ limit
unfolding entry_of
each-kept {b} j e i l =
    let m = (each-passes (line_test (sources_of b) ∷ mass_test (sources_of b) ∷ []) (sym j.verdict ∙ e)).1.0 in
    kept-within (source_at b i) (none_faulty b m i l)

-- what is written where all tests pass
pub all-passed : {b kept₀ kept : List ℕ} {v : Verdict} → Judgeable b → AllJudged b kept₀ v kept → v ≡ Passes → first_refusal (calculation_tests b) ≡ Passes
all-passed {b} h j e = passed_then (register_tests b) (line_test (sources_of b) ∷ mass_test (sources_of b) ∷ []) h.tests ∙ sym j.verdict ∙ e

pub ready : {b keys kept₀ kept : List ℕ} {v : Verdict} → Keyed b keys kept₀ → AllJudged b kept₀ v kept → v ≡ Passes → Ready b keys kept
ready h j e = record { passes = h.passed.tests; order = h.order; long = omega (arith, h.room, length-written j.left); stored = j.stored e; kept = each-kept j e }
