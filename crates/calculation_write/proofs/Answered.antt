-- The length of a report by the count of sources, and what the call answers by that. Assumes nothing.
use Rattle.std.specs.Prelude.{Result, Ok, Err, IsErrAnd}
use mathlib.Core.List.{List, [], ◌∷◌, map}
use mathlib.Core.Path.{◌≡◌, ap, ◌∙◌}
use Prim.Native.Nat.{ℕ, ◌≤◌, ◌<◌}
use native.Mathlib.Omega.{arith}
use lib.Dec.{ltb}
use lib.ListN.{length}
use Rattle.basis.specs.declared.Refusal.{Refusal}
use Rattle.basis.specs.Answers.{Verdict, Passes, refuse_if, first_refusal, answered, Gives}
use Rattle.basis.specs.Bytes.{Written}
use Rattle.basis.specs.Lists.{Each}
use Rattle.basis.proofs.Lists.{sorted_by-each}
use Rattle.meaning.specs.Register.{Source, year_of, source_count, sources_of}
use Rattle.meaning.specs.Report.{entry_of, in_order, report_length}
use Rattle.meaning.specs.Calls.{entries_for, calculation_tests, calculated_report, calculated}
use Rattle.meaning.proofs.Calls.{short-gives, made-gives}
use Rattle.meaning.proofs.Laws.{one-entry-each}
use Rattle.meaning.proofs.Lengths.{Massed, source_massed, length-report}
use Rattle.meaning.proofs.Sources.{length-sources}
use Rattle.basis.proofs.Answers.{room-there}
use Rattle.register_order.proofs.Tested.{passed_headed}
use Rattle.calculation_write.specs.Ready.{Ready}

-- the report of all sources is as long as their count says
each_massed : (ss : List Source) → Each Massed (map entry_of ss)
each_massed [] = tt
each_massed (s ∷ ss) = (source_massed s, each_massed ss)

length-calculated : (b : List ℕ) → length (calculated_report b) ≡ report_length (source_count b)
unfolding entries_for in_order
length-calculated b =
    let ss = sources_of b in
    length-report (year_of b) (entries_for ss) (sorted_by-each (λ e. e.number) Massed (map entry_of ss) (each_massed ss))
    ∙ ap report_length ((one-entry-each ss).1 ∙ length-sources b)

-- the count of sources tells the length of the report, by which the call answers
pub count_small : {b keys stored : List ℕ} {n : ℕ} → Ready b keys stored → n ≡ source_count b → n < 65536
count_small {b} r f = omega (arith, (passed_headed b r.passes).sources)

module _ (b : List ℕ) (t : first_refusal (calculation_tests b) ≡ Passes) {n needed : ℕ} (f : n ≡ source_count b) (e : needed ≡ report_length n) where
  needed_is : length (calculated_report b) ≡ needed
  needed_is = rw (e, f) (length-calculated b)

  pub calculation-room : (report : List ℕ) {v : Verdict} → v ≡ refuse_if (ltb (length report) needed) 8 needed → v ≡ Passes → report_length (source_count b) ≤ length report
  calculation-room report g p = omega (arith, room-there (length report) needed g p, e, f)

  pub calculation-short : {report : List ℕ} {v : Verdict} {refusal : Refusal} (w : Result ℕ Refusal) → v ≡ refuse_if (ltb (length report) needed) 8 needed → v ≡ Err refusal
      → IsErrAnd w (λ r. r ≡ refusal) → Gives (calculated b report) (answered w) report
  unfolding calculated
  calculation-short {report} = short-gives (calculation_tests b) (calculated_report b) report t needed_is

  pub calculation-made : {report left : List ℕ} → Written report 0 (calculated_report b) left → Gives (calculated b report) (answered (Ok needed)) left
  unfolding calculated
  calculation-made {report} = made-gives (calculation_tests b) (calculated_report b) report t needed_is
