-- The premises of the statements are met: computed. Assumes nothing.
use mathlib.Core.Bool.{false}
use mathlib.Core.List.Permᴰ
use mathlib.Core.List.{List, [], ◌∷◌}
use mathlib.Core.Path.{◌≡◌, refl}
use Prim.Native.Nat.{ℕ, zero, suc, ◌≤◌}
use native.Mathlib.Omega.{arith}
use lib.Dec.{leb}
use lib.ListN.{length}
use borrow.Author.Tests.{leb-false}
use Rattle.basis.specs.Bytes.{Bytes}
use Rattle.basis.specs.Lists.{any}
use Rattle.basis.specs.Answers.{Passes, first_refusal}
use Rattle.basis.proofs.Bools.{or_false}
use Rattle.meaning.specs.Register.{Source, year_of, source_count, register_tests, encode}
use Rattle.meaning.specs.Report.{report_bytes, report_length}
use Rattle.meaning.specs.Calls.{combined}
use Rattle.meaning.specs.Examples.{boiler, cards}
use Rattle.meaning.proofs.Opened.{opened}
use Rattle.demands.specs.Trees.{wrote}
use Rattle.demands.specs.Demand3.{Dealt, calculation}
use Rattle.demands.specs.Shown.{Shown, acid, many, zeros, lent, whole}
use Rattle.demands.specs.Algebra.{refusal}
use Rattle.demands.proofs.TooMany.{too_many_lem, length-many, many_make_lem, many-apart}
use Rattle.demands.proofs.Registers.{passed}
use Rattle.meaning.proofs.Reports.{formed}
use Rattle.demands.proofs.WellFormed.{reportable}
use Rattle.demands.proofs.Laid.{laid-encodable}
use Rattle.demands.proofs.Names.{not-refused}

-- no element of a list is 256 or more
all-bytes : (bs : List ℕ) → any (leb 256) bs ≡ false → Bytes bs
unfolding any
all-bytes [] e i = omega arith
all-bytes (b ∷ bs) e zero = leb-false 256 b (or_false (leb 256 b) (any (leb 256) bs) e).0
all-bytes (b ∷ bs) e (suc i) = all-bytes bs (or_false (leb 256 b) (any (leb 256) bs) e).1 i

-- a register of 2023 that is made of bytes and passes 1 to 4 is dealt right, with room
deal : (ss : List Source) → any (leb 256) (encode 2023 ss) ≡ false → first_refusal (register_tests (encode 2023 ss)) ≡ Passes → year_of (encode 2023 ss) ≡ 2023
    → report_length (source_count (encode 2023 ss)) ≤ length zeros → Dealt 2023 (lent ss)
deal ss b e y r = record { bytes = all-bytes (encode 2023 ss) b; laid = (passed (encode 2023 ss) e).laid; same_year = y; room = r }

too_many-numbers : (combined (report_bytes 2023 (many 1 256)) (report_bytes 2023 (many 257 257)) []).answer ≡ refusal 12 513
too_many-numbers =
    let one = length-many 1 256 in
    let other = length-many 257 257 in
    rw (one, other) at
    (too_many_lem 2023 (many 1 256) (many 257 257) (many_make_lem 1 256 (omega arith) (omega arith) (omega arith)) (many_make_lem 257 257 (omega arith) (omega arith) (omega arith)) (many-apart 1 256 257)
    (omega arith) [])

pub shown : Shown
unfolding opened cards
shown =
    record {
      bytes = (
        all-bytes whole.register refl,
        (all-bytes (encode 2023 (acid ∷ boiler 8 ∷ [])) refl, (all-bytes (encode 2023 []) refl, (all-bytes (encode 2023 (boiler 7 ∷ [])) refl, tt))),
      );
      accepted = refl;
      dealt =
          (deal (acid ∷ boiler 8 ∷ []) refl refl refl (omega arith), (deal [] refl refl refl (omega arith), (deal (boiler 7 ∷ []) refl refl refl (omega arith), tt)));
      sources = ∣ Permᴰ.trans (Permᴰ.swap refl refl) (Permᴰ.cons refl (Permᴰ.swap refl refl)) ∣₁;
      reports = ∣ Permᴰ.trans (Permᴰ.cons refl (Permᴰ.swap refl refl)) (Permᴰ.swap refl refl) ∣₁;
      room = omega arith;
      combines = refl;
      formed = record { bytes = all-bytes (wrote (calculation whole)) refl; formed = refl };
      entries = refl;
      twice = refl;
      encodable = laid-encodable whole.register (all-bytes whole.register refl) (passed whole.register refl).laid;
      reportable = reportable (wrote (calculation whole)) (all-bytes (wrote (calculation whole)) refl) (formed (wrote (calculation whole)) refl);
      unrefused = not-refused whole.register refl;
      there = (omega arith, refl);
      comes_back = refl;
      left = refl;
      right = refl;
      half = omega arith;
      first_order = refl;
      other_order = refl;
      first_grouping = refl;
      other_grouping = refl;
      too_many = too_many-numbers;
      many_make = (many_make_lem 1 256 (omega arith) (omega arith) (omega arith), many_make_lem 257 257 (omega arith) (omega arith) (omega arith));
      of_plant = refl;
      of_contractor = refl;
      zero = refl;
      stocked = refl;
      consumed = refl;
      burnt = refl;
      below_zero = refl;
    }
