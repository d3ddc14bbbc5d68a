-- A register that tests 1 to 4 accept, from all of them at once or from 1 to 3 and then 4. Assumes nothing.
use Rattle.std.specs.Prelude.{Err}
use mathlib.Core.Bool.{Bool, false}
use mathlib.Core.List.{List, []}
use mathlib.Core.Logic.{◌≢◌}
use mathlib.Core.Path.{◌≡◌, refl, sym, ap, ◌∙◌}
use Prim.Native.Nat.{ℕ, ◌<◌}
use native.Mathlib.Omega.{arith}
use lib.ListN.{length, get_or}
use Rattle.basis.specs.Answers.{Verdict, Passes, first_refusal, passes}
use Rattle.basis.proofs.Answers.{refused-is}
use Rattle.basis.proofs.Bools.{or_false}
use Rattle.hash_repeats.specs.Repeats.{Nonzero}
use Rattle.meaning.specs.Register.{source_count, source_entry, number_in, source_at, misplaced, unsound, wrong_source, sources_of, repeat_test}
use Rattle.meaning.specs.Calls.{accepted}
use Rattle.meaning.proofs.Sources.{length-numbers, number-at, sound_parts}
use Rattle.register_layout.specs.Layout.{layout_tests}
use Rattle.register_order.specs.Keys.{Tested}
use Rattle.register_layout.proofs.LaidOut.{layout-right}
use Rattle.register_order.proofs.Tested.{layout-refused, layout-passed}
use Rattle.register_accept.specs.Numbers.{numbers_of}

pub accepted-is : {b keys left : List ℕ} {v : Verdict} {ok : Bool} → Tested b keys v left → ok ≡ passes v → ok ≡ accepted b
unfolding accepted
accepted-is t e = e ∙ ap passes t.verdict

-- the same from tests 1 to 3 and whether test 4 passes
module _ (b : List ℕ) {v : Verdict} (e : v ≡ first_refusal (layout_tests b)) where
  pub accepts_none : passes v ≡ false → false ≡ accepted b
  accepts_none f = let r = refused-is v f in accepted-is (layout-refused b e {keys = []} {w = Err r.0} r.1 refl) refl

  -- test 3 refuses a source whose number is 0
  pub layout_nonzero : v ≡ Passes → Nonzero (numbers_of b)
  unfolding wrong_source source_at
  layout_nonzero f = record { some = some }
    where
      some : (i : ℕ) → i < length (numbers_of b) → get_or (numbers_of b) i 0 ≢ 0
      some i l g =
          let m : i < source_count b = omega (arith, length-numbers b) in
          let s = (or_false (misplaced b i) (unsound (source_at b i)) (layout-right b e f i m)).1 in
          let n : 0 < number_in (source_entry b i) = (sound_parts (source_at b i) s).number in
          omega (arith, sym (number-at b i m) ∙ g)

  pub accepts_last : {ok : Bool} → v ≡ Passes → ok ≡ passes (repeat_test (sources_of b)) → ok ≡ accepted b
  accepts_last f g = accepted-is (layout-passed b e {keys = []} f (record { verdict = refl; order = refl })) g
