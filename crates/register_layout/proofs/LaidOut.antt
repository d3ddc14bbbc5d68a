-- Tests 1 to 3, and what a register that passes them keeps. Assumes nothing.
use mathlib.Core.Bool.{false}
use mathlib.Core.List.{List, [], ◌∷◌}
use mathlib.Core.Path.{◌≡◌, sym, ◌∙◌}
use Prim.Native.Nat.{ℕ, ◌<◌}
use Rattle.basis.specs.Answers.{Verdict, Passes, first_refusal}
use Rattle.basis.proofs.Answers.{each-passes, passed_append, passed-at-all}
use Rattle.meaning.specs.Register.{source_count, length_test, header_tests, wrong_source, source_test, rest_test}
use Rattle.register_header.specs.Header.{Headed}
use Rattle.register_header.proofs.Headed.{headed}
use Rattle.register_layout.specs.Layout.{layout_tests}

module _ (b : List ℕ) where
  module _ {v : Verdict} (e : v ≡ first_refusal (layout_tests b)) where
    pub layout_headed : v ≡ Passes → Headed b
    unfolding layout_tests
    layout_headed f =
        let front = (passed_append (length_test b ∷ header_tests b) (source_test b ∷ rest_test b ∷ []) (sym e ∙ f)).0 in
        headed b (passed_append (length_test b ∷ []) (header_tests b) front).1

    pub layout-right : v ≡ Passes → (i : ℕ) → i < source_count b → wrong_source b i ≡ false
    unfolding layout_tests source_test
    layout-right f =
        let back = (passed_append (length_test b ∷ header_tests b) (source_test b ∷ rest_test b ∷ []) (sym e ∙ f)).1 in
        (passed-at-all 3 (wrong_source b) (source_count b)).0 (each-passes (source_test b ∷ rest_test b ∷ []) back).0
