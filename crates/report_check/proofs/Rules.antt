-- The rules of an entry: what is wrong with its front and with its equivalent, by what was read from it. Assumes nothing.
use mathlib.Core.Bool.{Bool, true, false, not, ◌||◌}
use mathlib.Core.List.{List}
use mathlib.Core.Path.{◌≡◌, sym, ◌∙◌}
use Prim.Native.Nat.{ℕ, zero, suc, ◌+◌, ◌*◌, ◌≤◌, ◌<◌}
use native.Mathlib.Nat.{add_assoc, add-zero}
use native.Mathlib.Omega.{arith}
use borrow.Author.Tests.{lt-ltb, le-ltb, lt-leb, le-leb, ne_eqb, not-true, not-false}
use lib.Dec.{eqb, ltb, leb}
use lib.ListN.{drop}
use Rattle.basis.specs.Bytes.{number_at}
use Rattle.basis.proofs.Bytes.{number_at-parts}
use Rattle.basis.proofs.Bools.{or_true, or_none, or_assoc}
use Rattle.meaning.specs.Methods.{within}
use Rattle.meaning.specs.Masses.{gas_count, equivalent, limit}
use Rattle.meaning.specs.Report.{entries_at, entry_length, entry_at, figure_in, entry_in, number_before, wrong_entry}
use Rattle.fields.specs.Fields.{Field}
use Rattle.fields.proofs.Laws.{field_behind}
use Rattle.mass_exact.specs.Equivalents.{within_limit}
use Rattle.mass_exact.proofs.Equivalents.{some-within, none-above}
use Rattle.std.specs.Prelude.{Option, Some, None}
use Rattle.report_read.specs.Figures.{figures_at}
use Rattle.report_read.proofs.Entries.{figures-drop}
use Rattle.report_check.specs.Rules.{wrong_equivalent}

pub masses_read : (b : List ℕ) (at : ℕ) {ms : List ℕ} → ms ≡ figures_at gas_count b (at + 8) → ms ≡ (entry_in (drop at b)).masses
unfolding figures_at entry_in
masses_read b at e = e ∙ figures-drop gas_count b at 8

module _ (b : List ℕ) (at : ℕ) {ms : List ℕ} {w : Option ℕ} (m : ms ≡ (entry_in (drop at b)).masses) (v : w ≡ within_limit ms) where
  -- above the limit it is wrong, whatever is stated
  pub wrong-above : w ≡ None → true ≡ wrong_equivalent (drop at b)
  unfolding wrong_equivalent
  wrong-above e =
      let l : limit < equivalent ms = none-above ms (sym v ∙ e) in
      rw (← m, lt-ltb limit (equivalent ms) l) (sym (or_true (not (eqb (figure_in (drop at b) gas_count) (equivalent ms)))))

  -- within it, the stated one decides
  pub wrong-stated : {right stated : ℕ} → w ≡ Some right → Field 8 b (at + 8 + 8 * gas_count) stated → not (eqb stated right) ≡ wrong_equivalent (drop at b)
  unfolding wrong_equivalent
  wrong-stated {right} {stated} e f =
      let h = some-within ms (sym v ∙ e) in
      let s : stated ≡ figure_in (drop at b) gas_count = (field_behind at (8 + 8 * gas_count) (rw add_assoc at f)).is in
      rw (← m, ← s, ← h.1, le-ltb limit right h.0) (sym (or_none (not (eqb stated right))))

-- a method and what stands behind it are a method only where that is zeros
method_alone : (m z : ℕ) → not (within 1 6 (m + 256 * z)) ≡ not (within 1 6 m) || not (eqb z 0)
method_alone m zero = rw (add-zero m) (sym (or_none (not (within 1 6 m))))
method_alone m (suc z) =
    let low : 1 ≤ m + 256 * suc z = omega arith in
    let high : 6 < m + 256 * suc z = omega arith in
    rw (le-leb 1 (m + 256 * suc z) low, lt-leb (m + 256 * suc z) 6 high, ne_eqb (suc z) 0 (λ e. omega arith)) (sym (or_true (not (within 1 6 m))))

-- an entry's number, with the one before it, or its method breaks a rule
abbrev front_wrong : ℕ → ℕ → ℕ → Bool
front_wrong number before method = leb number before || not (within 1 6 method)

-- entry i, by the fields that were read and by its equivalent
module _ (b : List ℕ) (i : ℕ) {before number method : ℕ} (e : before ≡ number_before b i)
    (n : Field 4 b (entries_at + entry_length * i) number) (m : Field 4 b (entries_at + entry_length * i + 4) method) where
  judged : front_wrong number before method || wrong_equivalent (entry_at b i) ≡ wrong_entry b i
  unfolding wrong_entry wrong_equivalent entry_in
  judged =
      let r = entry_at b i in
      let at = entries_at + entry_length * i in
      let p : number_at 4 r 0 ≡ number = sym (field_behind at 0 (rw (add-zero at) n)).is in
      let q : method ≡ number_at 1 r 4 + 256 * number_at 3 r 5 = (field_behind at 4 m).is ∙ number_at-parts 1 3 r 4 in
      let wrong = leb number before in
      let other = not (within 1 6 (number_at 1 r 4)) in
      let filled = not (eqb (number_at 3 r 5) 0) in
      rw (p, q, method_alone (number_at 1 r 4) (number_at 3 r 5), ← e, ← or_assoc wrong other filled)
      (sym (or_assoc (wrong || other || filled) (not (eqb (figure_in r gas_count) (equivalent (entry_in r).masses))) (ltb limit (equivalent (entry_in r).masses))))

  -- where those break a rule it is wrong, and else its equivalent decides
  pub front-wrong : not (front_wrong number before method) ≡ false → true ≡ wrong_entry b i
  front-wrong t = rw (not-false (front_wrong number before method) t) at judged

  pub front-right : {unequal : Bool} → not (front_wrong number before method) ≡ true → unequal ≡ wrong_equivalent (entry_at b i) → unequal ≡ wrong_entry b i
  front-right t u = u ∙ rw (not-true (front_wrong number before method) t) at judged
