-- The figures of the statements are those of the meaning. Assumes nothing.
use mathlib.Core.Bool.{false, not}
use mathlib.Core.List.{List, [], ◌∷◌}
use mathlib.Core.Path.{◌≡◌, refl, sym, ap, ◌∙◌}
use Prim.Native.Nat.{ℕ, zero, suc, ◌+◌, ◌*◌}
use native.Mathlib.Omega.{arith}
use lib.ListN.{length, get_or}
use borrow.Author.Tests.{le-ltb, eq-eqb}
use Rattle.basis.proofs.Bools.{false_or}
use Rattle.meaning.specs.Masses.{weighed, equivalent}
use Rattle.meaning.specs.Register.{line_start, name_start, misplaced}
use Rattle.meaning.specs.Report.{Entry}
use Rattle.meaning.proofs.Sources.{Placed as Standing}
use Rattle.demands.specs.Fields.{lines_before, names_before}
use Rattle.demands.specs.Valid.{equivalent_of, Placed}

-- three masses, by index and weighed
pub three_masses : (ms : List ℕ) → length ms ≡ 3 → (get_or ms 0 0 ∷ get_or ms 1 0 ∷ get_or ms 2 0 ∷ []) ≡ ms
three_masses [] e = absurd (omega arith)
three_masses (x ∷ []) e = absurd (omega arith)
three_masses (x ∷ y ∷ []) e = absurd (omega arith)
three_masses (x ∷ y ∷ z ∷ []) e = refl
three_masses (x ∷ y ∷ z ∷ u ∷ ms) e = absurd (omega arith)

pub weighed_three : (ms : List ℕ) → length ms ≡ 3 → equivalent ms ≡ get_or ms 0 0 + 25 * get_or ms 1 0 + 298 * get_or ms 2 0
unfolding equivalent weighed
weighed_three ms e = ap equivalent (sym (three_masses ms e)) ∙ omega arith

pub equivalent-is : (e : Entry) → length e.masses ≡ 3 → equivalent e.masses ≡ equivalent_of e
equivalent-is e l = weighed_three e.masses l

pub lines_before_lem : (b : List ℕ) (i : ℕ) → line_start b i ≡ lines_before b i
unfolding line_start
lines_before_lem b zero = refl
lines_before_lem b (suc i) = refl

pub names_before_lem : (b : List ℕ) (i : ℕ) → name_start b i ≡ names_before b i
unfolding name_start
names_before_lem b zero = refl
names_before_lem b (suc i) = refl

-- where an entry stands, in the meaning's words and in figures
pub standing_placed : (b : List ℕ) (i : ℕ) → Standing b i → Placed b i
standing_placed b i p = record { line = p.line ∙ lines_before_lem b i; name = p.name ∙ names_before_lem b i; lines = p.lines; names = p.names }

pub placed_standing : (b : List ℕ) (i : ℕ) → Placed b i → Standing b i
placed_standing b i p = record { line = p.line ∙ sym (lines_before_lem b i); name = p.name ∙ sym (names_before_lem b i); lines = p.lines; names = p.names }

pub not-misplaced : (b : List ℕ) (i : ℕ) → Standing b i → misplaced b i ≡ false
unfolding misplaced
not-misplaced b i p =
    false_or _ _
    (false_or _ _ (false_or _ _ (ap not (eq-eqb _ _ p.line)) (ap not (eq-eqb _ _ p.name))) (le-ltb _ _ p.lines))
    (le-ltb _ _ p.names)
