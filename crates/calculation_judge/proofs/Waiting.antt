-- The first fault waits, and is what tests 6 and 7 answer. Assumes nothing.
use Rattle.std.specs.Prelude.{Ok, Err, IsErrAnd}
use mathlib.Core.Bool.{Bool, true, false}
use mathlib.Core.List.{List, [], ◌∷◌, map}
use mathlib.Core.Path.{◌≡◌, refl, sym, ap, ◌∙◌}
use Prim.Native.Nat.{ℕ, suc, ◌+◌}
use native.Mathlib.Nat.{add-zero, zero-add}
use native.Mathlib.Omega.{arith}
use borrow.Author.Tests.{ne_eqb, lt-ltb, le-ltb}
use lib.Dec.{eqb, ltb}
use lib.ListN.{length, get_or, drop}
use lib.Seq.{drop-drop, get_or-drop}
use Rattle.basis.specs.declared.Refusal.{Refusal}
use Rattle.basis.proofs.Answers.{passed_up}
use Rattle.basis.specs.Answers.{Verdict, Passes, Refuses, refuse_if}
use Rattle.basis.specs.First.{scan, first}
use Rattle.meaning.specs.Register.{Source}
use Rattle.meaning.specs.Calls.{mass_fault, fault_at, mass_test}
use Rattle.mass_source.specs.declared.Fault.{Fault}
use Rattle.mass_source.specs.declared.Fault.TheVariants.{BelowZero, AboveLimit}
use Rattle.mass_source.specs.Source.{number_of}
use Rattle.calculation_judge.specs.Sources.{waited}

-- no fault has number 0
pub some_fault : (fault : Fault) → number_of fault ≡ 0 → ⊥
some_fault BelowZero e = omega arith
some_fault AboveLimit e = omega arith

-- no fault passes where none waits, and one that waits stays
pub waited-passes : {w : Verdict} {done : Unit {0}} (i : ℕ) → w ≡ Ok done → Passes ≡ waited w 0 i
unfolding waited
waited-passes i e = rw e

pub waited-first : {w : Verdict} {done : Unit {0}} (fault i : ℕ) → w ≡ Ok done → (fault ≡ 0 → ⊥) → Refuses fault i ≡ waited w fault i
unfolding waited
waited-first fault i e f = rw (e, ne_eqb fault 0 f)

pub waited-later : {w v : Verdict} {refusal : Refusal} (fault i : ℕ) → w ≡ Err refusal → IsErrAnd v (λ r. r ≡ refusal) → v ≡ waited w fault i
unfolding waited
waited-later {v = v} fault i e u = passed_up v u ∙ rw e

-- faults one behind another, from an index on
unfoldable pub waited_from : ℕ → List ℕ → Verdict → Verdict
waited_from i [] w = w
waited_from i (f ∷ fs) w = waited_from (i + 1) fs (waited w f i)

-- a fault that waits stays
stays : (i : ℕ) (fs : List ℕ) (n p : ℕ) → waited_from i fs (Refuses n p) ≡ Refuses n p
unfolding waited_from waited
stays i [] n p = refl
stays i (f ∷ fs) n p = stays (i + 1) fs n p

-- what is found from an index on is the first fault there
found_from : (faults fs : List ℕ) (i : ℕ) → drop i faults ≡ fs
    → let j = scan (fault_at faults) i (length fs) in waited_from i fs Passes ≡ refuse_if (ltb j (i + length fs)) (get_or faults j 0) j
unfolding waited_from waited scan fault_at
found_from faults [] i e = rw (le-ltb i (i + 0) (omega arith))
found_from faults (f ∷ fs) i e =
    let now : get_or faults i 0 ≡ f = ap (λ (k : ℕ). get_or faults k 0) (sym (add-zero i)) ∙ sym (get_or-drop i faults 0 0) ∙ ap (λ (l : List ℕ). get_or l 0 0) e in
    let next : drop (i + 1) faults ≡ fs = sym (drop-drop 1 i faults) ∙ ap (drop 1) e in
    let q : i + 1 + length fs ≡ i + suc (length fs) = omega arith in
    by now (eqb f 0) refl (rw q at (found_from faults fs (i + 1) next))
  where
    by : get_or faults i 0 ≡ f → (c : Bool) → eqb f 0 ≡ c
        → (let j = scan (fault_at faults) (i + 1) (length fs) in waited_from (i + 1) fs Passes ≡ refuse_if (ltb j (i + suc (length fs))) (get_or faults j 0) j)
        → let j = scan (fault_at faults) i (suc (length fs)) in waited_from (i + 1) fs (waited Passes f i) ≡ refuse_if (ltb j (i + suc (length fs))) (get_or faults j 0) j
    by now true h later = rw (now, h) later
    by now false h later = rw (now, h, now, lt-ltb i (i + suc (length fs)) (omega arith)) (stays (i + 1) fs f i)

-- tests 6 and 7 over all sources
pub mass_test_lem : (ss : List Source) → mass_test ss ≡ waited_from 0 (map mass_fault ss) Passes
unfolding mass_test first
mass_test_lem ss =
    let faults = map mass_fault ss in
    sym (rw (zero-add (length faults)) at (found_from faults faults 0 refl))
