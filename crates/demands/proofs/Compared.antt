-- A test that a number is the one laid down, that two are, that one is not above a limit: what it decides, and where it passes. Assumes nothing.
use mathlib.Core.Bool.{not, ◌||◌}
use mathlib.Core.List.{List}
use mathlib.Core.Logic.{◌⊎◌, inl, inr, ⊎_elim, ◌≢◌}
use mathlib.Core.Path.{◌≡◌, ap}
use Prim.Native.Nat.{ℕ, ◌≤◌, ◌<◌}
use lib.Dec.{eqb, ltb}
use lib.ListN.{length}
use borrow.Author.Tests.{ltb-true, eqb-true, eqb-false, lt-ltb, le-ltb, eq-eqb, not-true, not-false}
use Rattle.basis.specs.Answers.{Passes, refuse_if}
use Rattle.basis.proofs.Answers.{if_passed}
use Rattle.basis.proofs.Bools.{clash, or_false, false_or, or_either}
use Rattle.meaning.specs.Calls.{room_test}
use Rattle.demands.specs.Exactly.{at}
use Rattle.demands.proofs.Exactly.{Decides, decide_if}

pub decide_is : (a b number place : ℕ) → Decides (refuse_if (not (eqb a b)) number place) (at number place (a ≢ b))
decide_is a b number place =
    decide_if (not (eqb a b)) number place (a ≢ b) (λ e. eqb-false a b (not-true (eqb a b) e)) (λ e f. f (eqb-true a b (not-false (eqb a b) e)))

pub decide_above : (most a number place : ℕ) → Decides (refuse_if (ltb most a) number place) (at number place (most < a))
decide_above most a number place = decide_if (ltb most a) number place (most < a) (ltb-true most a) (λ e l. clash (lt-ltb most a l) e)

pub decide_either : (a b c d number place : ℕ) → Decides (refuse_if (not (eqb a b) || not (eqb c d)) number place) (at number place ((a ≢ b) ⊎ (c ≢ d)))
decide_either a b c d number place =
    decide_if (not (eqb a b) || not (eqb c d)) number place ((a ≢ b) ⊎ (c ≢ d))
    (λ e. ⊎_elim (λ h. inl (eqb-false a b (not-true (eqb a b) h))) (λ h. inr (eqb-false c d (not-true (eqb c d) h))) (or_either (not (eqb a b)) (not (eqb c d)) e))
    (λ e. let h = or_false (not (eqb a b)) (not (eqb c d)) e in
    ⊎_elim (λ f. f (eqb-true a b (not-false (eqb a b) h.0))) (λ f. f (eqb-true c d (not-false (eqb c d) h.1))))

pub equal_passes : (a b n p : ℕ) → a ≡ b → refuse_if (not (eqb a b)) n p ≡ Passes
equal_passes a b n p e = if_passed (not (eqb a b)) n p (ap not (eq-eqb a b e))

pub within-passes : (most a n p : ℕ) → a ≤ most → refuse_if (ltb most a) n p ≡ Passes
within-passes most a n p l = if_passed (ltb most a) n p (le-ltb most a l)

pub both_equal_pass : (a b c d n p : ℕ) → a ≡ b → c ≡ d → refuse_if (not (eqb a b) || not (eqb c d)) n p ≡ Passes
both_equal_pass a b c d n p e f =
    if_passed (not (eqb a b) || not (eqb c d)) n p (false_or (not (eqb a b)) (not (eqb c d)) (ap not (eq-eqb a b e)) (ap not (eq-eqb c d f)))

-- 8
pub room_decides : (made buffer : List ℕ) (n : ℕ) → length made ≡ n → Decides (room_test made buffer) (at 8 n (length buffer < n))
room_decides made buffer n e = rw e (decide_above (length buffer) n 8 n)

pub enough_room : (made buffer : List ℕ) → length made ≤ length buffer → room_test made buffer ≡ Passes
enough_room made buffer l = within-passes (length buffer) (length made) 8 (length made) l
