-- A call that writes what it makes: what it answers and leaves where a test refuses, where there is no room, and where it accepts. Assumes nothing.
use Rattle.std.specs.Prelude.{Result, Ok, Err, IsErrAnd}
use mathlib.Core.List.{List, [], ◌∷◌, ◌++◌}
use mathlib.Core.Path.{◌≡◌, refl, ◌∙◌}
use Prim.Native.Nat.{ℕ, ◌≤◌}
use native.Mathlib.Omega.{arith}
use borrow.Author.Tests.{le-ltb}
use lib.Dec.{ltb}
use lib.ListN.{length}
use Rattle.basis.specs.declared.Refusal.{Refusal}
use Rattle.basis.specs.Answers.{Verdict, Passes, refuse_if, first_refusal, answered, settled, Gives}
use Rattle.basis.specs.Bytes.{Written}
use Rattle.basis.proofs.Answers.{passed_then, refused_then, each-passes, passed_append, passed_up, room-there}
use Rattle.meaning.specs.Calls.{room_test, written}

module _ (tests : List Verdict) (made buffer : List ℕ) where
  -- "A refusal has length 0 and writes nothing"
  pub refused-gives : {v : Verdict} {refusal : Refusal} (w : Result ℕ Refusal) → first_refusal tests ≡ v → v ≡ Err refusal → IsErrAnd w (λ r. r ≡ refusal)
      → Gives (written tests made buffer) (answered w) buffer
  unfolding written settled
  refused-gives {refusal = refusal} w e t h =
      let f = refused_then tests (room_test made buffer ∷ []) {n = refusal.number} {p = refusal.place} (e ∙ t) in
      record { answers = rw (passed_up w h, f) refl; leaves = rw f }

  -- where all tests pass, there is room for what is made
  pub room-passed : first_refusal (tests ++ (room_test made buffer ∷ [])) ≡ Passes → length made ≤ length buffer
  room-passed e = room-there (length buffer) (length made) refl (each-passes (room_test made buffer ∷ []) (passed_append tests (room_test made buffer ∷ []) e).1).0

  -- the other tests have passed, and the room is asked
  module _ (e : first_refusal tests ≡ Passes) {needed : ℕ} (g : length made ≡ needed) where
    -- "8 | report buffer too short | length needed"
    pub short-gives : {v : Verdict} {refusal : Refusal} (w : Result ℕ Refusal) → v ≡ refuse_if (ltb (length buffer) needed) 8 needed → v ≡ Err refusal
        → IsErrAnd w (λ r. r ≡ refusal) → Gives (written tests made buffer) (answered w) buffer
    unfolding written settled first_refusal
    short-gives {v} w r t h =
        let f : first_refusal (tests ++ (room_test made buffer ∷ [])) ≡ v = passed_then tests (room_test made buffer ∷ []) e ∙ rw (g, ← r, t) in
        record { answers = rw (passed_up w h, f, t) refl; leaves = rw (f, t) }

    -- "Acceptance is 0, place 0 and the report's length; bytes after that length stay"
    pub made-gives : {left : List ℕ} → Written buffer 0 made left → Gives (written tests made buffer) (answered (Ok needed)) left
    unfolding written settled first_refusal
    made-gives w =
        let f = passed_then tests (room_test made buffer ∷ []) e in
        let s = le-ltb (length buffer) (length made) (omega (arith, w.fits)) in
        record { answers = rw (f, s, g) refl; leaves = w.is ∙ rw (f, s) }
