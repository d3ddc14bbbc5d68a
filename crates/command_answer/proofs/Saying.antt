-- What a call leaves at the front of its buffer, and what a program says of it. Assumes nothing.
use Rattle.std.specs.Prelude.{Err, Ok}
use mathlib.Core.List.{List, [], ◌∷◌, ◌++◌}
use mathlib.Core.Path.{◌≡◌, refl, sym, ap, ◌∙◌}
use Prim.Native.Nat.{ℕ, ◌≤◌}
use native.Mathlib.Omega.{arith}
use lib.ListN.{length, take}
use Rattle.basis.specs.declared.Answer.{Answer}
use Rattle.basis.specs.Answers.{Verdict, Passes, Refuses, first_refusal, settled, Gives}
use Rattle.basis.specs.Bytes.{splice, Written}
use Rattle.basis.proofs.Bytes.{splice-none}
use Rattle.meaning.specs.Text.{refused_line}
use Rattle.meaning.specs.Calls.{room_test, written, form_test, text}
use Rattle.meaning.specs.Programs.{said, text_output}
use Rattle.meaning.proofs.Calls.{room-passed}
use Rattle.meaning.proofs.Programs.{said-made, said-refused}
use Rattle.decimal_write.specs.Digits.{Fronted}
use Rattle.decimal_write.proofs.Fields.{front-is, fronted}
use Rattle.report_text.specs.Rows.{text_of}

settled-front : (v : Verdict) (made buffer : List ℕ) {a : Answer} {left : List ℕ} → (v ≡ Passes → length made ≤ length buffer)
    → Gives (settled v made buffer) a left → Fronted buffer (take a.length left) left a.length
unfolding settled
settled-front (Ok done) made buffer h g =
    let w : Written buffer 0 made (splice buffer 0 made) = record { fits = omega (arith, h refl); is = refl } in
    rw (g.answers, g.leaves) (rw (front-is w refl) (fronted w refl))
settled-front (Err refusal) made buffer h g =
    let w : Written buffer 0 [] buffer = record { fits = omega arith; is = sym (splice-none buffer 0) } in
    rw (g.answers, g.leaves) (fronted w refl)

settled-kept : (v : Verdict) (made buffer : List ℕ) {a : Answer} {left : List ℕ} → Gives (settled v made buffer) a left → (a.number ≡ 0 → ⊥) → left ≡ buffer
unfolding settled
settled-kept (Ok done) made buffer g f = absurd (f (ap (λ (a : Answer). a.number) g.answers))
settled-kept (Err refusal) made buffer g f = g.leaves

-- a call's buffer: what it made stands at the front, and a refusal leaves all as it was
module _ (tests : List Verdict) (made buffer : List ℕ) {a : Answer} {left : List ℕ} (g : Gives (written tests made buffer) a left) where
  pub written-front : Fronted buffer (take a.length left) left a.length
  unfolding written
  written-front = settled-front (first_refusal (tests ++ (room_test made buffer ∷ []))) made buffer (room-passed tests made buffer) g

  written-kept : (a.number ≡ 0 → ⊥) → left ≡ buffer
  unfolding written
  written-kept f = settled-kept (first_refusal (tests ++ (room_test made buffer ∷ []))) made buffer g f

module _ (report room : List ℕ) {a : Answer} {left : List ℕ} (g : Gives (text report room) a left) where
  text-is : text_output report room ≡ said a (take a.length left)
  unfolding text_output
  text-is = rw (← g.answers, ← g.leaves)

  text-front : Fronted room (take a.length left) left a.length
  unfolding text
  text-front = written-front (form_test report 1 ∷ []) (text_of report) room g

  pub text-made : a.number ≡ 0 → Fronted room (text_output report room) left a.length
  text-made e = rw (text-is ∙ said-made a (take a.length left) e) text-front

  module _ (f : a.number ≡ 0 → ⊥) where
    text-kept : left ≡ room
    unfolding text
    text-kept = written-kept (form_test report 1 ∷ []) (text_of report) room g f

    pub text-refused : {zs : List ℕ} {n : ℕ} → Fronted left (refused_line a.number a.place) zs n → Fronted room (text_output report room) zs n
    text-refused w = rw (text-is ∙ said-refused a (take a.length left) f, ← text-kept) w
