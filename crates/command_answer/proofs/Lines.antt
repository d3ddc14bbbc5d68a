-- The lines of an acceptance and of a refusal as they are written. Assumes nothing.
use mathlib.Core.List.{List, [], ◌∷◌, ◌++◌, append_assoc}
use mathlib.Core.Path.{◌≡◌, refl, ap}
use Prim.Native.Nat.{ℕ, ◌+◌, ◌≤◌}
use native.Mathlib.Omega.{arith}
use mir.Syntax.{w32, w64}
use mir.Val.{Fits}
use lib.ListN.{length, length-append}
use Rattle.basis.specs.Bytes.{ascii, Written}
use Rattle.basis.proofs.Bytes.{written_then, length-written}
use Rattle.meaning.specs.Text.{decimal, text_line, refused_line, accepted_line}
use Rattle.decimal_write.specs.Digits.{field, Placed, Fronted}
use Rattle.decimal_write.proofs.Counts.{twenty_digits}
use Rattle.decimal_write.proofs.Fields.{length-field, fronted}

-- the line of an acceptance: its word, its length
module _ (n : ℕ) {xs ys : List ℕ} (p : Fits w64 n) (e : length xs ≡ 50) (w : Written xs 0 (ascii "accepted ") ys) where
  pub accepted-room : 9 + (length (decimal n) + 1) ≤ length ys
  accepted-room = omega (arith, twenty_digits n p, length-written w)

  pub accepted_put : {zs : List ℕ} {r : ℕ} → Placed ys 9 (field n 10) zs r → Fronted xs (accepted_line n) zs r
  unfolding accepted_line text_line field
  accepted_put g = fronted (written_then w g.written refl) (omega (arith, g.ends))

pub ruleset accepting = (accepted-room, accepted_put)

-- the line of a refusal: its word, its number, its place
module _ (number place : ℕ) {xs ys : List ℕ} (n : Fits w32 number) (p : Fits w64 place) (e : 50 ≤ length xs) (w : Written xs 0 (ascii "refused ") ys) where
  number_fits : Fits w64 number
  number_fits = record { fits = omega (arith, n.fits) }

  pub number-room : 8 + (length (decimal number) + 1) ≤ length ys
  number-room = omega (arith, twenty_digits number number_fits, length-written w)

  module _ {zs : List ℕ} {at : ℕ} (f : Placed ys 8 (field number 32) zs at) where
    pub place-room : at + (length (decimal place) + 1) ≤ length zs
    place-room =
        omega (arith, twenty_digits number number_fits, twenty_digits place p, length-field number 32, f.ends, length-written w, length-written f.written)

    refusal-parts : ascii "refused " ++ (field number 32 ++ field place 10) ≡ refused_line number place
    unfolding refused_line text_line field
    refusal-parts = rw (append_assoc (decimal number) (32 ∷ []) (decimal place ++ (10 ∷ [])))

    pub refusal_put : {us : List ℕ} {r : ℕ} → Placed zs at (field place 10) us r → Fronted xs (refused_line number place) us r
    refusal_put {us} {r} g =
        let v : Written xs 0 (refused_line number place) us = rw refusal-parts at (written_then w (written_then f.written g.written f.ends) refl) in
        let c : r ≡ length (refused_line number place) =
        omega (arith, f.ends, g.ends, ap length refusal-parts, length-append (field number 32) (field place 10)) in
        fronted v c

pub ruleset refusing = (number-room, place-room, refusal_put)
