-- What may be replaced and where a link leads, in laws. Assumes nothing.
use Rattle.std.proofs.Common.{◌≡◌, ◌≢◌, refl, sym, ◌∙◌, ℕ, zero, suc, ◌+◌, ◌-◌, ◌≤◌, ◌<◌, zero-add, Bool, true, false, cond, List, length, get_or, take, length-append, arith}
use Rattle.std.proofs.lemmas.Bool.{eq-eqb, ne_eqb}
use Rattle.std.proofs.lemmas.List.{get_or-take}
use native.Mathlib.Decide.{ℕ_discrete}
use lib.ListN.{take-append-drop}
use lib.Seq.{length-take-le}
use Rattle.basis.specs.Bytes.{splice, Written}
use Rattle.basis.proofs.Bytes.{written_then}
use Rattle.decimal_write.specs.Digits.{Fronted}
use Rattle.decimal_write.proofs.Fields.{fronted}
use Rattle.command_files.specs.Places.{is_slash, folder_length, text_at, led_to}

slash_here : (room : List ℕ) (n : ℕ) → is_slash room n ≡ true → folder_length room (suc n) ≡ suc n
unfolding folder_length
slash_here room n e = rw e

slash_before : (room : List ℕ) (n : ℕ) → is_slash room n ≡ false → folder_length room (suc n) ≡ folder_length room n
unfolding folder_length
slash_before room n e = rw e

-- a slash with none behind it ends the folder
pub folder_found : (path : List ℕ) (n end : ℕ) → end ≤ n → (0 < end → get_or path (end - 1) 0 ≡ 47) → ((k : ℕ) → end ≤ k → k < n → get_or path k 0 ≢ 47)
    → end ≡ folder_length path n
unfolding folder_length
folder_found path zero end l here behind = omega arith
folder_found path (suc n) end l here behind = by (ℕ_discrete end (suc n)) (λ m. folder_found path n end m here (λ k p q. behind k p (omega arith)))
  where
    by : Dec (end ≡ suc n) → (end ≤ n → end ≡ folder_length path n) → end ≡ folder_length path (suc n)
    by (yes e) shorter = let last : end - 1 ≡ n = omega arith in e ∙ sym (slash_here path n (eq-eqb (get_or path n 0) 47 (rw last at (here (omega arith)))))
    by (no f) shorter = shorter (omega arith) ∙ sym (slash_before path n (ne_eqb (get_or path n 0) 47 (behind n (omega arith) (omega arith))))

-- a path is the front of its room
folder_front : (room : List ℕ) (n k : ℕ) → k ≤ n → folder_length (take n room) k ≡ folder_length room k
unfolding folder_length
folder_front room n zero l = refl
folder_front room n (suc k) l = rw (get_or-take n room k 0 (omega arith), folder_front room n k (omega arith)) refl

pub text_front : (text room : List ℕ) (n : ℕ) → n ≤ length room → text_at text (take n room) (length (take n room)) ≡ text_at text room n
unfolding text_at
text_front text room n l = rw (length-take-le n room l, folder_front room n n (omega arith)) refl

either_fits : (b : Bool) {x y m : ℕ} → x ≤ m → y ≤ m → cond b x y ≤ m
either_fits true l k = l
either_fits false l k = k

folder_fits : (room : List ℕ) (n : ℕ) → folder_length room n ≤ n
unfolding folder_length
folder_fits room zero = omega arith
folder_fits room (suc n) = either_fits (is_slash room n) (omega arith) (omega (arith, folder_fits room n))

text-fits : (text room : List ℕ) (n : ℕ) → text_at text room n ≤ n
unfolding text_at
text-fits text room n = either_fits (is_slash text 0) (omega arith) (folder_fits room n)

-- what stands before a place may be taken for written there
kept : (room : List ℕ) (at : ℕ) → at ≤ length room → Written room 0 (take at room) room
unfolding splice
kept room at l =
    let e = length-take-le at room l in
    record { fits = omega (arith, e); is = rw (e, zero-add at) (sym (take-append-drop at room)) }

module _ (text room : List ℕ) (n : ℕ) {at : ℕ} (e : at ≡ text_at text room n) (l : n ≤ length room) where
  pub text-within : at ≤ length room
  text-within = omega (arith, text-fits text room n)

  led_length : length (led_to text room n) ≡ at + length text
  unfolding led_to
  led_length = rw (sym e) (omega (arith, length-append (take at room) text, length-take-le at room text-within))

  pub led_past : length room - at ≤ length text → length room ≤ length (led_to text room n)
  led_past p = omega (arith, led_length, text-within)

  pub led_fits : length text < length room - at → length (led_to text room n) < length room
  led_fits p = omega (arith, led_length, text-within)

  led_written : {after : List ℕ} → Written room at text after → Written room 0 (led_to text room n) after
  unfolding led_to
  led_written w = rw (sym e) (written_then (kept room at text-within) w (omega (arith, length-take-le at room text-within)))

  pub led_put : {after : List ℕ} → Written room at text after → Fronted room (led_to text room n) after (at + length text)
  led_put w = fronted (led_written w) (sym led_length)
