-- Amounts are ordered as their values, and no register leaves 64 bits. Assumes nothing.
use mathlib.Core.Bool.{Bool, true, false}
use mathlib.Core.Path.{◌≡◌, refl, sym, ap}
use Prim.Native.Nat.{ℕ, ◌+◌, ◌*◌, ◌/◌, ◌%◌, ◌≤◌, ◌<◌}
use native.Mathlib.Nat.{mul-le-mul, div-add-mod'}
use native.Mathlib.Omega.{arith}
use borrow.Author.Tests.{ltb-true, ltb-false, lt-ltb, le-ltb}
use lib.Dec.{ltb}
use mir.Syntax.{w64}
use mir.Val.{Fits}
use Rattle.meaning.specs.Register.{most_lines}
use Rattle.mass_exact.specs.declared.Amount.{Amount}
use Rattle.meaning.specs.Methods.{largest_content, most_quantity}
use Rattle.meaning.specs.Masses.{most_factor}
use Rattle.mass_exact.specs.Amounts.{word, value, nothing, Ranged, Room, Added, Subtracted}

-- two comparisons that hold and fail together are one
ltb-same : (a b c d : ℕ) → (a < b → c < d) → (b ≤ a → d ≤ c) → ltb a b ≡ ltb c d
ltb-same a b c d f g = by (ltb a b) refl
  where
    by : (t : Bool) → ltb a b ≡ t → t ≡ ltb c d
    by true e = sym (lt-ltb c d (f (ltb-true a b e)))
    by false e = sym (le-ltb c d (g (ltb-false a b e)))

-- equal high words are told apart by the low ones
pub below_in_low : (a b : Amount) → a.high ≡ b.high → ltb a.low b.low ≡ ltb (value a) (value b)
unfolding value
below_in_low a b e = ltb-same a.low b.low (value a) (value b) (λ h. omega arith) (λ h. omega arith)

-- and others by themselves
pub below_in_high : (a b : Amount) → a.low < word → b.low < word → (a.high ≡ b.high → ⊥) → ltb a.high b.high ≡ ltb (value a) (value b)
unfolding value
below_in_high a b p q e = ltb-same a.high b.high (value a) (value b) (λ h. omega arith) (λ h. omega arith)

pub value-nothing : value nothing ≡ 0
unfolding value
value-nothing = refl

-- the sums of a register begin with room for all the lines that it may have
pub room-first : Room most_lines nothing
room-first = record { low_fits = omega arith; high_fits = omega arith }

pub room_less : {lines fewer : ℕ} {a : Amount} → Room lines a → fewer ≤ lines → Room fewer a
room_less r h = record { low_fits = r.low_fits; high_fits = omega (arith, r.high_fits) }

-- a line takes one line's room
pub room_next : {lines fewer n : ℕ} {a s : Amount} → Room lines a → Added a n s → fewer < lines → Room fewer s
room_next r s h = record { low_fits = s.low_fits; high_fits = omega (arith, r.high_fits, s.high_fits) }

pub room-left : {lines : ℕ} {a b s : Amount} → Room lines a → Subtracted a b s → Room lines s
room-left r s = record { low_fits = s.low_fits; high_fits = omega (arith, r.high_fits, s.high_fits) }

-- what the largest register comes to, each of its lines with the largest numbers, stays in 64 bits
pub largest_register : (a : Amount) → a.low < word → value a ≤ most_lines * (most_quantity * largest_content * most_factor) → Room 0 a
unfolding value
largest_register a p e = record { low_fits = p; high_fits = omega arith }

-- a line's product that was parted into words before its last factor is the product still, and the low word that it meets is carried on
pub added_parted : {a : Amount} {q content factor p high low : ℕ} → Room 1 a → Ranged q content factor → p ≡ q * content → high ≡ p / word * factor
    → low ≡ p % word * factor → Added a (q * content * factor) (record { high = high + (low + a.low) / word + a.high; low = (low + a.low) % word })
unfolding value
added_parted {q = q} {content = content} {factor = factor} {p = p} o r e f g =
    let m = ap (λ (n : ℕ). n * factor) e in
    let d = ap (λ (n : ℕ). n * factor) (div-add-mod' p word) in
    let fits = mul-le-mul (mul-le-mul r.quantity-fits r.content-fits) r.factor-fits in
    record { is = omega arith; low_fits = omega arith; high_fits = omega (arith, o.low_fits) }

pub added-fits : {a : Amount} {q content factor p high low : ℕ} → Room 1 a → Ranged q content factor → p ≡ q * content → high ≡ p / word * factor
    → low ≡ p % word * factor → Fits w64 (high + (low + a.low) / word + a.high)
added-fits {p = p} o r e f g = record { fits = omega (arith, o.high_fits, (added_parted {p = p} o r e f g).high_fits) }
