-- One scale serves every gas: N over a gas's own divisor is as many grams as N in ten-billionths of a gram. Assumes nothing.
use mathlib.Core.List.{List}
use mathlib.Core.Path.{◌≡◌, refl, sym}
use Prim.Native.Nat.{ℕ, ◌+◌, ◌*◌, ◌-◌, ◌<◌}
use native.Mathlib.Nat.{mul-one, mul_assoc, mul_comm, mul-sub, add-mul, mul-div-mul_right}
use borrow.Author.Tests.{leb-true, eqb-true}
use lib.Dec.{eqb, leb, ltb}
use lib.ListN.{get_or}
use Rattle.meaning.specs.Methods.{Decoded}
use Rattle.meaning.specs.Masses.{divisors, carbon_dioxide, gas_count, added, taken, below_zero, rounded, mass}
use Rattle.mass_exact.specs.Amounts.{gram, scales, scale}
use Rattle.basis.proofs.Tables.{everywhere_at}

pub rounded_scaled : (n d s : ℕ) → 0 < s → rounded (n * s) (d * s) ≡ rounded n d
unfolding rounded
rounded_scaled n d s h = rw (← mul_assoc 2 n s, ← mul_assoc 2 d s, ← add-mul (2 * n) d s) (mul-div-mul_right (2 * n + d) (2 * d) h)

sub_mul : (m n k : ℕ) → m * k - n * k ≡ (m - n) * k
sub_mul m n k = rw (mul_comm m k, mul_comm n k, mul_comm (m - n) k) (sym (mul-sub k m n))

-- what holds at each gas, by a test that is computed over its table
module _ (gas : ℕ) (h : gas < gas_count) where
  divisor_scaled : get_or divisors gas 1 * scale gas ≡ gram
  divisor_scaled = eqb-true _ _ (everywhere_at (λ i d. eqb (d * scale i) gram) divisors 1 refl gas h)

  scale-above-zero : 0 < scale gas
  scale-above-zero = leb-true _ _ (everywhere_at (λ i s. leb 1 s) scales 0 refl gas h)

  pub grams_scaled : (n : ℕ) → rounded (n * scale gas) gram ≡ rounded n (get_or divisors gas 1)
  grams_scaled n = rw divisor_scaled at (rounded_scaled n (get_or divisors gas 1) (scale gas) scale-above-zero)

  -- the mass of a source's lines, from its sums in ten-billionths of a gram
  pub mass_scaled : (ls : List Decoded) → rounded (added gas ls * scale gas - taken gas ls * scale gas) gram ≡ mass ls gas
  unfolding mass
  mass_scaled ls = rw (sub_mul (added gas ls) (taken gas ls) (scale gas)) (grams_scaled (added gas ls - taken gas ls))

pub below-zero_scaled : (ls : List Decoded)
    → ltb (added carbon_dioxide ls * scale carbon_dioxide) (taken carbon_dioxide ls * scale carbon_dioxide) ≡ below_zero ls
unfolding below_zero
below-zero_scaled ls = simp mul-one
