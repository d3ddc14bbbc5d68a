-- A source's sums are those of the rows of the table that fit its lines, and its masses the nearest grams of them. Assumes nothing.
use mathlib.Core.Bool.{true, false}
use mathlib.Core.List.{List, [], ◌∷◌, map}
use mathlib.Core.Logic.{◌↔◌, ◌≢◌}
use mathlib.Core.Path.{◌≡◌, refl, sym, ap, ap₂, ◌∙◌}
use Prim.Native.Nat.{ℕ, ◌+◌, ◌*◌, ◌-◌, ◌^◌, ◌≤◌, ◌<◌}
use native.Mathlib.Nat.{sub-zero, div-lt_iff_lt-mul, le-div_iff_mul-le, div-eq_of_lt-le}
use native.Mathlib.Omega.{arith}
use lib.Dec.{eqb, ltb}
use borrow.Author.Tests.{ltb-true, lt-ltb, ne_eqb}
use Rattle.basis.specs.Lists.{sum, count_up, any}
use Rattle.basis.proofs.Bools.{clash, or_false}
use Rattle.basis.proofs.Lists.{◌&◌, each_at}
use Rattle.meaning.specs.declared.RawLine.{RawLine}
use Rattle.meaning.specs.Methods.{Decoded, decoded, is_bad}
use Rattle.std.specs.Prelude.{Some, None}
use Rattle.meaning.specs.Masses.{added, taken, below_zero, rounded, mass, masses, equivalent, limit}
use Rattle.demands.specs.Table.{adds, takes, CO2, CH4, N2O, table, row_at, FitsAt, amount, FitAll, total, Nearest}
use Rattle.demands.specs.Refusals.{BelowZero, AboveLimit}
use Rattle.demands.proofs.Figures.{weighed_three}
use Rattle.demands.proofs.Table.{row-found}
use Rattle.demands.proofs.Tabled.{tabled}

-- rounding: the nearest, and the only such number
pub rounds : (n d r : ℕ) → 0 < d → (rounded n d ≡ r) ↔ Nearest n d r
unfolding rounded
rounds n d r h = (
  λ e.
      let low : r * (2 * d) ≤ 2 * n + d = (le-div_iff_mul-le {k = 2 * d} (omega arith)).0 (omega arith) in
      let high : 2 * n + d < (r + 1) * (2 * d) = (div-lt_iff_lt-mul {k = 2 * d} (omega arith)).0 (omega arith) in
      (omega arith, omega arith),
  λ w. div-eq_of_lt-le (2 * d) (omega arith) (omega arith),
)

module _ (m p : ℕ) where
  pub total-added : (gas : ℕ) (rows : List ℕ) (ls : List RawLine) → FitAll m p rows ls → total adds gas p rows ls ≡ added gas (map (decoded m p) ls)
  unfolding added sum
  total-added gas [] [] f = refl
  total-added gas [] (l ∷ ls) f = absurd f
  total-added gas (i ∷ rows) [] f = absurd f
  total-added gas (i ∷ rows) (l ∷ ls) f = ap₂ ◌+◌ (sym (tabled.added m p i gas l f.0)) (total-added gas rows ls f.1)

  pub total-taken : (gas : ℕ) (rows : List ℕ) (ls : List RawLine) → FitAll m p rows ls → total takes gas p rows ls ≡ taken gas (map (decoded m p) ls)
  unfolding taken sum
  total-taken gas [] [] f = refl
  total-taken gas [] (l ∷ ls) f = absurd f
  total-taken gas (i ∷ rows) [] f = absurd f
  total-taken gas (i ∷ rows) (l ∷ ls) f = ap₂ ◌+◌ (sym (tabled.taken m p i gas l f.0)) (total-taken gas rows ls f.1)

  -- good lines have their rows
  line_row : (l : RawLine) → is_bad (decoded m p l) ≡ false → (i : ℕ) × FitsAt i m p l
  line_row l e = by (decoded m p l) refl e
    where
      by : (d : Decoded) → decoded m p l ≡ d → is_bad d ≡ false → (i : ℕ) × FitsAt i m p l
      by (Some x) q e = row-found m p l q
      by None q e = absurd (clash refl e)

  pub rows-found : (ls : List RawLine) → any is_bad (map (decoded m p) ls) ≡ false → (rows : List ℕ) × FitAll m p rows ls
  unfolding any
  rows-found [] e = ([], tt)
  rows-found (l ∷ ls) e =
      let c = or_false (is_bad (decoded m p l)) (any is_bad (map (decoded m p) ls)) e in
      let r = line_row l c.0 in
      let rest = rows-found ls c.1 in
      (r.0 ∷ rest.0, (r.1, rest.1))

-- only CO2 has anything taken
only-co2 : (m p gas i : ℕ) (l : RawLine) → gas ≢ 0 → FitsAt i m p l → amount takes gas (row_at i) p l ≡ 0
only-co2 m p gas i l n f =
    let z : eqb 0 gas ≡ false = ne_eqb 0 gas (λ e. n (sym e)) in
    each_at (λ r. amount takes gas r p l ≡ 0) table (row_at 15)
    (refl & refl & refl & refl & refl & (rw z) & refl & (rw z) & refl & (rw z) & (rw z) & refl & (rw z) & refl & refl & tt) i f.0

pub none-taken : (m p gas : ℕ) (rows : List ℕ) (ls : List RawLine) → gas ≢ 0 → FitAll m p rows ls → total takes gas p rows ls ≡ 0
none-taken m p gas [] ls n f = refl
none-taken m p gas (i ∷ rows) [] n f = refl
none-taken m p gas (i ∷ rows) (l ∷ ls) n f = ap₂ ◌+◌ (only-co2 m p gas i l n f.0) (none-taken m p gas rows ls n f.1)

-- the masses of a source whose lines have their rows
module _ (m p : ℕ) (rows : List ℕ) (ls : List RawLine) (f : FitAll m p rows ls) where
  abbrev ds : List Decoded
  ds = map (decoded m p) ls

  pub co2_nearest : Nearest (total adds CO2 p rows ls - total takes CO2 p rows ls) (10 ^ 10) (mass ds 0)
  unfolding mass
  co2_nearest = rw (total-added m p 0 rows ls f, total-taken m p 0 rows ls f) ((rounds _ (10 ^ 10) _ (omega arith)).0 refl)

  other-mass : (gas : ℕ) → gas ≢ 0 → added gas ds - taken gas ds ≡ total adds gas p rows ls
  other-mass gas n = rw (← total-added m p gas rows ls f, ← total-taken m p gas rows ls f, none-taken m p gas rows ls n f) (sub-zero _)

  pub ch4_nearest : Nearest (total adds CH4 p rows ls) (10 ^ 7) (mass ds 1)
  unfolding mass
  ch4_nearest = (rounds _ (10 ^ 7) _ (omega arith)).0 (ap (λ (n : ℕ). rounded n (10 ^ 7)) (sym (other-mass 1 (omega arith))))

  pub n2o_nearest : Nearest (total adds N2O p rows ls) (10 ^ 4) (mass ds 2)
  unfolding mass
  n2o_nearest = (rounds _ (10 ^ 4) _ (omega arith)).0 (ap (λ (n : ℕ). rounded n (10 ^ 4)) (sym (other-mass 2 (omega arith))))

  -- 6 and 7, by the rows and by the meaning
  pub below_then : below_zero ds ≡ true → BelowZero m p ls
  unfolding below_zero
  below_then e = (rows, f, rw (total-added m p 0 rows ls f, total-taken m p 0 rows ls f) (ltb-true _ _ e))

  pub above_then : ltb limit (equivalent (masses ds)) ≡ true → AboveLimit m p ls
  unfolding masses count_up
  above_then e =
      let l = ltb-true limit (equivalent (masses ds)) e in
      (rows, mass ds 0, mass ds 1, mass ds 2, f, co2_nearest, ch4_nearest, n2o_nearest, rw (weighed_three (mass ds 0 ∷ mass ds 1 ∷ mass ds 2 ∷ []) refl) at l)

pub then_below : (m p : ℕ) (ls : List RawLine) → BelowZero m p ls → below_zero (map (decoded m p) ls) ≡ true
unfolding below_zero
then_below m p ls r = lt-ltb _ _ (rw (total-added m p 0 r.0 ls r.1, total-taken m p 0 r.0 ls r.1) at r.2)

-- two numbers that are nearest are one
nearest_once : (n d r s : ℕ) → 0 < d → Nearest n d r → Nearest n d s → r ≡ s
nearest_once n d r s l a b = sym ((rounds n d r l).1 a) ∙ (rounds n d s l).1 b

pub then_above : (m p : ℕ) (ls : List RawLine) → AboveLimit m p ls → ltb limit (equivalent (masses (map (decoded m p) ls))) ≡ true
unfolding masses count_up
then_above m p ls r =
    let ds = map (decoded m p) ls in
    let rows = r.0 in
    let f = r.4 in
    let x = nearest_once (total adds CO2 p rows ls - total takes CO2 p rows ls) (10 ^ 10) (mass ds 0) r.1 (omega arith) (co2_nearest m p rows ls f) r.5 in
    let y = nearest_once (total adds CH4 p rows ls) (10 ^ 7) (mass ds 1) r.2 (omega arith) (ch4_nearest m p rows ls f) r.6 in
    let z = nearest_once (total adds N2O p rows ls) (10 ^ 4) (mass ds 2) r.3 (omega arith) (n2o_nearest m p rows ls f) r.7 in
    lt-ltb limit (equivalent (mass ds 0 ∷ mass ds 1 ∷ mass ds 2 ∷ [])) (rw (weighed_three (mass ds 0 ∷ mass ds 1 ∷ mass ds 2 ∷ []) refl, x, y, z) r.8)
