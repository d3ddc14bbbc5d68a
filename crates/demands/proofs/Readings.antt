-- A line that a row of the table fits is decoded, and counts as the row says. Assumes nothing.
use mathlib.Core.Bool.{true, ◌||◌}
use mathlib.Core.List.{List, [], ◌∷◌}
use mathlib.Core.Logic.{inl, inr}
use mathlib.Core.Path.{◌≡◌, refl}
use Prim.Native.Nat.{ℕ, zero, suc, ◌*◌, ◌-◌, ◌≤◌}
use native.Mathlib.Nat.{mul-one}
use native.Mathlib.Omega.{arith}
use lib.Dec.{eqb}
use lib.ListN.{get_or}
use borrow.Author.Tests.{ne_eqb, le-leb}
use Rattle.basis.specs.Lists.{Each}
use Rattle.basis.proofs.Bools.{or_true}
use Rattle.basis.proofs.Lists.{◌&◌}
use Rattle.meaning.specs.declared.RawLine.{RawLine}
use Rattle.std.specs.Prelude.{Some}
use Rattle.meaning.specs.Methods.{carbonates, within, in_range, by_method, decoded, figured, figures_of}
use Rattle.meaning.specs.Masses.{Contribution, contribution}
use Rattle.demands.specs.Table.{Among, In, adds, takes, MethodRow, Fits, content, 1_to_4, 1_to_6, table, row_at, kind_of, amount}
use Rattle.demands.proofs.Among.{among_range, only, among_within}

-- a line whose ranges are kept, unit by unit
range_kept : (l : RawLine) → l.q ≤ 10000000000 → In content l.unit l.a → l.b ≤ 10000 → in_range l ≡ true
range_kept l q (inl h) b = rw (h.0, le-leb l.q 10000000000 q, le-leb l.a 1000000 h.1, le-leb l.b 10000 b)
range_kept l q (inr h) b = rw (ne_eqb l.unit 1 h.0, le-leb l.q 10000000000 q, le-leb l.a 99999999 h.1, le-leb l.b 10000 b)

-- the tables of the meaning have a filler for code and parameter 0
behind_filler : (fs : List ℕ) (c : ℕ) → 1 ≤ c → get_or (0 ∷ fs) c 0 ≡ get_or fs (c - 1) 0
behind_filler fs zero h = absurd (omega arith)
behind_filler fs (suc c) h = let e : suc c - 1 ≡ c = omega arith in rw e

-- a row reads a line: decoding yields a good line of the row's kind, whose contribution and figures are what the row says
abbrev pub said : MethodRow → ℕ → RawLine → Contribution
said r p l = record { gas = r.gas; adds = amount adds r.gas r p l; takes = amount takes r.gas r p l }

abbrev pub Reads : ℕ → ℕ → RawLine → MethodRow → Type 0
Reads m p l r =
    (decoded m p l ≡ Some (record { quantity = l.q; kind = kind_of r p l }))
    × (contribution l.q (kind_of r p l) ≡ said r p l)
    × (figures_of (kind_of r p l) ≡ figured m l.kind l.a l.b)

module _ (m p : ℕ) (l : RawLine) where
  abbrev pub Reading : MethodRow → Type 0
  Reading r = Fits r m p l → Reads m p l r

  any-unit : Among 1_to_4 l.unit → within 1 4 l.unit ≡ true
  any-unit = among_within 1_to_4 1 4 l.unit (omega arith)

  gas-unit : Among (1 ∷ 2 ∷ []) l.unit → within 1 2 l.unit ≡ true
  gas-unit = among_within (1 ∷ 2 ∷ []) 1 2 l.unit (omega arith)

  carbonate-code : Among (1 ∷ 2 ∷ 3 ∷ 4 ∷ []) l.code → within 1 4 l.code ≡ true
  carbonate-code = among_within (1 ∷ 2 ∷ 3 ∷ 4 ∷ []) 1 4 l.code (omega arith)

  up_to_six : (ms : List ℕ) → Each (λ k. (1 ≤ k) × (k ≤ 6)) ms → Among ms p → within 1 6 p ≡ true
  up_to_six ms e = among_within ms 1 6 p e

  two_or_five : Among (2 ∷ 5 ∷ []) p → eqb p 2 || eqb p 5 ≡ true
  two_or_five (inl e) = rw e
  two_or_five (inr a) = rw (only a)

  carbonate-factor : Among (1 ∷ 2 ∷ 3 ∷ 4 ∷ []) l.code → get_or carbonates l.code 0 ≡ get_or (440 ∷ 522 ∷ 477 ∷ 380 ∷ []) (l.code - 1) 0
  carbonate-factor a = behind_filler (440 ∷ 522 ∷ 477 ∷ 380 ∷ []) l.code (among_range (1 ∷ 2 ∷ 3 ∷ 4 ∷ []) 1 4 (omega arith) a).0

  -- where B is 10,000
  full_kept : l.q ≤ 10000000000 → In content l.unit l.a → l.b ≡ 10000 → in_range l ≡ true
  full_kept q a e = range_kept l q a (omega arith)

  fuel-gas : Reading (row_at 0)
  unfolding decoded by_method
  fuel-gas f =
      let c = among_within (1 ∷ 2 ∷ []) 1 2 l.code (omega arith) f.coded in
      (rw (f.of_method, only f.of_parameter, full_kept f.q f.a f.b, f.of_kind, any-unit f.in_unit, c, f.b, or_true (eqb l.code 3)), refl, rw (f.of_method, f.of_kind))

  fuel_solid : Reading (row_at 1)
  unfolding decoded by_method
  fuel_solid f =
      (rw (f.of_method, only f.of_parameter, range_kept l f.q f.a f.b, f.of_kind, any-unit f.in_unit, only f.coded), refl, rw (f.of_method, f.of_kind))

  flare-carbon : Reading (row_at 2)
  unfolding decoded by_method
  flare-carbon f =
      (rw (f.of_method, only f.of_parameter, range_kept l f.q f.a f.b, f.of_kind, gas-unit f.in_unit, only f.coded), refl, rw (f.of_method, f.of_kind))

  flare-methane : Reading (row_at 3)
  unfolding decoded by_method
  flare-methane f =
      (rw (f.of_method, only f.of_parameter, range_kept l f.q f.a f.b, f.of_kind, gas-unit f.in_unit, only f.coded), rw (mul-one (l.q * l.a * l.b)), rw (f.of_method, f.of_kind))

  metal_in : Reading (row_at 4)
  unfolding decoded by_method
  metal_in f =
      (rw (f.of_method, only f.of_parameter, full_kept f.q f.a f.b, f.of_kind, any-unit f.in_unit, only f.coded, f.b), rw f.b, rw (f.of_method, f.of_kind, f.b))

  metal_out : Reading (row_at 5)
  unfolding decoded by_method
  metal_out f =
      (rw (f.of_method, only f.of_parameter, full_kept f.q f.a f.b, f.of_kind, any-unit f.in_unit, only f.coded, f.b), rw f.b, rw (f.of_method, f.of_kind, f.b))

  opening : Reading (row_at 6)
  unfolding decoded by_method
  opening f =
      (rw (f.of_method, only f.of_parameter, full_kept f.q f.a f.b, f.of_kind, any-unit f.in_unit, only f.coded, f.b), rw f.b, rw (f.of_method, f.of_kind, f.b))

  closing : Reading (row_at 7)
  unfolding decoded by_method
  closing f =
      (rw (f.of_method, only f.of_parameter, full_kept f.q f.a f.b, f.of_kind, any-unit f.in_unit, only f.coded, f.b), rw f.b, rw (f.of_method, f.of_kind, f.b))

  feed : Reading (row_at 8)
  unfolding decoded by_method
  feed f =
      let s = up_to_six 1_to_6 (omega arith) f.of_parameter in
      (rw (f.of_method, s, full_kept f.q f.a f.b, f.of_kind, any-unit f.in_unit, only f.coded, f.b), rw f.b, rw (f.of_method, f.of_kind, f.b))

  product : Reading (row_at 9)
  unfolding decoded by_method
  product f =
      let s = up_to_six 1_to_6 (omega arith) f.of_parameter in
      (rw (f.of_method, s, full_kept f.q f.a f.b, f.of_kind, any-unit f.in_unit, only f.coded, f.b), rw f.b, rw (f.of_method, f.of_kind, f.b))

  by_product : Reading (row_at 10)
  unfolding decoded by_method
  by_product f =
      let s = up_to_six (2 ∷ 5 ∷ []) (omega arith) f.of_parameter in
      (rw (f.of_method, s, full_kept f.q f.a f.b, f.of_kind, any-unit f.in_unit, only f.coded, f.b, two_or_five f.of_parameter), rw f.b, rw (f.of_method, f.of_kind, f.b))

  charged : Reading (row_at 11)
  unfolding decoded by_method
  charged f =
      (rw (f.of_method, only f.of_parameter, range_kept l f.q f.a f.b, f.of_kind, only f.in_unit, carbonate-code f.coded, carbonate-factor f.coded), refl, rw (f.of_method, f.of_kind))

  dust : Reading (row_at 12)
  unfolding decoded by_method
  dust f =
      (rw (f.of_method, only f.of_parameter, range_kept l f.q f.a f.b, f.of_kind, only f.in_unit, carbonate-code f.coded, carbonate-factor f.coded), refl, rw (f.of_method, f.of_kind))

  other : Reading (row_at 13)
  unfolding decoded by_method
  other f =
      (rw (f.of_method, only f.of_parameter, full_kept f.q f.a f.b, f.of_kind, only f.in_unit, only f.coded, f.b), rw f.b, rw (f.of_method, f.of_kind, f.b))

  nitric : Reading (row_at 14)
  unfolding decoded by_method
  nitric f =
      let s = up_to_six 1_to_6 (omega arith) f.of_parameter in
      let acid = behind_filler (20000 ∷ 25000 ∷ 50000 ∷ 75000 ∷ 90000 ∷ 5 ∷ []) p (among_range 1_to_6 1 6 (omega arith) f.of_parameter).0 in
      (rw (f.of_method, s, le-leb l.q 10000000000 f.q, only f.in_unit, f.a, f.b, f.of_kind, only f.coded, acid), refl, rw (f.of_method, f.of_kind, f.a, f.b))

  pub each-reads : Each Reading table
  each-reads =
      fuel-gas & fuel_solid & flare-carbon & flare-methane & metal_in & metal_out & opening & closing & feed & product & by_product & charged & dust & other & nitric & tt
