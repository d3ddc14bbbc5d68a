-- Only CO2 has anything taken from it. Assumes nothing.
use mathlib.Core.Bool.{Bool, true, false, cond}
use mathlib.Core.List.{List, [], ◌∷◌}
use mathlib.Core.Path.{◌≡◌, refl, ap₂}
use Prim.Native.Nat.{ℕ, suc, ◌+◌}
use native.Mathlib.Omega.{arith}
use lib.Dec.{eqb}
use borrow.Author.Tests.{ne_eqb}
use Rattle.basis.specs.Lists.{sum}
use Rattle.meaning.specs.declared.Kind.{Kind}
use Rattle.meaning.specs.declared.Kind.TheVariants.{Fuel, FlareCarbon, FlareMethane, MetalIn, MetalOut, OpeningStock, ClosingStock, Feed, Product, ByProduct, CarbonateCharged, KilnDust, OtherCarbon, NitricAcid}
use Rattle.meaning.specs.Methods.{Decoded}
use Rattle.std.specs.Prelude.{Some, None}
use Rattle.meaning.specs.Masses.{contribution, takes_from, taken}

none-taken : (c : Bool) → ◌≡◌ {A = ℕ} (cond c 0 0) 0
none-taken true = refl
none-taken false = refl

-- what a kind takes from another gas than CO2
abbrev takes : ℕ → ℕ → Kind → ℕ
takes gas q kind = cond (eqb (contribution q kind).gas (suc gas)) (contribution q kind).takes 0

from-co2 : (gas n : ℕ) → cond (eqb 0 (suc gas)) n 0 ≡ 0
from-co2 gas n = rw (ne_eqb 0 (suc gas) (omega arith))

kind-takes : (gas q : ℕ) (kind : Kind) → takes gas q kind ≡ 0
kind-takes gas q (Fuel c o) = none-taken (eqb 0 (suc gas))
kind-takes gas q (FlareCarbon c u) = none-taken (eqb 0 (suc gas))
kind-takes gas q (FlareMethane c u) = none-taken (eqb 1 (suc gas))
kind-takes gas q (MetalIn c) = none-taken (eqb 0 (suc gas))
kind-takes gas q (MetalOut c) = from-co2 gas _
kind-takes gas q (OpeningStock c) = none-taken (eqb 0 (suc gas))
kind-takes gas q (ClosingStock c) = from-co2 gas _
kind-takes gas q (Feed c) = none-taken (eqb 0 (suc gas))
kind-takes gas q (Product c) = from-co2 gas _
kind-takes gas q (ByProduct c) = from-co2 gas _
kind-takes gas q (CarbonateCharged s f c) = none-taken (eqb 0 (suc gas))
kind-takes gas q (KilnDust s f c) = from-co2 gas _
kind-takes gas q (OtherCarbon c) = none-taken (eqb 0 (suc gas))
kind-takes gas q (NitricAcid f) = none-taken (eqb 2 (suc gas))

line-takes : (gas : ℕ) (d : Decoded) → takes_from (suc gas) d ≡ 0
line-takes gas (Some l) = kind-takes gas l.quantity l.kind
line-takes gas None = none-taken (eqb 0 (suc gas))

pub only-co2 : (gas : ℕ) (ls : List Decoded) → taken (suc gas) ls ≡ 0
unfolding taken sum
only-co2 gas [] = refl
only-co2 gas (d ∷ ls) = ap₂ ◌+◌ (line-takes gas d) (only-co2 gas ls)
