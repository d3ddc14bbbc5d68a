-- Bounds of the tables and of a line in its ranges. Assumes nothing.
use mathlib.Core.Bool.{true}
use mathlib.Core.List.{List}
use mathlib.Core.Path.{◌≡◌, refl, ap}
use Prim.Native.Nat.{ℕ, ◌<◌}
use lib.Dec.{T, leb, eqb}
use lib.ListN.{length, get_or}
use mir.Facts.{and_yes, leb_yes}
use Rattle.basis.proofs.Tables.{everywhere, everywhere_at}
use Rattle.meaning.specs.Methods.{within}
use Rattle.line_kind.specs.Ranges.{TableEntry}

-- each entry of a table is within two bounds: one computed test
pub entry : (table : List ℕ) (low high : ℕ) → everywhere (λ i n. within low high n) table ≡ true → (at : ℕ) → at < length table
    → TableEntry table low high at (get_or table at 0)
entry table low high e at h =
    let n = get_or table at 0 in
    let w : T (within low high n) = rw (everywhere_at (λ i n. within low high n) table 0 e at h) tt in
    record { is = refl; above = leb_yes (and_yes (leb low n) (leb n high) w).0; below = leb_yes (and_yes (leb low n) (leb n high) w).1 }

-- a test of a number that is known is the test of that number
pub known : {k j : ℕ} (n : ℕ) → k ≡ j → eqb k n ≡ eqb j n
known n e = ap (λ (m : ℕ). eqb m n) e
