-- The name of a new file, as it is put together and lent on. Assumes nothing.
use mathlib.Core.List.{List, ◌++◌}
use mathlib.Core.Path.{refl}
use Prim.Native.Nat.{ℕ, ◌+◌}
use native.Mathlib.Omega.{arith}
use lib.ListN.{length, take, length-append}
use Rattle.basis.specs.Bytes.{ascii, Written}
use Rattle.basis.proofs.Bytes.{written_then}
use Rattle.decimal_write.specs.Digits.{Fronted, field}
use Rattle.decimal_write.proofs.Fields.{front-is, fronted}
use Rattle.command_files.specs.Files.{beside}

module _ (number : ℕ) {name path one two three line line₀ : List ℕ} {n : ℕ} (f : Fronted line₀ (field number 126) line n) where
  pub beside_put : Written name 0 path one → Written one (length path) (ascii ".new-") two → Written two (length path + 5) (take n line) three
      → Fronted name (beside path number) three (length path + 5 + n)
  unfolding beside
  beside_put w word digits =
      let d : Written two (length path + 5) (field number 126) three = rw (front-is f.written f.count) at digits in
      let e : Written one (length path) (ascii ".new-" ++ field number 126) three = written_then word d refl in
      fronted (written_then w e (omega arith)) (omega (arith, length-append path (ascii ".new-" ++ field number 126), f.count))
