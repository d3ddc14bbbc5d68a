-- The names' offset, tested against the counts that were read. Assumes nothing.
use mathlib.Core.Bool.{not}
use mathlib.Core.List.{List}
use mathlib.Core.Path.{◌≡◌, refl}
use Prim.Native.Nat.{ℕ, ◌+◌, ◌*◌}
use lib.Dec.{eqb}
use Rattle.basis.specs.Answers.{refuse_if}
use Rattle.basis.specs.Bytes.{number_at}
use Rattle.meaning.specs.Register.{source_count, line_count, names_at}

pub names_told : (b : List ℕ) {n m stated : ℕ} → stated ≡ number_at 4 b 24 → n ≡ source_count b → m ≡ line_count b
    → refuse_if (not (eqb stated (32 + 16 * n + 20 * m))) 2 24 ≡ refuse_if (not (eqb (number_at 4 b 24) (names_at (source_count b) (line_count b)))) 2 24
names_told b e f g = rw (e, f, g) refl
