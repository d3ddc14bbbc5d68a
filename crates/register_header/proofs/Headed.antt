-- What a header that has passed is good for. Assumes nothing.
use mathlib.Core.List.{List}
use mathlib.Core.Path.{◌≡◌}
use Prim.Native.Nat.{ℕ, ◌<◌}
use native.Mathlib.Omega.{arith}
use Rattle.basis.specs.Answers.{Passes, first_refusal}
use Rattle.meaning.specs.Register.{source_count, header_tests}
use Rattle.meaning.proofs.Registers.{right_header}
use Rattle.register_header.specs.Header.{Headed, HasEntry}

-- a header that passes
pub headed : (b : List ℕ) → first_refusal (header_tests b) ≡ Passes → Headed b
headed b e = let h = right_header b e in record { sources = h.sources; lines = h.lines; names = h.names; whole = h.filled }

pub has_entry : {b : List ℕ} {n i : ℕ} → Headed b → n ≡ source_count b → i < n → HasEntry b i
has_entry h e l = record { head = h; below = omega arith }
