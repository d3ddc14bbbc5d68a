-- What a program says of an answer goes by its number. Assumes nothing.
use mathlib.Core.List.{List}
use mathlib.Core.Path.{◌≡◌}
use Prim.Native.Nat.{ℕ}
use borrow.Author.Tests.{ne_eqb}
use Rattle.basis.specs.declared.Answer.{Answer}
use Rattle.meaning.specs.Text.{refused_line}
use Rattle.meaning.specs.Programs.{said}

pub said-made : (a : Answer) (made : List ℕ) → a.number ≡ 0 → said a made ≡ made
said-made a made e = rw e

pub said-refused : (a : Answer) (made : List ℕ) → (a.number ≡ 0 → ⊥) → said a made ≡ refused_line a.number a.place
said-refused a made f = rw (ne_eqb a.number 0 f)
