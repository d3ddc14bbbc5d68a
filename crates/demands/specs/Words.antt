-- The words that the statements share with the meaning, said once more by the library's own functions. Assumes nothing.
use mathlib.Core.List.{List, foldr, flatten}
use Rattle.std.specs.Prelude.{◌↔◌, ◌≡◌, ℕ, zero, suc, ◌+◌, ◌*◌, ◌^◌, ◌<◌, length, get_or, take, drop}
use Rattle.basis.specs.declared.Answer.{Answer}
use Rattle.basis.specs.Bytes.{number_at, Bytes}
use Rattle.basis.specs.Lists.{Each, sum, count_up, joined}
use Rattle.basis.specs.Answers.{Outcome, Gives, Shows}

-- f 0, f 1 and so on, k of them, added
abbrev pub sum_below : ℕ → (ℕ → ℕ) → ℕ
sum_below zero f = 0
sum_below (suc k) f = sum_below k f + f k

pub record Words : Type 1 where
  -- "Numbers are unsigned, little-endian": the byte at place at + i counts 256 ^ i
  pub numbers : (k : ℕ) (bs : List ℕ) (at : ℕ) → number_at k bs at ≡ sum_below k (λ i. get_or bs (at + i) 0 * 256 ^ i)
  pub bytes : (bs : List ℕ) → Bytes bs ↔ ((i : ℕ) → i < length bs → get_or bs i 0 < 256)
  -- "totals that are the sums"
  pub sums : (ns : List ℕ) → sum ns ≡ foldr ◌+◌ 0 ns
  -- i, i + 1 and so on, k of them
  pub counts : (i k : ℕ) → (length (count_up i k) ≡ k) × ((j : ℕ) → j < k → get_or (count_up i k) j 0 ≡ i + j)
  pub lists : (A : Type 0) (ls : List (List A)) → joined ls ≡ flatten ls
  pub every : (A : Type 0) (P : A → Type 0) (xs : List A) (x : A) → Each P xs ↔ ((i : ℕ) → i < length xs → P (get_or xs i x))
  -- what the promises of an outcome and of a part permit: this answer with these bytes; these bytes at this place
  pub gives : (o : Outcome) (a : Answer) (bs : List ℕ) → Gives o a bs ↔ ((a ≡ o.answer) × (bs ≡ o.left))
  pub shows : (A : Type 0) (bs : List ℕ) (base : A) (start offset size : ℕ) (held : List ℕ) (place : A × ℕ)
      → Shows bs base start offset size held place ↔ ((held ≡ take size (drop offset bs)) × (place ≡ (base, offset + start)))
