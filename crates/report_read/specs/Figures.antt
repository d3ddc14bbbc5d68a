-- Figures in a row, eight bytes each: those of an entry, and the totals. Assumes nothing.
use Rattle.std.specs.Prelude.{List, map, ℕ, ◌+◌, ◌*◌, ◌-◌, ◌^◌, ◌≤◌, ◌<◌, length, get_or}
use Rattle.basis.specs.Bytes.{number_at}
use Rattle.basis.specs.Lists.{count_up}

-- "(8 each)"
abbrev pub figure_length : ℕ
figure_length = 8

-- figure k of those that stand from a place on
abbrev pub figure_at : List ℕ → ℕ → ℕ → ℕ
figure_at bs at k = number_at figure_length bs (at + figure_length * k)

-- so many of them
unfoldable pub figures_at : ℕ → List ℕ → ℕ → List ℕ
figures_at count bs at = map (figure_at bs at) (count_up 0 count)

-- sums with those from a place on added, each to its own
unfoldable pub added_at : List ℕ → ℕ → List ℕ → List ℕ
added_at bs at sums = map (λ k. get_or sums k 0 + figure_at bs at k) (count_up 0 (length sums))

-- the figures stand there, and none of the sums leaves 64 bits
pub record Addable (bs : List ℕ) (at : ℕ) (sums : List ℕ) : Type 0 where
  pub stand : at + figure_length * length sums ≤ length bs
  pub fit : (k : ℕ) → k < length sums → get_or sums k 0 + figure_at bs at k < 2 ^ 64

-- sums with those from a place on taken from them, each from its own
unfoldable pub taken_at : List ℕ → ℕ → List ℕ → List ℕ
taken_at bs at sums = map (λ k. get_or sums k 0 - figure_at bs at k) (count_up 0 (length sums))

-- the figures stand there, and each sum holds its figure
pub record Takeable (bs : List ℕ) (at : ℕ) (sums : List ℕ) : Type 0 where
  pub stand : at + figure_length * length sums ≤ length bs
  pub held : (k : ℕ) → k < length sums → figure_at bs at k ≤ get_or sums k 0
