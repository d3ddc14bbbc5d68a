-- What a report is written from: keys in ascending order, and figures in the order of the table. Assumes nothing.
use Rattle.std.specs.Prelude.{List, map, ◌≡◌, ℕ, ◌+◌, ◌*◌, ◌≤◌, ◌<◌, length, get_or, take, drop}
use Rattle.basis.specs.Answers.{Passes, first_refusal}
use Rattle.basis.specs.Lists.{sum, count_up}
use Rattle.meaning.specs.Masses.{equivalent, limit}
use Rattle.meaning.specs.Register.{source_count, most_sources, source_at, register_tests}
use Rattle.meaning.specs.Report.{Entry, entry_of, figure_count, figures as entry_figures}
use Rattle.register_order.specs.Keys.{index_of_key, sorted_keys}

-- a register that tests 1 to 4 accept, its keys in ascending order, and the figures of each of its sources, none above the limit
pub record Ready (b keys figures : List ℕ) : Type 0 where
  pub passes : first_refusal (register_tests b) ≡ Passes
  pub order : take (source_count b) keys ≡ sorted_keys b
  pub long : figure_count * source_count b ≤ length figures
  pub stored : (i : ℕ) → i < source_count b → take figure_count (drop (figure_count * i) figures) ≡ entry_figures (entry_of (source_at b i))
  pub kept : (i : ℕ) → i < source_count b → equivalent (entry_of (source_at b i)).masses ≤ limit

-- the entry of the source that a key is of
unfoldable pub entry_of_key : List ℕ → ℕ → Entry
entry_of_key b key = entry_of (source_at b (index_of_key key))

-- figure k of source i; that of the sources before n, added up; and so for each figure
abbrev pub figure_of : List ℕ → ℕ → ℕ → ℕ
figure_of figures k i = get_or figures (figure_count * i + k) 0

unfoldable pub total : List ℕ → ℕ → ℕ → ℕ
total figures n k = sum (map (figure_of figures k) (count_up 0 n))

unfoldable pub totals_of : List ℕ → ℕ → List ℕ
totals_of figures n = map (total figures n) (count_up 0 figure_count)

-- the figures of n sources, each so small that no total leaves 64 bits
pub record Summable (figures : List ℕ) (n : ℕ) : Type 0 where
  pub few : n ≤ most_sources
  pub long : figure_count * n ≤ length figures
  pub small : (i k : ℕ) → i < n → k < figure_count → figure_of figures k i ≤ limit
