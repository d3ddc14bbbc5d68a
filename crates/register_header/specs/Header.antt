-- The header of a register: the counts that it states, and what is known once it has passed. Assumes nothing.
use Rattle.std.specs.Prelude.{List, ◌≡◌, ℕ, ◌≤◌, ◌<◌, length}
use Rattle.meaning.specs.Register.{sources_at, source_count, most_sources, line_count, most_lines, name_bytes, most_name_bytes, whole_length}

-- n, m and t are the counts that the header states, and none is too large
pub record CountsRead (b : List ℕ) (n m t : ℕ) : Type 0 where
  pub long : sources_at ≤ length b
  pub sources : n ≡ source_count b
  pub lines : m ≡ line_count b
  pub names : t ≡ name_bytes b
  pub bounds : (n ≤ most_sources) × (m ≤ most_lines) × (t ≤ most_name_bytes)

-- a header that has passed: the bytes lent hold every entry, line and name
pub record Headed (b : List ℕ) : Type 0 where
  pub sources : source_count b ≤ most_sources
  pub lines : line_count b ≤ most_lines
  pub names : name_bytes b ≤ most_name_bytes
  pub whole : length b ≡ whole_length (source_count b) (line_count b) (name_bytes b)

-- entry i stands in the bytes lent
pub record HasEntry (b : List ℕ) (i : ℕ) : Type 0 where
  pub head : Headed b
  pub below : i < source_count b
