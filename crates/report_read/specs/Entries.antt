-- The entries of a report by index. Assumes nothing.
use Rattle.std.specs.Prelude.{Bool, cond, List, map, ℕ, eqb, ltb, Option, Some, None}
use Rattle.basis.specs.First.{first}
use Rattle.basis.specs.Lists.{count_up, joined}
use Rattle.meaning.specs.Report.{Entry, entry_bytes, entry_at, entry_in, entry_count}

-- the number of entry i
unfoldable pub entry_number : List ℕ → ℕ → ℕ
entry_number b i = (entry_in (entry_at b i)).number

-- entry i has a number
unfoldable pub numbered_at : List ℕ → ℕ → ℕ → Bool
numbered_at b x i = eqb (entry_number b i) x

-- the first index with an entry that has a number
unfoldable pub index_numbered : List ℕ → ℕ → Option ℕ
index_numbered b x = let i = first (numbered_at b x) (entry_count b) in cond (ltb i (entry_count b)) (Some i) None

-- k entries from the i-th on
unfoldable pub entries_from : List ℕ → ℕ → ℕ → List Entry
entries_from b i k = map (λ j. entry_in (entry_at b j)) (count_up i k)

-- the bytes of entries, one behind another
unfoldable pub rows : List Entry → List ℕ
rows es = joined (map entry_bytes es)
