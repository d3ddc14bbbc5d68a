-- The entries of a report but one. Assumes nothing.
use Rattle.std.specs.Prelude.{List, ◌++◌, ℕ, ◌+◌, ◌-◌}
use Rattle.meaning.specs.Report.{Entry, entry_count}
use Rattle.report_read.specs.Entries.{entries_from}

-- all entries but the i-th
unfoldable pub other_entries : List ℕ → ℕ → List Entry
other_entries b i = entries_from b 0 i ++ entries_from b (i + 1) (entry_count b - (i + 1))
