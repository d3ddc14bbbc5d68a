-- A report whose parts can be read. Assumes nothing.
use Rattle.std.specs.Prelude.{true, List, ◌≡◌, ℕ, ◌≤◌, length}
use Rattle.meaning.specs.Register.{most_sources}
use Rattle.meaning.specs.Report.{report_length, entry_count, well_formed}

-- a well-formed report, whose parts then stand within its bytes
pub record Readable (b : List ℕ) : Type 0 where
  pub right : well_formed b ≡ true
  pub filled : length b ≡ report_length (entry_count b)
  pub few : entry_count b ≤ most_sources
