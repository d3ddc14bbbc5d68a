-- What a register that has passed is judged with. Assumes nothing.
use Rattle.std.specs.Prelude.{List, ◌≡◌, ℕ, ◌*◌, ◌≤◌, length, take}
use Rattle.meaning.specs.Register.{source_count}
use Rattle.meaning.specs.Report.{figure_count}
use Rattle.register_order.specs.Keys.{sorted_keys}
use Rattle.calculation_judge.specs.Sources.{Judgeable}

-- a register that tests 1 to 4 have passed, its keys in ascending order, and room for the figures of its sources
pub record Keyed (b keys kept : List ℕ) : Type 0 where
  pub passed : Judgeable b
  pub order : take (source_count b) keys ≡ sorted_keys b
  pub room : figure_count * source_count b ≤ length kept
