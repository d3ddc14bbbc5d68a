-- The equivalent of a source's masses with its limit. Assumes nothing.
use Rattle.std.specs.Prelude.{cond, List, ℕ, leb, Option, Some, None}
use Rattle.meaning.specs.Masses.{equivalent, limit}

-- "CO2-equivalent is CO2 + 25 CH4 + 298 N2O of the rounded masses, at most 10^15 g a source"
unfoldable pub within_limit : List ℕ → Option ℕ
within_limit ms = cond (leb (equivalent ms) limit) (Some (equivalent ms)) None
