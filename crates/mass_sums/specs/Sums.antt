-- What the lines of a source come to, in ten-billionths of a gram. Assumes nothing.
use Rattle.std.specs.Prelude.{◌≡◌, ℕ, ◌+◌, ◌*◌, ◌<◌, length, get_or, Some}
use Rattle.meaning.specs.declared.Line.{Line}
use Rattle.meaning.specs.Masses.{gas_count, carbon_dioxide, adds_to, takes_from}
use Rattle.mass_exact.specs.declared.Amount.{Amount}
use Rattle.mass_exact.specs.Amounts.{value, scale, nothing, Room}
use Rattle.mass_sums.specs.declared.Sums.{Sums}

-- each sum has room for so many lines more
pub record Roomy (lines : ℕ) (s : Sums) : Type 0 where
  pub gases : length s.added ≡ gas_count
  pub added : (gas : ℕ) → gas < gas_count → Room lines (get_or s.added gas nothing)
  pub taken : Room lines s.taken

-- an amount is another with n more, or as it was where n is nothing
pub record More (a : Amount) (n : ℕ) (r : Amount) : Type 0 where
  pub is : value r ≡ value a + n
  pub roomy : (lines : ℕ) → Room (lines + 1) a → Room lines r

-- the sums with what one good line comes to
pub record Counts (s : Sums) (l : Line) (r : Sums) : Type 0 where
  pub gases : length r.added ≡ gas_count
  pub added : (gas : ℕ) → gas < gas_count → More (get_or s.added gas nothing) (adds_to gas (Some l) * scale gas) (get_or r.added gas nothing)
  pub taken : More s.taken (takes_from carbon_dioxide (Some l) * scale carbon_dioxide) r.taken
