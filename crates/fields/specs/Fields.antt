-- What reading a field gives. Assumes nothing.
use Rattle.std.specs.Prelude.{List, ◌≡◌, ℕ, ◌^◌, ◌<◌}
use Rattle.basis.specs.Bytes.{number_at}

-- n is the number of k bytes at a place, and is as small as k bytes make it
pub record Field (k : ℕ) (bs : List ℕ) (at n : ℕ) : Type 0 where
  pub is : n ≡ number_at k bs at
  pub small : n < 256 ^ k
