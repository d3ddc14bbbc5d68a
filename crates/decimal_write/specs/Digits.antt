-- Numbers as they are put, with the bytes behind them. Assumes nothing.
use Rattle.std.specs.Prelude.{List, [], ◌∷◌, ◌++◌, ◌≡◌, ℕ, ◌+◌, ◌≤◌, length, take, drop}
use Rattle.basis.specs.Bytes.{Written}
use Rattle.meaning.specs.Text.{decimal}

-- n has k digits, at most twenty
pub record Counted (n k : ℕ) : Type 0 where
  pub count : k ≡ length (decimal n)
  pub few : k ≤ 20

-- a number, and the byte behind it
unfoldable pub field : ℕ → ℕ → List ℕ
field n after = decimal n ++ (after ∷ [])

-- two numbers with a space between them, and the byte behind them
unfoldable pub pair : ℕ → ℕ → ℕ → List ℕ
pair one other after = field one 32 ++ field other after

-- ys has room in xs up to a place, with seven bytes before it
pub record Ends (xs ys : List ℕ) (end : ℕ) : Type 0 where
  pub short : 7 + length ys ≤ end
  pub within : end ≤ length xs

-- ys stands up to a place, and behind it what stood there; what stands before it is left open
pub record Put (xs : List ℕ) (at : ℕ) (ys zs : List ℕ) (end : ℕ) : Type 0 where
  pub within : end ≤ length xs
  pub same : length zs ≡ length xs
  pub ends : end ≡ at + length ys
  pub is : drop at zs ≡ ys ++ drop end xs

-- ys is written over xs at a place, and ends where the next begins
pub record Placed (xs : List ℕ) (at : ℕ) (ys zs : List ℕ) (end : ℕ) : Type 0 where
  pub written : Written xs at ys zs
  pub ends : end ≡ at + length ys

-- ys is written over the front of xs, and is n bytes long. The last two say so of the part that a program then lends on.
pub record Fronted (xs ys zs : List ℕ) (n : ℕ) : Type 0 where
  pub written : Written xs 0 ys zs
  pub count : n ≡ length ys
  pub within : n ≤ length zs
  pub part : n ≡ length (take n zs)
