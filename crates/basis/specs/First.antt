-- The least index below a count at which a test holds: every "first such" of document 01's table. Assumes nothing.
use Rattle.std.specs.Prelude.{Bool, false, cond, ◌≡◌, ℕ, zero, suc, ◌+◌, ◌<◌}

-- going up from i, with k indices left: the first at which the test holds, or the end
unfoldable pub scan : (ℕ → Bool) → ℕ → ℕ → ℕ
scan test i zero = i
scan test i (suc k) = let later = scan test (i + 1) k in cond (test i) i later

-- the least index below n at which the test holds, or n
unfoldable pub first : (ℕ → Bool) → ℕ → ℕ
first test n = scan test 0 n

-- the test holds at none below i
abbrev pub NoneBelow : (ℕ → Bool) → ℕ → Type 0
NoneBelow test i = (k : ℕ) → k < i → test k ≡ false
