-- Lists: sums, counting up, membership, order by a key. Assumes nothing.
use Rattle.std.specs.Prelude.{Bool, false, cond, ◌||◌, List, [], ◌∷◌, ◌++◌, ℕ, zero, suc, ◌+◌, eqb, leb}

unfoldable pub sum : List ℕ → ℕ
sum [] = 0
sum (n ∷ ns) = n + sum ns

-- k numbers from i on
unfoldable pub count_up : ℕ → ℕ → List ℕ
count_up i zero = []
count_up i (suc k) = i ∷ count_up (i + 1) k

module _ {A : Type 0} where
  -- one list of many
  unfoldable pub joined : List (List A) → List A
  joined [] = []
  joined (l ∷ ls) = l ++ joined ls

  -- whether a test holds of any
  unfoldable pub any : (A → Bool) → List A → Bool
  any test [] = false
  any test (x ∷ xs) = test x || any test xs

  -- P of each of a list
  abbrev pub Each : (A → Type 0) → List A → Type 0
  Each P [] = Unit {0}
  Each P (x ∷ xs) = P x × Each P xs

  -- x before the first whose key is not below its own
  unfoldable pub insert_by : (A → ℕ) → A → List A → List A
  insert_by key x [] = x ∷ []
  insert_by key x (y ∷ ys) = cond (leb (key x) (key y)) (x ∷ y ∷ ys) (y ∷ insert_by key x ys)

  -- in ascending order of a key
  unfoldable pub sorted_by : (A → ℕ) → List A → List A
  sorted_by key [] = []
  sorted_by key (x ∷ xs) = insert_by key x (sorted_by key xs)

  -- what is left where those of which a test holds are taken out
  unfoldable pub without : (A → Bool) → List A → List A
  without test [] = []
  without test (x ∷ xs) = cond (test x) (without test xs) (x ∷ without test xs)

-- whether a number stands in a list
unfoldable pub stands : ℕ → List ℕ → Bool
stands n ms = any (λ m. eqb m n) ms
