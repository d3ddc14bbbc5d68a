-- Combining many reports, in any order and any grouping. Assumes nothing.
use Rattle.std.specs.Prelude.{List, [], ◌∷◌, ◌++◌, ◌≡◌, ℕ, ◌+◌, ◌≤◌, length, take}
use Rattle.basis.specs.Answers.{Outcome}

-- reports at the leaves; at each node the buffer that is lent to the combination of its two sides
pub data Tree : Type 0 where
  report : List ℕ → Tree
  combine : Tree → Tree → List ℕ → Tree

-- the reports of a tree, each as often as it stands there
abbrev pub leaves : Tree → List (List ℕ)
leaves (report r) = r ∷ []
leaves (combine t u buffer) = leaves t ++ leaves u

-- what a call wrote: so many bytes at the front of its buffer as it answered
abbrev pub wrote : Outcome → List ℕ
wrote o = take o.answer.length o.left

abbrev pub Accepted : Outcome → Type 0
Accepted o = o.answer.number ≡ 0

module _ (combines : List ℕ → List ℕ → List ℕ → Outcome) where
  -- what the root of a tree writes
  abbrev pub result : Tree → List ℕ
  result (report r) = r
  result (combine t u buffer) = wrote (combines (result t) (result u) buffer)

  -- each combination is accepted
  abbrev pub EachAccepted : Tree → Type 0
  EachAccepted (report r) = Unit {0}
  EachAccepted (combine t u buffer) = EachAccepted t × EachAccepted u × Accepted (combines (result t) (result u) buffer)

module _ (count : List ℕ → ℕ) (needed : ℕ → ℕ) where
  -- the entries of all reports of a tree
  abbrev pub entries : Tree → ℕ
  entries (report r) = count r
  entries (combine t u buffer) = entries t + entries u

  -- each buffer has room for the report of all entries below it
  abbrev pub Room : Tree → Type 0
  Room (report r) = Unit {0}
  Room (combine t u buffer) = Room t × Room u × (needed (entries t + entries u) ≤ length buffer)
