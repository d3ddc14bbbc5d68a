-- When a call refuses, written out without the call: its rows, in the table's order, each with its condition. Assumes nothing.
use Rattle.std.specs.Prelude.{List, [], ◌∷◌, ◌⊎◌, ◌↔◌, ◌≢◌, ◌≡◌, ℕ, ◌<◌}
use Rattle.basis.specs.declared.Answer.{Answer}

-- a row says with which number and at which place it refuses
abbrev pub Row : Type 1
Row = ℕ → ℕ → Type 0

abbrev pub Nowhere : Row → Type 0
Nowhere row = (number place : ℕ) → row number place → ⊥

-- with this number at this place, when a condition holds
abbrev pub at : ℕ → ℕ → Type 0 → Row
at number place condition n p = (n ≡ number) × (p ≡ place) × condition

-- at an index below a count that is wrong, none before it being wrong; the number may go by what is wrong
abbrev pub at_smallest : ℕ → (ℕ → ℕ → Type 0) → Row
at_smallest count wrong n p = (p < count) × wrong n p × ((k : ℕ) → k < p → (m : ℕ) → wrong m k → ⊥)

abbrev pub with_number : ℕ → (ℕ → Type 0) → ℕ → ℕ → Type 0
with_number number wrong n i = (n ≡ number) × wrong i

-- a row of a list refuses, and no earlier one does
abbrev pub FirstOf : List Row → Row
FirstOf [] n p = ⊥
FirstOf (row ∷ rows) n p = row n p ⊎ (Nowhere row × FirstOf rows n p)

-- an answer is given exactly when the table says: a number and place where a row refuses so and no earlier one refuses; acceptance where no row
-- refuses
pub record Exactly (rows : List Row) (a : Answer) : Type 0 where
  pub refused : (n p : ℕ) → n ≢ 0 → (a ≡ record { number = n; place = p; length = 0 }) ↔ FirstOf rows n p
  pub accepted : (a.number ≡ 0) ↔ ((n p : ℕ) → FirstOf rows n p → ⊥)
