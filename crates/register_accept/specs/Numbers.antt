-- The numbers of a register's sources, and what is found of them. Assumes nothing.
use Rattle.std.specs.Prelude.{Bool, true, false, List, map, ◌≡◌, ℕ}
use Rattle.hash_repeats.specs.declared.Standing.{Standing}
use Rattle.hash_repeats.specs.declared.Standing.TheVariants.{Once, Twice, Open}
use Rattle.meaning.specs.Register.{sources_of}

-- the numbers of all sources
abbrev pub numbers_of : List ℕ → List ℕ
numbers_of b = map (λ s. s.number) (sources_of b)

-- what is found of the numbers tells whether test 4 passes
abbrev pub Tells : Standing → Bool → Type 0
Tells Once ok = true ≡ ok
Tells Twice ok = false ≡ ok
Tells Open ok = Unit {0}
