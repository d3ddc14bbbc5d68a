-- The tests of a combination, in two parts. Assumes nothing.
use Rattle.std.specs.Prelude.{List, [], ◌∷◌, ℕ}
use Rattle.basis.specs.Answers.{Verdict}
use Rattle.meaning.specs.Calls.{form_test, year_test, shared_test, count_test}

-- "9 for the first, 9 for the second"
unfoldable pub form_tests : List ℕ → List ℕ → List Verdict
form_tests one other = form_test one 1 ∷ form_test other 2 ∷ []

-- "10, 11, 12"
unfoldable pub entry_tests : List ℕ → List ℕ → List Verdict
entry_tests one other = year_test one other ∷ shared_test one other ∷ count_test one other ∷ []
