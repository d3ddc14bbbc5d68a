-- The parts of a report as their numbers are stated. Assumes nothing.
use Rattle.std.specs.Prelude.{List, [], ◌∷◌, ◌++◌, ℕ, length, replicate}
use Rattle.basis.specs.Bytes.{packed}
use Rattle.meaning.specs.Report.{report_tag, report_layout, entries_at, report_length}

-- figures, eight bytes each
unfoldable pub figure_bytes : List ℕ → List ℕ
figure_bytes figures = packed (replicate (length figures) 8) figures

-- an entry of a number, a method and figures
unfoldable pub stated_entry : ℕ → ℕ → List ℕ → List ℕ
stated_entry number method figures = packed (4 ∷ 1 ∷ 3 ∷ []) (number ∷ method ∷ 0 ∷ []) ++ figure_bytes figures

-- the header before the totals, of a year and a count
unfoldable pub stated_front : ℕ → ℕ → List ℕ
stated_front year n = report_tag ++ packed (2 ∷ 2 ∷ 2 ∷ 2 ∷ 4 ∷ 4 ∷ 4 ∷ []) (report_layout ∷ year ∷ n ∷ 0 ∷ entries_at ∷ report_length n ∷ 0 ∷ [])

-- the header of a year, a count and totals
unfoldable pub stated_header : ℕ → ℕ → List ℕ → List ℕ
stated_header year n totals = stated_front year n ++ figure_bytes totals
