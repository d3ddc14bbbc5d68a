-- The numbers of the lines of a report's text, and how long lines are. Assumes nothing.
use Rattle.std.specs.Prelude.{List, ◌∷◌, map, ◌≡◌, ℕ, ◌*◌, ◌≤◌, length}
use Rattle.basis.specs.Lists.{joined}
use Rattle.meaning.specs.Report.{Entry, figures, totals, report_year, entry_at, entry_in, entries_of}
use Rattle.meaning.specs.Text.{text_line, report_text}
use Rattle.decimal_write.specs.Digits.{pair}

-- "year, count and the four totals"
unfoldable pub head_numbers : List ℕ → List ℕ
head_numbers b = report_year b ∷ length (entries_of b) ∷ totals (entries_of b)

-- "number, method, CO2, CH4, N2O, equivalent"
unfoldable pub entry_numbers : Entry → List ℕ
entry_numbers e = e.number ∷ e.method ∷ figures e

-- the line of these numbers is n bytes long, and each number has at most twenty digits
pub record Measured (ns : List ℕ) (n : ℕ) : Type 0 where
  pub is : n ≡ length (text_line ns)
  pub small : n ≤ 21 * length ns

-- "year, count", of the first line
unfoldable pub front_fields : List ℕ → List ℕ
front_fields b = pair (report_year b) (length (entries_of b)) 32

-- the line of entry i
unfoldable pub entry_line : List ℕ → ℕ → List ℕ
entry_line b i = text_line (entry_numbers (entry_in (entry_at b i)))

-- "one line an entry"
unfoldable pub entry_lines : List ℕ → List ℕ
entry_lines b = joined (map (λ e. text_line (entry_numbers e)) (entries_of b))

-- the text of a report
abbrev pub text_of : List ℕ → List ℕ
text_of b = report_text (report_year b) (entries_of b)
