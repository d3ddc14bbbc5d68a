-- Document 01, "The report program": a report's text. Assumes nothing.
use Rattle.std.specs.Prelude.{cond, List, [], ◌∷◌, ◌++◌, map, ℕ, zero, suc, ◌+◌, ◌/◌, ◌%◌, ltb, length}
use Rattle.basis.specs.Bytes.{ascii}
use Rattle.basis.specs.Lists.{joined}
use Rattle.meaning.specs.Report.{Entry, figures, totals}

-- a digit as a byte
abbrev pub digit : ℕ → ℕ
digit n = 48 + n

-- the digits of n, highest first, as bytes; fuel that is not below n is enough
unfoldable pub digits : ℕ → ℕ → List ℕ
digits zero n = digit n ∷ []
digits (suc fuel) n = let more = digits fuel (n / 10) ++ (digit (n % 10) ∷ []) in cond (ltb n 10) (digit n ∷ []) more

-- "numbers are plain decimals"
unfoldable pub decimal : ℕ → List ℕ
decimal n = digits n n

-- "One space parts fields, a line feed ends each line"
unfoldable pub text_line : List ℕ → List ℕ
text_line [] = 10 ∷ []
text_line (n ∷ []) = decimal n ++ (10 ∷ [])
text_line (n ∷ m ∷ ns) = decimal n ++ (32 ∷ text_line (m ∷ ns))

-- "year, count and the four totals, then one line an entry: number, method, CO2, CH4, N2O, equivalent"
unfoldable pub report_text : ℕ → List Entry → List ℕ
report_text year es = text_line (year ∷ length es ∷ totals es) ++ joined (map (λ e. text_line (e.number ∷ e.method ∷ figures e)) es)

-- "A refusal is the line `refused`, number, place"
unfoldable pub refused_line : ℕ → ℕ → List ℕ
refused_line number place = ascii "refused " ++ text_line (number ∷ place ∷ [])

-- the line of a call that leaves a file: `accepted`, length
unfoldable pub accepted_line : ℕ → List ℕ
accepted_line size = ascii "accepted " ++ text_line (size ∷ [])
