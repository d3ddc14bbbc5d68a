-- The front of a report, up to its count, and what is wrong with an entry's equivalent. Assumes nothing.
use Rattle.std.specs.Prelude.{Bool, not, ◌&&◌, ◌||◌, List, ℕ, eqb, ltb, leb, length}
use Rattle.basis.specs.Bytes.{number_at, starts_with}
use Rattle.meaning.specs.Masses.{gas_count, equivalent, limit}
use Rattle.meaning.specs.Register.{is_year, most_sources}
use Rattle.meaning.specs.Report.{report_tag, report_layout, report_length, report_year, entry_count, figure_in, entry_in}

-- a header's length, tag, layout, year and count are right
unfoldable pub front_right : List ℕ → Bool
front_right b =
    let n = entry_count b in
    eqb (length b) (report_length n) && starts_with report_tag b && eqb (number_at 2 b 4) report_layout && is_year (report_year b) && leb n most_sources

-- "each equivalent right and at most 10^15": an entry's is not
unfoldable pub wrong_equivalent : List ℕ → Bool
wrong_equivalent r = not (eqb (figure_in r gas_count) (equivalent (entry_in r).masses)) || ltb limit (equivalent (entry_in r).masses)
