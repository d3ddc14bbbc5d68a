-- How long the bytes of an entry and of a report are. Assumes nothing.
use mathlib.Core.List.{List, [], ◌∷◌}
use mathlib.Core.Path.{◌≡◌, refl}
use Prim.Native.Nat.{ℕ}
use native.Mathlib.Omega.{arith}
use lib.ListN.{length, replicate, length-append}
use Rattle.basis.specs.Bytes.{packed}
use Rattle.basis.specs.Lists.{Each, sum}
use Rattle.basis.proofs.Bytes.{length-packed}
use Rattle.basis.proofs.Counting.{length_counted}
use Rattle.basis.proofs.Rows.{length-rows}
use Rattle.meaning.specs.Masses.{gas_count, mass, masses}
use Rattle.meaning.specs.Register.{Source, decoded_lines}
use Rattle.meaning.specs.Report.{Entry, entry_of, figures, figure_count, totals, entries_at, entry_length, report_length, report_header, entry_bytes, report_bytes, entry_in}
use Rattle.meaning.proofs.Reports.{length-figures, length-totals}

-- an entry has a mass for each gas
abbrev pub Massed : Entry → Type 0
Massed e = length e.masses ≡ gas_count

pub source_massed : (s : Source) → Massed (entry_of s)
unfolding entry_of masses
source_massed s = length_counted (mass (decoded_lines s)) 0 gas_count

pub length-entry : (e : Entry) → Massed e → length (entry_bytes e) ≡ entry_length
unfolding entry_bytes sum
length-entry e m =
    let a : length (packed (4 ∷ 1 ∷ 3 ∷ []) (e.number ∷ e.method ∷ 0 ∷ [])) ≡ 8 = length-packed (4 ∷ 1 ∷ 3 ∷ []) (e.number ∷ e.method ∷ 0 ∷ []) refl in
    let f = length-figures e m in
    let b : length (packed (replicate figure_count 8) (figures e)) ≡ 32 = length-packed (replicate figure_count 8) (figures e) (omega arith) in
    rw (length-append, a, b)

pub length_header : (y : ℕ) (es : List Entry) → length (report_header y es) ≡ entries_at
unfolding report_header sum
length_header y es =
    let t = length-totals es in
    let b : length (packed (replicate figure_count 8) (totals es)) ≡ 32 = length-packed (replicate figure_count 8) (totals es) (omega arith) in
    rw (length-append, length-append, b, length-packed (2 ∷ 2 ∷ 2 ∷ 2 ∷ 4 ∷ 4 ∷ 4 ∷ []) _ refl)

pub length-report : (y : ℕ) (es : List Entry) → Each Massed es → length (report_bytes y es) ≡ report_length (length es)
unfolding report_bytes
length-report y es h = rw (length-append, length_header y es, length-rows entry_bytes entry_in entry_length Massed length-entry es h)
