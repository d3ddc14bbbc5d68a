-- A report without one of its entries: the bytes of the entries that are left, and their header. Assumes nothing.
use mathlib.Core.List.{List}
use mathlib.Core.Path.{◌≡◌, sym}
use Prim.Native.Nat.{ℕ, ◌+◌, ◌*◌, ◌-◌, ◌≤◌, ◌<◌}
use native.Mathlib.Omega.{arith}
use lib.ListN.{length, take, drop, length-append}
use Rattle.basis.specs.Bytes.{Bytes, Written}
use Rattle.basis.proofs.Bytes.{written_then}
use Rattle.basis.proofs.Rows.{write_rows}
use Rattle.meaning.specs.Report.{totals, entries_at, entry_length, report_header, entry_bytes, report_year, entry_count, entry_in}
use Rattle.report_read.specs.Readable.{Readable}
use Rattle.report_write.specs.Parts.{stated_header}
use Rattle.report_write.proofs.Writing.{entry-stands}
use Rattle.report_read.specs.Entries.{entries_from, rows}
use Rattle.report_remove.specs.Others.{other_entries}
use Rattle.report_write.proofs.Rows.{from_massed, length_from, length-all, header_made}
use Rattle.report_remove.proofs.Parted.{rows_both}

-- a stretch of entries is the bytes that stand there
pub entries_carried : (b : List ℕ) (i k at : ℕ) (xs : List ℕ) {ys : List ℕ} → Bytes b
    → Readable b × (i + k ≤ entry_count b) × (at + entry_length * k ≤ length xs)
    → Written xs at (take (entries_at + entry_length * i + entry_length * k - (entries_at + entry_length * i)) (drop (entries_at + entry_length * i) b)) ys
    → Written xs at (rows (entries_from b i k)) ys
unfolding rows entries_from
entries_carried b i k at xs h r w =
    let q : entries_at + entry_length * i + entry_length * k - (entries_at + entry_length * i) ≡ entry_length * k = omega arith in
    rw (write_rows entry_bytes entry_in entry_length entries_at b k i (λ j l m. entry-stands b j h r.0 (omega (arith, r.1)))) (rw q at w)

-- the entries before the i-th, and those behind it
module _ (b : List ℕ) (i : ℕ) (l : i < entry_count b) where
  pub length_others : length (other_entries b i) ≡ entry_count b - 1
  unfolding other_entries
  length_others = rw (length-append, length_from b 0 i, length_from b (i + 1) (entry_count b - (i + 1))) (omega arith)

pub others_written : (b : List ℕ) (i : ℕ) {n : ℕ} {xs ys zs : List ℕ} → n ≡ entry_count b → Written xs entries_at (rows (entries_from b 0 i)) ys
    → Written ys (entries_at + entry_length * i) (rows (entries_from b (i + 1) (n - (i + 1)))) zs → Written xs entries_at (rows (other_entries b i)) zs
unfolding other_entries
others_written b i e w v =
    let q = length-all (entries_from b 0 i) (from_massed b 0 i) in
    let n = length_from b 0 i in
    rw (rows_both (entries_from b 0 i) (entries_from b (i + 1) (entry_count b - (i + 1)))) (written_then w (rw e at v) (omega (arith, q, n)))

-- the header of the others
pub other_header : (b : List ℕ) (i : ℕ) {y n : ℕ} {ts xs ys : List ℕ} → i < entry_count b → y ≡ report_year b → n ≡ entry_count b
    → ts ≡ totals (other_entries b i) → Written xs 0 (stated_header y (n - 1) ts) ys → Written xs 0 (report_header (report_year b) (other_entries b i)) ys
other_header b i l d e t w = header_made (report_year b) (other_entries b i) d (rw e (sym (length_others b i l))) t w
