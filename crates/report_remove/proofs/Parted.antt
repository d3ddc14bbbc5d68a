-- The entries of a report parted at one: those before it and those behind it, their bytes, and the totals without its figures. Assumes nothing.
use mathlib.Core.List.{List, [], ◌∷◌, ◌++◌, map, append_assoc}
use mathlib.Core.Path.{◌≡◌, refl, sym, ap, ◌∙◌}
use Prim.Native.Nat.{ℕ, zero, suc, ◌+◌, ◌*◌, ◌-◌, ◌<◌}
use native.Mathlib.Nat.{add-zero, zero-add}
use native.Mathlib.Omega.{arith}
use lib.ListN.{get_or}
use Rattle.basis.specs.Lists.{sum, count_up, joined}
use Rattle.basis.proofs.Lists.{sum_both}
use Rattle.meaning.specs.Report.{Entry, figure_count, figure, totals, entries_at, entry_length, entry_bytes, entry_count, entries_of}
use Rattle.meaning.proofs.Reports.{formed, totals-by}
use Rattle.report_read.specs.Figures.{figure_at, figures_at, taken_at, Takeable}
use Rattle.report_read.specs.Readable.{Readable}
use Rattle.report_read.proofs.Entries.{figure-stands}
use Rattle.report_read.specs.Entries.{entries_from, rows}
use Rattle.report_write.proofs.Rows.{entry, from_more, from_all, length-stated, stated-is}
use Rattle.report_remove.specs.Others.{other_entries}

module _ (b : List ℕ) where
  from-split : (i j k : ℕ) → entries_from b i (j + k) ≡ entries_from b i j ++ entries_from b (i + j) k
  unfolding entries_from count_up
  from-split i zero k = rw (zero-add k, add-zero i)
  from-split i (suc j) k =
      let q : suc j + k ≡ suc (j + k) = omega arith in
      let r : i + 1 + j ≡ i + suc j = omega arith in
      rw (q, from-split (i + 1) j k, r)

  -- an entry stands between those before it and those behind it
  pub around : (i : ℕ) → i < entry_count b → entries_of b ≡ entries_from b 0 i ++ entry b i ∷ entries_from b (i + 1) (entry_count b - (i + 1))
  around i l =
      by (entry_count b - (i + 1)) (omega arith)
    where
      by : (k : ℕ) → entry_count b ≡ i + suc k → entries_of b ≡ entries_from b 0 i ++ entry b i ∷ entries_from b (i + 1) k
      by k q = sym (from_all b) ∙ ap (entries_from b 0) q ∙ from-split 0 i (suc k) ∙ rw (zero-add i, from_more b i k)

pub rows_both : (es fs : List Entry) → rows (es ++ fs) ≡ rows es ++ rows fs
unfolding rows joined
rows_both [] fs = refl
rows_both (e ∷ es) fs = rw (rows_both es fs) (sym (append_assoc (entry_bytes e) (rows es) (rows fs)))

-- the totals of a report less the figures of an entry
module _ (b : List ℕ) (i : ℕ) (r : Readable b × (i < entry_count b)) {ts : List ℕ} (e : ts ≡ figures_at figure_count b 24) where
  stated : (k : ℕ) → k < figure_count → figure_at b (entries_at + entry_length * i + 8) k ≡ figure k (entry b i)
  stated k l = figure-stands ((formed b r.0.right).entry i r.1) k l

  parts : (k : ℕ) → k < figure_count → get_or ts k 0 ≡ sum (map (figure k) (other_entries b i)) + figure k (entry b i)
  unfolding other_entries sum
  parts k l =
      let front = entries_from b 0 i in
      let back = entries_from b (i + 1) (entry_count b - (i + 1)) in
      stated-is r.0 e k l
      ∙ rw (around b i r.1, sum_both (figure k) front (entry b i ∷ back), sum_both (figure k) front back) (omega arith)

  pub others_held : Takeable b (entries_at + entry_length * i + 8) ts
  others_held =
      record {
        stand = omega (arith, length-stated r.0 e, r.0.filled, r.1);
        held = λ k l. let m : k < figure_count = rw (length-stated r.0 e) at l in omega (arith, parts k m, stated k m);
      }

  pub others_taken : {us : List ℕ} → us ≡ taken_at b (entries_at + entry_length * i + 8) ts → us ≡ totals (other_entries b i)
  unfolding taken_at
  others_taken u =
      u ∙ rw (length-stated r.0 e)
      (totals-by (λ k. get_or ts k 0 - figure_at b (entries_at + entry_length * i + 8) k) (other_entries b i) (λ k l. rw (parts k l, stated k l) (omega arith)))
