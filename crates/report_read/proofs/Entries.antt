-- An entry as it is read at its place. Assumes nothing.
use mathlib.Core.List.{List, map}
use mathlib.Core.Path.{◌≡◌, sym, ap, ◌∙◌}
use Prim.Native.Nat.{ℕ, ◌+◌, ◌*◌, ◌≤◌, ◌<◌}
use native.Mathlib.Nat.{add_assoc, add-zero}
use native.Mathlib.Omega.{arith}
use lib.ListN.{length, drop}
use Rattle.basis.specs.Bytes.{number_at}
use Rattle.basis.specs.Lists.{count_up}
use Rattle.basis.proofs.Rows.{number_at-drop}
use Rattle.meaning.specs.Masses.{gas_count, limit}
use Rattle.meaning.specs.Report.{figure_count, figure, entries_at, entry_length, entry_at, figure_in, entry_in}
use Rattle.meaning.proofs.Reports.{RightEntry, length-masses, figure_bounded, figure_read}
use Rattle.fields.specs.Fields.{Field}
use Rattle.report_read.specs.Entries.{entry_number}
use Rattle.report_read.specs.Figures.{figure_at, figures_at}

-- its number
pub number_read : (b : List ℕ) (i : ℕ) {n : ℕ} → Field 4 b (entries_at + entry_length * i) n → n ≡ entry_number b i
unfolding entry_number entry_in
number_read b i f = f.is ∙ rw (number_at-drop 4 b (entries_at + entry_length * i) 0, add-zero)

-- figures behind a place are those of what stands from there on
pub figures-drop : (count : ℕ) (b : List ℕ) (at p : ℕ) → figures_at count b (at + p) ≡ figures_at count (drop at b) p
unfolding figures_at
figures-drop count b at p =
    let e : (k : ℕ) → figure_at b (at + p) k ≡ figure_at (drop at b) p k = λ k. rw (number_at-drop 8 b at (p + 8 * k), add_assoc at p (8 * k)) in
    ap (λ (f : ℕ → ℕ). map f (count_up 0 count)) (λ i k. e k i)

-- the figures of a right entry, as they are read; none is above the limit
module _ {b : List ℕ} {i : ℕ} (e : RightEntry b i) where
  pub figure-stands : (k : ℕ) → k < figure_count → figure_at b (entries_at + entry_length * i + 8) k ≡ figure k (entry_in (entry_at b i))
  figure-stands k m =
      let at = entries_at + entry_length * i in
      let f : number_at 8 b (at + (8 + 8 * k)) ≡ figure_in (entry_at b i) k = sym (number_at-drop 8 b at (8 + 8 * k)) in
      rw (add_assoc at 8 (8 * k)) f ∙ sym (figure_read (entry_at b i) e.right k m)

  pub figure-small : (k : ℕ) → figure k (entry_in (entry_at b i)) ≤ limit
  figure-small k =
      let g : length (entry_in (entry_at b i)).masses ≤ gas_count = omega (arith, length-masses (entry_at b i)) in
      omega (arith, figure_bounded k (entry_in (entry_at b i)) g, e.kept)
