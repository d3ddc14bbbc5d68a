-- The totals do not go by the order of the entries. Assumes nothing.
use mathlib.Core.List.{List, map}
use mathlib.Core.Path.{◌≡◌}
use Rattle.basis.specs.Lists.{sum}
use Rattle.basis.proofs.Lists.{sum_perm, sorted_by_perm}
use Rattle.basis.proofs.ByIndex.{same-by_index}
use Rattle.meaning.specs.Report.{Entry, figure_count, figure, totals, in_order}

pub totals-in_order : (es : List Entry) → totals (in_order es) ≡ totals es
unfolding totals in_order
totals-in_order es =
    same-by_index (λ k. sum (map (figure k) (in_order es))) (λ k. sum (map (figure k) es)) figure_count 0
    (λ k l m. sum_perm (figure k) (sorted_by_perm (λ e. e.number) es))
