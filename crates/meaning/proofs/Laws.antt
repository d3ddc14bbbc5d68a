-- What is written loses nothing: an entry for each source, and the entries of both reports. Assumes nothing.
use mathlib.Core.List.{List, ◌++◌, map, Perm}
use mathlib.Core.Path.{◌≡◌, ◌∙◌}
use Prim.Native.Nat.{ℕ}
use lib.ListN.{length, length-map}
use Rattle.basis.proofs.Lists.{sorted_by_perm, length-sorted_by}
use Rattle.meaning.specs.Register.{Source}
use Rattle.meaning.specs.Report.{Entry, entry_of, in_order, entries_of}
use Rattle.meaning.specs.Calls.{entries_for, both_entries}

pub in_order_perm : (es : List Entry) → Perm (in_order es) es
unfolding in_order
in_order_perm es = ∣ sorted_by_perm (λ e. e.number) es ∣₁

pub length-in_order : (es : List Entry) → length (in_order es) ≡ length es
unfolding in_order
length-in_order = length-sorted_by (λ e. e.number)

-- equal names and equal lines are two sources: each source has its own entry
pub one-entry-each : (ss : List Source) → Perm (entries_for ss) (map entry_of ss) × (length (entries_for ss) ≡ length ss)
unfolding entries_for
one-entry-each ss = (in_order_perm (map entry_of ss), length-in_order (map entry_of ss) ∙ length-map ss entry_of)

-- a combination has the entries of both, and no others
pub entries_of_both : (one other : List ℕ) → Perm (both_entries one other) (entries_of one ++ entries_of other)
unfolding both_entries
entries_of_both one other = in_order_perm (entries_of one ++ entries_of other)
