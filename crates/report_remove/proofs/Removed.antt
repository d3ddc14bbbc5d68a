-- Removal: whether an entry has the number that was looked for, and which entries are left. Assumes nothing.
use mathlib.Core.Bool.{true, false}
use mathlib.Core.List.{List}
use mathlib.Core.Path.{◌≡◌}
use Prim.Native.Nat.{ℕ, ◌+◌, ◌-◌, ◌≤◌, ◌<◌}
use native.Mathlib.Nat.{zero-add}
use native.Mathlib.Numerals.{add-one}
use native.Mathlib.Omega.{arith}
use borrow.Author.Tests.{eqb-true, ne_eqb}
use Rattle.basis.specs.First.{first}
use Rattle.basis.specs.Lists.{Each, any, without}
use Rattle.basis.proofs.First.{first_≤, first_hits, first_misses}
use Rattle.basis.proofs.Lists.{each_map, each_append}
use Rattle.meaning.specs.Report.{entry_count, entries_of, number_before}
use Rattle.meaning.specs.Calls.{numbered}
use Rattle.meaning.proofs.Lengths.{Massed}
use Rattle.report_read.specs.Readable.{Readable}
use Rattle.report_read.specs.Entries.{entries_from, entry_number, numbered_at}
use Rattle.report_write.proofs.Rows.{entry, from_all, from_each, from_massed, all_above}
use Rattle.report_remove.specs.Others.{other_entries}
use Rattle.report_remove.proofs.Between.{any_none, any_between, without_between}
use Rattle.report_remove.proofs.Parted.{around}

pub others_massed : (b : List ℕ) (i : ℕ) → Each Massed (other_entries b i)
unfolding other_entries
others_massed b i =
    each_append Massed (entries_from b 0 i) (entries_from b (i + 1) (entry_count b - (i + 1))) (from_massed b 0 i) (from_massed b (i + 1) (entry_count b - (i + 1)))

-- the number that was looked for
module _ (b : List ℕ) (r : Readable b) (x i : ℕ) (e : i ≡ first (numbered_at b x) (entry_count b)) where
  before_not : Each (λ z. numbered x z ≡ false) (entries_from b 0 i)
  unfolding numbered_at entry_number
  before_not = from_each b (λ z. numbered x z ≡ false) i 0 (λ j p q. first_misses (numbered_at b x) (entry_count b) j (rw e at (rw (zero-add i) at q)))

  pub absent : entry_count b ≤ i → any (numbered x) (entries_of b) ≡ false
  absent l =
      let q : i ≡ entry_count b = omega (arith, e, first_≤ (numbered_at b x) (entry_count b)) in
      any_none (numbered x) (entries_of b) (rw (q, from_all b) at before_not)

  module _ (l : i < entry_count b) where
    hit : numbered x (entry b i) ≡ true
    unfolding numbered_at entry_number
    hit = rw e (first_hits (numbered_at b x) (entry_count b) (rw e at l))

    behind_not : Each (λ z. numbered x z ≡ false) (entries_from b (i + 1) (entry_count b - (i + 1)))
    unfolding number_before
    behind_not =
        let same : (entry b i).number ≡ x = eqb-true (entry b i).number x hit in
        each_map (λ z m. ne_eqb z.number x (λ f. absurd (omega arith))) (entries_from b (i + 1) (entry_count b - (i + 1)))
        (all_above b r x (entry_count b - (i + 1)) (i + 1) (omega arith) (rw (add-one i) (omega arith)))

    pub present : any (numbered x) (entries_of b) ≡ true
    present = rw (around b i l) (any_between (numbered x) (entries_from b 0 i) (entry b i) (entries_from b (i + 1) (entry_count b - (i + 1))) hit)

    pub without_is : without (numbered x) (entries_of b) ≡ other_entries b i
    unfolding other_entries
    without_is =
        rw (around b i l)
        (without_between (numbered x) (entries_from b 0 i) (entry b i) (entries_from b (i + 1) (entry_count b - (i + 1))) before_not hit behind_not)
