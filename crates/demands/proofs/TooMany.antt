-- Reports of more than 512 entries together are refused with 12 and their count. Assumes nothing.
use mathlib.Core.List.{List}
use mathlib.Core.Logic.{inl, inr, ◌≢◌}
use mathlib.Core.Path.{◌≡◌, refl, sym, ap, ap₂, ◌∙◌}
use Prim.Native.Nat.{ℕ, zero, suc, ◌+◌, ◌≤◌, ◌<◌, ◌^◌}
use native.Mathlib.Omega.{arith}
use lib.ListN.{length}
use Rattle.basis.specs.Lists.{Each, count_up}
use Rattle.basis.proofs.Lists.{each_map}
use Rattle.meaning.specs.Report.{Entry, report_bytes}
use Rattle.meaning.specs.Calls.{combined}
use Rattle.demands.specs.Fields.{entries_in}
use Rattle.demands.specs.Valid.{Ascending, entry_number, Entered, Reportable}
use Rattle.demands.specs.Algebra.{refusal}
use Rattle.demands.specs.Shown.{many}
use Rattle.demands.proofs.Reports.{year-back, count-back, report-bytes}
use Rattle.demands.proofs.Holds.{is-report}
use Rattle.demands.proofs.Calls.{combination}
use Rattle.demands.proofs.Combined.{apart_nowhere}

module _ (y : ℕ) (xs zs : List Entry) (v : Reportable y xs) (w : Reportable y zs) (a : Each (λ x. Each (λ z. entry_number x ≢ entry_number z) zs) xs) where
  pub too_many_lem : 512 < length xs + length zs → (buffer : List ℕ) → (combined (report_bytes y xs) (report_bytes y zs) buffer).answer ≡ refusal 12 (length xs + length zs)
  too_many_lem l buffer =
      let one = report_bytes y xs in
      let other = report_bytes y zs in
      let n : length xs + length zs ≡ entries_in one + entries_in other = sym (ap₂ ◌+◌ (count-back y xs v) (count-back y zs w)) in
      ((combination one other (report-bytes y xs v) (report-bytes y zs w) buffer).exactly.refused 12 (length xs + length zs) (omega arith)).1
      (inr (
        λ m q r. r.2 y xs (is-report y xs v),
        inr (
          λ m q r. r.2 y zs (is-report y zs w),
          inr (
            λ m q r. r.2 (year-back y xs v ∙ sym (year-back y zs w)),
            inr (λ m q r. apart_nowhere y xs zs v w a q r.1, inl (refl, n, omega arith)),
          ),
        ),
      ))

-- entries with numbers one behind another
many-each : (from count : ℕ) → 0 < from → from + count ≤ 2 ^ 32 → Each Entered (many from count)
unfolding count_up
many-each from zero p l = tt
many-each from (suc count) p l =
    (record { number = omega arith; method = omega arith; gases = refl; within = omega arith }, many-each (from + 1) count (omega arith) (omega arith))

many_ascend : (n from count : ℕ) → n < from → Ascending entry_number n (many from count)
unfolding count_up
many_ascend n from zero l = tt
many_ascend n from (suc count) l = (l, many_ascend from (from + 1) count (omega arith))

many_between : (from count : ℕ) → Each (λ e. (from ≤ entry_number e) × (entry_number e < from + count)) (many from count)
unfolding count_up
many_between from zero = tt
many_between from (suc count) = (omega arith, each_map (λ e h. omega (arith, h)) (many (from + 1) count) (many_between (from + 1) count))

pub length-many : (from count : ℕ) → length (many from count) ≡ count
unfolding count_up
length-many from zero = refl
length-many from (suc count) = ap suc (length-many (from + 1) count)

pub many_make_lem : (from count : ℕ) → 0 < from → from + count ≤ 2 ^ 32 → count ≤ 512 → Reportable 2023 (many from count)
many_make_lem from count p l c =
    record {
      in_range = omega arith;
      count = rw (length-many from count) c;
      order = many_ascend 0 from count p;
      each = many-each from count p l;
    }

pub many-apart : (from count later : ℕ) → Each (λ x. Each (λ z. entry_number x ≢ entry_number z) (many (from + count) later)) (many from count)
many-apart from count later =
    each_map (λ x h. each_map (λ z g. omega (arith, h, g)) (many (from + count) later) (many_between (from + count) later)) (many from count) (many_between from count)
