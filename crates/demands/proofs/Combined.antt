-- What combination makes of two reports that go together; the reports of sources, as the third demand has them. Assumes nothing.
use Rattle.std.specs.Prelude.{Err, Ok}
use mathlib.Core.Bool.{not}
use mathlib.Core.List.Permᴰ
use mathlib.Core.List.{List, [], ◌∷◌, ◌++◌, map, map-append, Permᴰ}
use mathlib.Core.Logic.{◌≢◌}
use mathlib.Core.Path.{◌≡◌, refl, sym, ap, ap₂, subst, ◌∙◌}
use Prim.Native.Nat.{ℕ, ◌+◌, ◌≤◌}
use native.Mathlib.Omega.{arith}
use lib.ListN.{length, get_or, take, drop, length-append, length-map}
use lib.Seq.{take_at}
use borrow.Author.Tests.{eqb-true}
use Rattle.basis.specs.Answers.{Verdict, Passes, first_refusal, Outcome, settled}
use Rattle.basis.specs.Bytes.{splice}
use Rattle.basis.specs.Lists.{Each, joined}
use Rattle.basis.proofs.Lists.{◌&◌, sorted_by_perm, each_at, each-split}
use Rattle.meaning.proofs.Laws.{length-in_order}
use Rattle.meaning.specs.Register.{Source, most_sources}
use Rattle.meaning.specs.Report.{Entry, entry_of, in_order, report_bytes, report_length, report_year, entry_count, well_formed}
use Rattle.meaning.specs.Calls.{written, room_test, shared_test, both_entries, entries_for, numbered, combined, combination_tests}
use Rattle.meaning.proofs.Sources.{source_number}
use Rattle.demands.specs.Valid.{Distinct, entry_number, no_entry, Reportable}
use Rattle.demands.specs.Exactly.{Row, Nowhere}
use Rattle.demands.specs.Refusals.{InBoth}
use Rattle.demands.specs.Trees.{Tree, leaves, wrote, Accepted, result, EachAccepted, Room}
use Rattle.basis.proofs.Counting.{any_some}
use Rattle.basis.proofs.Answers.{passes-each, if_passed}
use Rattle.demands.proofs.Compared.{equal_passes, within-passes, enough_room}
use Rattle.demands.proofs.Exactly.{Decides}
use Rattle.demands.proofs.Reports.{year-back, count-back, entries-back, report-right, report-bytes, length-report}
use Rattle.demands.proofs.ReportTests.{has, shared_decides, both_make}
use Rattle.demands.proofs.Calculated.{Calculable, entries_distinct, sources_make}
use Rattle.demands.proofs.Order.{distinct_perm, sorted_perm}
use Rattle.demands.proofs.Trees.{Makes, makes-split, makes_perm, Reporting, dealt}

-- an accepted call that writes: what it made stands at the front
splice_front : (xs ys : List ℕ) → take (length ys) (splice xs 0 ys) ≡ ys
unfolding splice
splice_front xs ys = take_at ys (drop (0 + length ys) xs) (length ys) refl

pub accepted-written : (tests : List Verdict) (made buffer : List ℕ) → first_refusal (tests ++ (room_test made buffer ∷ [])) ≡ Passes
    → Accepted (written tests made buffer) × (wrote (written tests made buffer) ≡ made)
unfolding written settled
accepted-written tests made buffer e =
    let f = ap (λ (v : Verdict). settled v made buffer) e in
    (ap (λ (o : Outcome). o.answer.number) f, ap wrote f ∙ splice_front buffer made)

pub nowhere_passes : (v : Verdict) (row : Row) → Decides v row → Nowhere row → v ≡ Passes
nowhere_passes (Ok done) row d n = refl
nowhere_passes (Err refusal) row d n = absurd (n refusal.number refusal.place ((d refusal.number refusal.place).0 refl))

module _ (y : ℕ) (xs zs : List Entry) (v : Reportable y xs) (w : Reportable y zs) where
  pub apart_nowhere : Each (λ x. Each (λ z. entry_number x ≢ entry_number z) zs) xs → (p : ℕ) → InBoth (report_bytes y xs) (report_bytes y zs) p → ⊥
  apart_nowhere a p r =
      let f = any_some (numbered p) no_entry xs (rw (entries-back y xs v) at (has (report_bytes y xs) (report-bytes y xs v) (report-right y xs v) p r.0)) in
      let g = any_some (numbered p) no_entry zs (rw (entries-back y zs w) at (has (report_bytes y zs) (report-bytes y zs w) (report-right y zs w) p r.1)) in
      each_at (λ z. entry_number (get_or xs f.0 no_entry) ≢ entry_number z) zs no_entry
      (each_at (λ x. Each (λ z. entry_number x ≢ entry_number z) zs) xs no_entry a f.0 f.1) g.0 g.1
      (eqb-true _ p f.2 ∙ sym (eqb-true _ p g.2))

  pub combined_writes : Each (λ x. Each (λ z. entry_number x ≢ entry_number z) zs) xs → length xs + length zs ≤ most_sources
      → (buffer : List ℕ) → report_length (length xs + length zs) ≤ length buffer
      → Accepted (combined (report_bytes y xs) (report_bytes y zs) buffer) × (wrote (combined (report_bytes y xs) (report_bytes y zs) buffer) ≡ report_bytes y (in_order (xs ++ zs)))
  unfolding combined both_entries
  combined_writes a n buffer o =
      let one = report_bytes y xs in
      let other = report_bytes y zs in
      let made = report_bytes (report_year one) (both_entries one other) in
      let is : made ≡ report_bytes y (in_order (xs ++ zs)) =
      ap₂ report_bytes (year-back y xs v) (ap in_order (ap₂ ◌++◌ (entries-back y xs v) (entries-back y zs w))) in
      let long : length made ≡ report_length (length xs + length zs) =
      ap length is ∙ length-report y (in_order (xs ++ zs)) (both_make xs zs v w a n) ∙ ap report_length (length-in_order (xs ++ zs) ∙ length-append xs zs) in
      let few : entry_count one + entry_count other ≤ most_sources = rw (count-back y xs v, count-back y zs w) n in
      let r =
      accepted-written (combination_tests one other) made buffer
      (passes-each (combination_tests one other ++ (room_test made buffer ∷ []))
      (if_passed (not (well_formed one)) 9 1 (ap not (report-right y xs v))
      & if_passed (not (well_formed other)) 9 2 (ap not (report-right y zs w))
      & equal_passes (report_year one) (report_year other) 10 0 (year-back y xs v ∙ sym (year-back y zs w))
      & nowhere_passes (shared_test one other) _
      (shared_decides one other (report-bytes y xs v) (report-bytes y zs w) (report-right y xs v) (report-right y zs w))
      (λ m q t. apart_nowhere a q t.1)
      & within-passes most_sources (entry_count one + entry_count other) 12 (entry_count one + entry_count other) few
      & enough_room made buffer (omega arith)
      & tt)) in
      (r.0, r.1 ∙ is)

-- two lists whose keys are all different are apart
pub apart : {A : Type 0} (key : A → ℕ) (xs ys : List A) → Distinct key (xs ++ ys) → Each (λ x. Each (λ y. key x ≢ key y) ys) xs
apart key [] ys d = tt
apart key (x ∷ xs) ys d = ((each-split (λ y. key x ≢ key y) xs ys d.0).1, apart key xs ys d.1)

-- the program's own instance
abbrev pub InYears : ℕ → Type 0
InYears y = (1990 ≤ y) × (y ≤ 2100)

abbrev pub Sources : ℕ → List Source → Type 0
Sources = Makes source_number entry_number entry_of Calculable InYears report_bytes entry_count report_length most_sources combined

pub sources-split : (y : ℕ) (ss ts : List Source) → Sources y (ss ++ ts) → Sources y ss × Sources y ts
sources-split = makes-split source_number entry_number entry_of Calculable InYears report_bytes entry_count report_length most_sources combined

pub sources_perm : (y : ℕ) {ss ts : List Source} → Permᴰ ss ts → Sources y ss → Sources y ts
sources_perm = makes_perm source_number entry_number entry_of Calculable InYears report_bytes entry_count report_length most_sources combined

pub made_of : (y : ℕ) (ss : List Source) → Sources y ss → Reportable y (entries_for ss)
made_of y ss m = sources_make y ss m.year m.few m.sound m.once

pub length-entries : (ss : List Source) → length (entries_for ss) ≡ length ss
unfolding entries_for
length-entries ss = length-in_order (map entry_of ss) ∙ length-map ss entry_of

-- order of what is in order already, and put together
both_perm : (xs zs : List Entry) → Permᴰ (in_order xs ++ in_order zs) (xs ++ zs)
unfolding in_order
both_perm xs zs =
    Permᴰ.trans (Permᴰ.append_right (in_order zs) (sorted_by_perm entry_number xs)) (Permᴰ.append_left xs (sorted_by_perm entry_number zs))

pub both_distinct : (xs zs : List Entry) → Distinct entry_number (xs ++ zs) → Distinct entry_number (in_order xs ++ in_order zs)
both_distinct xs zs d = distinct_perm entry_number (Permᴰ.symm (both_perm xs zs)) d

pub sorted_both : (xs zs : List Entry) → Distinct entry_number (xs ++ zs) → in_order (in_order xs ++ in_order zs) ≡ in_order (xs ++ zs)
unfolding in_order
sorted_both xs zs d = sorted_perm entry_number (both_perm xs zs) (both_distinct xs zs d)

pub reporting : Reporting source_number entry_number entry_of Calculable InYears report_bytes entry_count report_length most_sources combined
unfolding entries_for in_order entry_of
reporting =
    record {
      keyed = λ s. refl;
      counted = λ y ss m. count-back y (entries_for ss) (made_of y ss m) ∙ length-entries ss;
      combined = λ y ss ts m buffer o.
          let h = sources-split y ss ts m in
          let f : map entry_of (ss ++ ts) ≡ map entry_of ss ++ map entry_of ts = map-append entry_of ss ts in
          let d : Distinct entry_number (map entry_of ss ++ map entry_of ts) = subst (Distinct entry_number) f (entries_distinct (ss ++ ts) m.once) in
          let n : length (entries_for ss) + length (entries_for ts) ≡ length ss + length ts = ap₂ ◌+◌ (length-entries ss) (length-entries ts) in
          let l = rw (length-append ss ts) at m.few in
          let r =
          combined_writes y (entries_for ss) (entries_for ts) (made_of y ss h.0) (made_of y ts h.1)
          (apart entry_number (entries_for ss) (entries_for ts) (both_distinct (map entry_of ss) (map entry_of ts) d)) (omega arith) buffer (omega arith) in
          (r.0, r.1 ∙ ap (report_bytes y) (sorted_both (map entry_of ss) (map entry_of ts) d ∙ ap in_order (sym f)));
    }

pub sources-dealt : (y : ℕ) (ss : List Source) (sss : List (List Source)) → Permᴰ (joined sss) ss → Sources y ss
    → (t : Tree) → Permᴰ (leaves t) (map (λ ts. report_bytes y (entries_for ts)) sss)
    → Room entry_count report_length t → EachAccepted combined t × (result combined t ≡ report_bytes y (entries_for ss))
unfolding entries_for in_order
sources-dealt = dealt source_number entry_number entry_of Calculable InYears report_bytes entry_count report_length most_sources combined reporting
