-- The third demand: an accepted register's sources, dealt out in any way. Assumes nothing.
use mathlib.Core.HLevel.{Unit-prop, ×_prop, ×₃_prop}
use mathlib.Core.List.{List, [], ◌∷◌, map, is_set, Permᴰ}
use mathlib.Core.Logic.{∥∥₁_elim}
use mathlib.Core.Path.{◌≡◌, refl, sym, ap, ap₂, subst, ◌∙◌}
use Prim.Native.Nat.{ℕ, ◌<◌}
use native.Mathlib.Nat.{ℕ_set}
use lib.ListN.{length}
use Rattle.basis.proofs.Lists.{each_at}
use Rattle.basis.specs.Bytes.{Bytes}
use Rattle.basis.specs.Lists.{Each, joined}
use Rattle.basis.specs.Answers.{Outcome}
use Rattle.meaning.specs.Register.{Source, year_of, sources_of}
use Rattle.meaning.specs.Report.{report_bytes}
use Rattle.meaning.specs.Calls.{entries_for, calculated, combined, calculation_tests, calculated_report}
use Rattle.meaning.proofs.Sources.{no_source, source_number, length-sources, source-at}
use Rattle.demands.specs.Valid.{Distinct, LaidRight}
use Rattle.demands.specs.Trees.{Tree, report, combine, leaves, wrote, Accepted, result, EachAccepted}
use Rattle.demands.specs.Demand3.{Lent, Dealt, calculation, Dealing}
use Rattle.demands.proofs.Registers.{Passed}
use Rattle.demands.proofs.Calculated.{Calculable, accepted, accepting}
use Rattle.demands.proofs.Combined.{accepted-written, Sources, sources-split, sources_perm, sources-dealt}

-- what is said of answers and of bytes is said in one way only
pub each_prop : {A : Type 0} {P : A → Type 0} → ((x : A) → IsProp (P x)) → (xs : List A) → IsProp (Each P xs)
each_prop h [] = Unit-prop
each_prop h (x ∷ xs) = ×_prop (h x) (each_prop h xs)

accepted_prop : (o : Outcome) → IsProp (Accepted o)
accepted_prop o = ℕ_set o.answer.number 0

bytes_prop : (xs ys : List ℕ) → IsProp (xs ≡ ys)
bytes_prop = is_set ℕ_set

tree_prop : (t : Tree) → IsProp (EachAccepted combined t)
tree_prop (report r) = Unit-prop
tree_prop (combine t u buffer) = ×₃_prop (tree_prop t) (tree_prop u) (accepted_prop (combined (result combined t) (result combined u) buffer))

-- a register that is laid right passes 1 to 4 where its sources are sound and different
laid-passed : (b : List ℕ) → LaidRight b → Each Calculable (sources_of b) → Distinct source_number (sources_of b) → Passed b
laid-passed b l c d =
    record {
      laid = l;
      sound = λ i m. let n : i < length (sources_of b) = rw (length-sources b) m in rw (source-at b i m) at (each_at Calculable (sources_of b) no_source c i n).sound;
      once = d;
    }

-- an accepted register's sources make a report, and it is the one written
pub calculated-made : (p : Lent) → Bytes p.register → Accepted (calculation p)
    → Sources (year_of p.register) (sources_of p.register) × (wrote (calculation p) ≡ report_bytes (year_of p.register) (entries_for (sources_of p.register)))
unfolding calculated
calculated-made p h e =
    let b = p.register in
    let r = accepted b h p.buffer e in (
      record { year = r.0.laid.year; sound = r.1; once = r.0.once; few = rw (length-sources b) r.0.laid.sources },
      (accepted-written (calculation_tests b) (calculated_report b) p.buffer r.2).1,
    )

-- sources that make a report are calculated, with room
pub made-calculated : (p : Lent) → Dealt (year_of p.register) p → Sources (year_of p.register) (sources_of p.register)
    → Accepted (calculation p) × (wrote (calculation p) ≡ report_bytes (year_of p.register) (entries_for (sources_of p.register)))
unfolding calculated
made-calculated p d m =
    let b = p.register in
    accepted-written (calculation_tests b) (calculated_report b) p.buffer
    (accepting b d.bytes p.buffer (laid-passed b d.laid m.sound m.once) m.sound d.room)

module _ (y : ℕ) where
  pub part-calculated : (p : Lent) → Dealt y p → Sources y (sources_of p.register)
      → Accepted (calculation p) × (wrote (calculation p) ≡ report_bytes y (entries_for (sources_of p.register)))
  part-calculated p d m =
      let e = d.same_year in
      let r =
      made-calculated p (record { bytes = d.bytes; laid = d.laid; same_year = refl; room = d.room })
      (subst (λ (z : ℕ). Sources z (sources_of p.register)) (sym e) m) in
      (r.0, r.1 ∙ ap (λ (z : ℕ). report_bytes z (entries_for (sources_of p.register))) e)

  abbrev sources : Lent → List Source
  sources p = sources_of p.register

  parts-calculated : (parts : List Lent) → Each (Dealt y) parts → Sources y (joined (map sources parts))
      → Each (λ p. Accepted (calculation p)) parts × (map (λ p. wrote (calculation p)) parts ≡ map (λ ss. report_bytes y (entries_for ss)) (map sources parts))
  unfolding joined
  parts-calculated [] d m = (tt, refl)
  parts-calculated (p ∷ ps) d m =
      let h = sources-split y (sources p) (joined (map sources ps)) m in
      let one = part-calculated p d.0 h.0 in
      let rest = parts-calculated ps d.1 h.1 in
      ((one.0, rest.0), ap₂ ◌∷◌ one.1 rest.1)

pub dealing : Dealing
dealing whole parts h a d perm =
    let b = whole.register in
    let y = year_of b in
    let r = calculated-made whole h a in
    let all : Permᴰ (joined (map (sources y) parts)) (sources_of b) → Sources y (joined (map (sources y) parts)) =
    λ q. sources_perm y (mathlib.Core.List.Permᴰ.symm q) r.0 in (
      ∥∥₁_elim perm (each_prop (λ p. accepted_prop (calculation p)) parts) (λ q. (parts-calculated y parts d (all q)).0),
      λ t l o. ∥∥₁_elim perm (×_prop (tree_prop t) (bytes_prop (result combined t) (wrote (calculation whole))))
          (λ q. ∥∥₁_elim l (×_prop (tree_prop t) (bytes_prop (result combined t) (wrote (calculation whole))))
          (λ k.
          let f = (parts-calculated y parts d (all q)).1 in
          let g =
          sources-dealt y (sources_of b) (map (sources y) parts) q r.0 t
          (subst (Permᴰ (leaves t)) f k) o in
          (g.0, g.1 ∙ sym r.1))),
    )
