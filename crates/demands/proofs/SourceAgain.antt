-- A source removed from its register's report, and its own report combined again. Assumes nothing.
use mathlib.Core.List.Permᴰ
use mathlib.Core.List.{List, [], ◌∷◌, map, Permᴰ}
use mathlib.Core.Path.{◌≡◌, refl, sym, ap, subst, subst₂, ◌∙◌}
use Prim.Native.Nat.{ℕ, zero, suc, ◌<◌, zero-le, suc-le-suc}
use native.Mathlib.Nat.{not-suc-le-zero, le_of_suc-le-suc}
use native.Mathlib.Omega.{arith}
use lib.ListN.{length, get_or, length-map, get_or-map}
use Rattle.basis.specs.Lists.{insert_by, sorted_by}
use Rattle.basis.proofs.Lists.{sorted_by_perm, each_at}
use Rattle.meaning.specs.Register.{Source, year_of, source_count, sources_of}
use Rattle.meaning.specs.Report.{entry_of, in_order, report_bytes}
use Rattle.meaning.specs.Calls.{entries_for, removed}
use Rattle.meaning.proofs.Sources.{length-sources}
use Rattle.demands.specs.Valid.{entry_number}
use Rattle.demands.specs.Trees.{wrote, Accepted}
use Rattle.demands.specs.Demand3.{calculation, CombinesTo, SourceAgain}
use Rattle.demands.proofs.Calculated.{Calculable}
use Rattle.demands.proofs.Combined.{Sources, made_of, length-entries}
use Rattle.demands.proofs.Dealing.{calculated-made, part-calculated}
use Rattle.demands.proofs.Removal.{again}

-- what stands in a list stands in what is dealt of it
perm_index : {A : Type 0} (d : A) {xs ys : List A} → Permᴰ xs ys → (j : ℕ) → j < length xs → (k : ℕ) × (k < length ys) × (get_or ys k d ≡ get_or xs j d)
perm_index d Permᴰ.nil j l = absurd (not-suc-le-zero l)
perm_index d (Permᴰ.cons e p) zero l = (0, suc-le-suc zero-le, sym e)
perm_index d (Permᴰ.cons e p) (suc j) l = let r = perm_index d p j (le_of_suc-le-suc l) in (suc r.0, suc-le-suc r.1, r.2)
perm_index d (Permᴰ.swap e f) zero l = (1, suc-le-suc (suc-le-suc zero-le), sym e)
perm_index d (Permᴰ.swap e f) (suc zero) l = (0, suc-le-suc zero-le, sym f)
perm_index d (Permᴰ.swap e f) (suc (suc j)) l = (suc (suc j), l, refl)
perm_index d (Permᴰ.trans p q) j l =
    let r = perm_index d p j l in
    let s = perm_index d q r.0 r.1 in
    (s.0, s.1, s.2 ∙ r.2)

entry_index : (ss : List Source) (s : Source) (i : ℕ) → i < length ss → get_or ss i s ≡ s
    → (k : ℕ) × (k < length (entries_for ss)) × (get_or (entries_for ss) k (entry_of s) ≡ entry_of s)
unfolding entries_for in_order
entry_index ss s i l q =
    let m : i < length (map entry_of ss) = rw (length-map ss entry_of) l in
    let r = perm_index (entry_of s) (Permᴰ.symm (sorted_by_perm entry_number (map entry_of ss))) i m in
    (r.0, r.1, r.2 ∙ get_or-map entry_of ss i s ∙ ap entry_of q)

pub source-again : SourceAgain
unfolding entries_for in_order sorted_by insert_by entry_of
source-again whole alone s i result buffer h a l q d only o p =
    let b = whole.register in
    let y = year_of b in
    let ss = sources_of b in
    let r = calculated-made whole h a in
    let v = made_of y ss r.0 in
    let n : length (entries_for ss) ≡ source_count b = length-entries ss ∙ length-sources b in
    let m : i < length ss = rw (length-sources b) l in
    let k = entry_index ss s i m q in
    let one : Sources y (s ∷ []) = record {
      year = r.0.year;
      sound = (subst Calculable q (each_at Calculable ss s r.0.sound i m), tt);
      once = (tt, tt);
      few = omega arith;
    } in
    let c = part-calculated y alone d (subst (Sources y) (sym only) one) in
    let w : wrote (calculation alone) ≡ report_bytes y (entry_of s ∷ []) = c.1 ∙ ap (λ (ts : List Source). report_bytes y (entries_for ts)) only in
    let g = again y (entries_for ss) v (entry_of s) k.0 k.1 k.2 result buffer (omega arith) (omega arith) in
    subst₂
    (λ (x z : List ℕ). Accepted (removed x s.number result) × Accepted (calculation alone) × CombinesTo (wrote (removed x s.number result)) z buffer x
    × CombinesTo z (wrote (removed x s.number result)) buffer x)
    (sym r.1) (sym w)
    (g.0, c.0, g.1, g.2)
