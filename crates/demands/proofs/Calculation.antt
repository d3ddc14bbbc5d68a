-- Calculation refuses exactly when the table says. Assumes nothing.
use mathlib.Core.Bool.{Bool, true, false, cond, not}
use mathlib.Core.List.{List, map}
use mathlib.Core.Logic.{inl, inr, ◌≢◌}
use mathlib.Core.Path.{◌≡◌, refl, sym, ap, ◌∙◌}
use Prim.Native.Nat.{ℕ, ◌<◌}
use native.Mathlib.Omega.{arith}
use lib.Dec.{eqb, ltb}
use lib.ListN.{length, get_or, length-map, get_or-map}
use borrow.Author.Tests.{eqb-false, ne_eqb, not-true}
use Rattle.basis.specs.Lists.{sum, count_up, any}
use Rattle.basis.proofs.Bools.{clash, not_both}
use Rattle.meaning.specs.Methods.{Decoded, decoded, is_bad}
use Rattle.std.specs.Prelude.{Some, None}
use Rattle.meaning.specs.Masses.{added, taken, below_zero, rounded, mass, masses, weighed, equivalent, limit}
use Rattle.meaning.specs.Register.{source_count, line_count, name_bytes, source_at, sources_of, line_start, name_start, decoded_lines}
use Rattle.meaning.specs.Calls.{line_test, fault_of, mass_fault, fault_at, mass_test}
use Rattle.meaning.proofs.Sources.{Placed as Standing, no_source, length-sources, source-at}
use Rattle.demands.specs.Valid.{LaidRight}
use Rattle.demands.specs.Exactly.{at_smallest, with_number}
use Rattle.demands.specs.Refusals.{BadLine, MassFault}
use Rattle.demands.specs.Table.{FitAll}
use Rattle.demands.specs.Fields.{method, parameter, line_at as line, lines_of}
use Rattle.demands.proofs.Table.{bad-exactly}
use Rattle.demands.proofs.Sums.{rows-found, below_then, above_then, then_below, then_above}
use Rattle.meaning.proofs.Lines.{bad_line, line_test_lem, Following, all_lines, length-lines, line-is, line_of}
use Rattle.demands.proofs.Figures.{lines_before_lem, names_before_lem, placed_standing}
use Rattle.demands.proofs.Exactly.{Decides, decide_first}
use Rattle.demands.proofs.RegisterTests.{decide_at-first}

module _ (b : List ℕ) (l : LaidRight b) where
  pub standing : (i : ℕ) → i < source_count b → Standing b i
  standing i m = placed_standing b i (l.placed i m)

  pub last_line_lem : line_start b (source_count b) ≡ line_count b
  last_line_lem = lines_before_lem b (source_count b) ∙ l.last_line

  pub last_name_lem : name_start b (source_count b) ≡ name_bytes b
  last_name_lem = names_before_lem b (source_count b) ∙ l.last_name

  pub following : Following b
  following = record { each = λ i m. (standing i m).line; last = last_line_lem }

  bad-is : (d : Decoded) → is_bad d ≡ true → d ≡ None
  bad-is (Some x) e = absurd (clash e refl)
  bad-is None e = refl

  pub line_decides : Decides (line_test (sources_of b)) (at_smallest (line_count b) (with_number 5 (BadLine b)))
  line_decides =
      rw (line_test_lem (sources_of b), length-lines b following)
      (decide_at-first 5 (bad_line (all_lines b)) (line_count b) (BadLine b)
      (λ j m e.
      let r = line_of b following j m in
      (r.0, r.1, r.2, r.3, (bad-exactly (method b r.0) (parameter b r.0) (line b j)).0 (sym (line-is b following r.0 j r.1 r.2 r.3) ∙ bad-is (get_or (all_lines b) j None) e)))
      (λ j m r. ap is_bad (line-is b following r.0 j r.1 r.2 r.3 ∙ (bad-exactly (method b r.0) (parameter b r.0) (line b j)).1 r.4)))

-- 6 and 7: what a source is refused for, its lines being good
abbrev picked : Bool → Bool → ℕ
picked c d = cond c 6 (cond d 7 0)

fault-is : (b : List ℕ) (i : ℕ) → any is_bad (decoded_lines (source_at b i)) ≡ false → mass_fault (source_at b i) ≢ 0 → MassFault b (mass_fault (source_at b i)) i
unfolding fault_of decoded_lines source_at
fault-is b i good h = by (below_zero ds) refl (ltb limit (equivalent (masses ds))) refl h
  where
    m : ℕ
    m = method b i

    p : ℕ
    p = parameter b i

    ds : List Decoded
    ds = map (decoded m p) (lines_of b i)

    r : (rows : List ℕ) × FitAll m p rows (lines_of b i)
    r = rows-found m p (lines_of b i) good

    by : (c : Bool) → below_zero ds ≡ c → (d : Bool) → ltb limit (equivalent (masses ds)) ≡ d → picked c d ≢ 0 → MassFault b (picked c d) i
    by true e d q h = inl (refl, below_then m p r.0 (lines_of b i) r.1 e)
    by false e true q h = inr (refl, (λ z. clash (then_below m p (lines_of b i) z) e), above_then m p r.0 (lines_of b i) r.1 q)
    by false e false q h = absurd (h refl)

is-fault : (b : List ℕ) (i n : ℕ) → any is_bad (decoded_lines (source_at b i)) ≡ false → MassFault b n i → mass_fault (source_at b i) ≡ n
unfolding fault_of decoded_lines source_at
is-fault b i n good (inl f) = rw (then_below (method b i) (parameter b i) (lines_of b i) f.1) (sym f.0)
is-fault b i n good (inr f) =
    let m = method b i in
    let p = parameter b i in
    let ls = lines_of b i in
    let r = rows-found m p ls good in
    rw (not_both (below_zero (map (decoded m p) ls)) (λ e. f.1 (below_then m p r.0 ls r.1 e)), then_above m p ls f.2) (sym f.0)

fault-at : (b : List ℕ) (i : ℕ) → i < source_count b → get_or (map mass_fault (sources_of b)) i (mass_fault no_source) ≡ mass_fault (source_at b i)
fault-at b i l = get_or-map mass_fault (sources_of b) i no_source ∙ ap mass_fault (source-at b i l)

pub no_fault : mass_fault no_source ≡ 0
unfolding fault_of below_zero decoded_lines added taken sum masses mass rounded count_up equivalent weighed
no_fault = refl

fault-not-none : (b : List ℕ) (n i : ℕ) → MassFault b n i → n ≢ 0
fault-not-none b n i (inl f) e = omega arith
fault-not-none b n i (inr f) e = omega arith

pub mass_decides : (b : List ℕ) → ((i : ℕ) → i < source_count b → any is_bad (decoded_lines (source_at b i)) ≡ false)
    → Decides (mass_test (sources_of b)) (at_smallest (source_count b) (MassFault b))
unfolding mass_test fault_at
mass_decides b good =
    let fs = map mass_fault (sources_of b) in
    let e : length fs ≡ source_count b = length-map (sources_of b) mass_fault ∙ length-sources b in
    let f : (i : ℕ) → i < source_count b → get_or fs i 0 ≡ mass_fault (source_at b i) = λ i l. rw no_fault at (fault-at b i l) in
    rw e
    (decide_first (fault_at fs) (source_count b) (λ i. get_or fs i 0) (MassFault b)
    (λ i l t. rw (f i l) (fault-is b i (good i l) (λ z. eqb-false (get_or fs i 0) 0 (not-true (eqb (get_or fs i 0) 0) t) (f i l ∙ z))))
    (λ i n l w. let q : n ≡ get_or fs i 0 = sym (is-fault b i n (good i l) w) ∙ sym (f i l) in
    (ap not (ne_eqb (get_or fs i 0) 0 (λ z. fault-not-none b n i w (q ∙ z))), q)))
