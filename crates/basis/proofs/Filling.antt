-- A list that a loop fills by index: how it begins, goes on and ends. Assumes nothing.
use mathlib.Core.List.{List, [], ◌∷◌, ◌++◌, map, append-nil}
use mathlib.Core.Path.{◌≡◌, refl, sym, ap, ◌∙◌}
use Prim.Native.Nat.{ℕ, suc, ◌+◌, ◌-◌, ◌≤◌, ◌<◌}
use native.Mathlib.Nat.{add-zero, sub-zero}
use native.Mathlib.Numerals.{add-one}
use native.Mathlib.Omega.{arith}
use lib.ListN.{length, get_or, take, drop, set, length-set}
use lib.Seq.{take_all, take-suc-set, drop-set-lt, drop-drop, get_or-drop, append_snoc}
use Rattle.basis.specs.Lists.{count_up}

-- k places of to₀ hold what f makes of their index, and the later ones what they held
pub record Filled (f : ℕ → ℕ) (to₀ to : List ℕ) (k : ℕ) : Type 0 where
  pub low : k ≤ length to₀
  pub kept : length to ≡ length to₀
  pub made : take k to ++ map f (count_up k (length to₀ - k)) ≡ map f (count_up 0 (length to₀))
  pub later : drop k to ≡ drop k to₀

pub filled_none : (f : ℕ → ℕ) (to : List ℕ) → Filled f to to 0
filled_none f to = record { low = omega arith; kept = refl; made = rw sub-zero; later = refl }

pub filled_now : {f : ℕ → ℕ} {to₀ to : List ℕ} {k : ℕ} → Filled f to₀ to k → get_or to k 0 ≡ get_or to₀ k 0
filled_now {to₀ = to₀} {to = to} {k = k} r =
    let e : get_or (drop k to) 0 0 ≡ get_or (drop k to₀) 0 0 = ap (λ (l : List ℕ). get_or l 0 0) r.later in
    simp (get_or-drop, add-zero) at e

pub filled_more : {f : ℕ → ℕ} {to₀ to : List ℕ} {k v : ℕ} → Filled f to₀ to k → k < length to → v ≡ f k → Filled f to₀ (set to k v) (k + 1)
unfolding count_up
filled_more {f} {to₀} {to} {k} {v} r l e =
    let q : length to₀ - k ≡ suc (length to₀ - (k + 1)) = omega (arith, r.kept) in
    let m : take k to ++ (f k ∷ map f (count_up (k + 1) (length to₀ - (k + 1)))) ≡ map f (count_up 0 (length to₀)) = rw q at r.made in
    record {
      low = omega (arith, r.kept);
      kept = length-set to k v ∙ r.kept;
      made = rw (add-one k, take-suc-set to k v l, append_snoc, e, ← add-one k) m;
      later = drop-set-lt (k + 1) to k v (omega arith) ∙ sym (drop-drop 1 k to) ∙ ap (drop 1) r.later ∙ drop-drop 1 k to₀;
    }

pub filled-all : {f : ℕ → ℕ} {to₀ to : List ℕ} {k : ℕ} → Filled f to₀ to k → length to ≤ k → to ≡ map f (count_up 0 (length to₀))
unfolding count_up
filled-all {f} {to₀} {to} {k} r h =
    let z : length to₀ - k ≡ 0 = omega (arith, r.kept) in
    let m : take k to ++ [] ≡ map f (count_up 0 (length to₀)) = rw z at r.made in
    sym (take_all k to h) ∙ sym (append-nil (take k to)) ∙ m
