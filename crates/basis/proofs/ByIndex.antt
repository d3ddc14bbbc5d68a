-- Lists made by index: equal, said of each, and ordered alike where it is so at each index. Assumes nothing.
use mathlib.Core.List.{List, [], ◌++◌, map, append_assoc, append-nil}
use mathlib.Core.Path.{◌≡◌, refl}
use Prim.Native.Nat.{ℕ, zero, suc, ◌+◌, ◌≤◌, ◌<◌}
use native.Mathlib.Omega.{arith}
use Rattle.basis.specs.Lists.{Each, count_up, joined}
use Rattle.basis.proofs.Lists.{Alike, AllAlike, each_append}

pub same-by_index : {A : Type 0} (f g : ℕ → A) (n j : ℕ) → ((i : ℕ) → j ≤ i → i < j + n → f i ≡ g i) → map f (count_up j n) ≡ map g (count_up j n)
unfolding count_up
same-by_index f g zero j h = refl
same-by_index f g (suc n) j h =
    rw (h j (omega arith) (omega arith), same-by_index f g n (j + 1) (λ i l m. h i (omega arith) (omega arith)))

pub each-by_index : {A : Type 0} (P : A → Type 0) (f : ℕ → A) (n j : ℕ) → ((i : ℕ) → j ≤ i → i < j + n → P (f i)) → Each P (map f (count_up j n))
unfolding count_up
each-by_index P f zero j h = tt
each-by_index P f (suc n) j h = (h j (omega arith) (omega arith), each-by_index P f n (j + 1) (λ i l m. h i (omega arith) (omega arith)))

-- lists made by index, one behind the other: what is said of each, none, and one more at the end
module _ {A : Type 0} (f : ℕ → List A) where
  pub each-joined : (P : A → Type 0) (b k : ℕ) → ((i : ℕ) → b ≤ i → i < b + k → Each P (f i)) → Each P (joined (map f (count_up b k)))
  unfolding count_up joined
  each-joined P b zero e = tt
  each-joined P b (suc k) e =
      each_append P (f b) (joined (map f (count_up (b + 1) k))) (e b (omega arith) (omega arith)) (each-joined P (b + 1) k (λ i l h. e i (omega arith) (omega arith)))

  pub joined-none : (b k : ℕ) → ((i : ℕ) → f i ≡ []) → joined (map f (count_up b k)) ≡ []
  unfolding count_up joined
  joined-none b zero e = refl
  joined-none b (suc k) e = rw (e b, joined-none (b + 1) k e)

  pub joined-last : (b k : ℕ) → joined (map f (count_up b (suc k))) ≡ joined (map f (count_up b k)) ++ f (b + k)
  unfolding count_up joined
  joined-last b zero = let z : b + 0 ≡ b = omega arith in rw (z, append-nil)
  joined-last b (suc k) = let e : b + suc k ≡ b + 1 + k = omega arith in rw (e, append_assoc, joined-last (b + 1) k)

-- two keys tell any two of a list apart alike, where they do so at each two indices
pub alike_by_index : {A B : Type 0} (f : A → B) (key : A → ℕ) (other : B → ℕ) (g : ℕ → A) (n j : ℕ)
    → ((i k : ℕ) → j ≤ i → i < k → k < j + n → Alike f key other (g i) (g k)) → AllAlike f key other (map g (count_up j n))
unfolding count_up
alike_by_index f key other g zero j h = tt
alike_by_index f key other g (suc n) j h = (
  each-by_index (Alike f key other (g j)) g n (j + 1) (λ k l m. h j k (omega arith) (omega arith) (omega arith)),
  alike_by_index f key other g n (j + 1) (λ i k l m o. h i k (omega arith) m (omega arith)),
)
