-- Order by a key: it does not go by how a list was dealt. Assumes nothing.
use mathlib.Core.Bool.{Bool, true, false, cond}
use mathlib.Core.List.{List, [], ◌∷◌, ◌++◌, Permᴰ}
use mathlib.Core.Logic.{◌≢◌}
use mathlib.Core.Path.{◌≡◌, refl, sym, ap, ap₂, subst, ◌∙◌}
use Prim.Native.Nat.{ℕ, zero, suc, ◌≤◌, ◌<◌}
use native.Mathlib.Decide.{dec_lt}
use native.Mathlib.Nat.{lt_trans, not-suc-le-zero, le_of_suc-le-suc}
use native.Mathlib.Omega.{arith}
use lib.Dec.{leb}
use lib.ListN.{length, get_or}
use borrow.Author.Tests.{le-leb, leb-true, leb-false}
use Rattle.basis.proofs.Lists.{insert_by-below, sorted_by-each, each_map, each_append, each_at}
use Rattle.basis.specs.Lists.{Each, insert_by, sorted_by}
use Rattle.demands.specs.Valid.{Ascending, Distinct}

lt_ne : (m n : ℕ) → m < n → m ≡ n → ⊥
lt_ne m n l e = omega arith

lt_of_le_ne : {m n : ℕ} → m ≤ n → (m ≡ n → ⊥) → m < n
lt_of_le_ne l e = omega arith

-- what holds of each holds of each after dealing
pub each_perm : {A : Type 0} (P : A → Type 0) {xs ys : List A} → Permᴰ xs ys → Each P xs → Each P ys
each_perm P Permᴰ.nil p = tt
each_perm P (Permᴰ.cons e d) p = (subst P e p.0, each_perm P d p.1)
each_perm P (Permᴰ.swap e f) p = (subst P f p.1.0, (subst P e p.0, p.1.1))
each_perm P (Permᴰ.trans d f) p = each_perm P f (each_perm P d p)

module _ {A : Type 0} (key : A → ℕ) where
  insert-apart : (x y : A) (l : List A) → key x ≢ key y → insert_by key x (insert_by key y l) ≡ insert_by key y (insert_by key x l)
  insert-apart x y l n = by (dec_lt (key x) (key y))
    where
      by : Dec (key x < key y) → insert_by key x (insert_by key y l) ≡ insert_by key y (insert_by key x l)
      by (yes h) = insert_by-below key x y l h
      by (no h) = sym (insert_by-below key y x l (omega arith))

  pub distinct_perm : {xs ys : List A} → Permᴰ xs ys → Distinct key xs → Distinct key ys
  distinct_perm Permᴰ.nil p = tt
  distinct_perm (Permᴰ.cons {l₂ = l₂} e d) p =
      (subst (λ (c : A). Each (λ y. key c ≢ key y) l₂) e (each_perm (λ y. key _ ≢ key y) d p.0), distinct_perm d p.1)
  distinct_perm (Permᴰ.swap {l = l} e f) p = (
    (λ q. p.0.0 (ap key e ∙ sym q ∙ sym (ap key f)), subst (λ (c : A). Each (λ y. key c ≢ key y) l) f p.1.0),
    (subst (λ (c : A). Each (λ y. key c ≢ key y) l) e p.0.1, p.1.1),
  )
  distinct_perm (Permᴰ.trans d f) p = distinct_perm f (distinct_perm d p)

  -- however a list of different keys is dealt, its order is the same
  pub sorted_perm : {xs ys : List A} → Permᴰ xs ys → Distinct key xs → sorted_by key xs ≡ sorted_by key ys
  unfolding sorted_by
  sorted_perm Permᴰ.nil p = refl
  sorted_perm (Permᴰ.cons e d) p = ap₂ (insert_by key) e (sorted_perm d p.1)
  sorted_perm (Permᴰ.swap {a = a} {b = b} {l = l} e f) p =
      insert-apart a b (sorted_by key l) p.0.0 ∙ ap₂ (λ (c d : A). insert_by key c (insert_by key d (sorted_by key l))) f e
  sorted_perm (Permᴰ.trans d f) p = sorted_perm d p ∙ sorted_perm f (distinct_perm d p)

  -- order is kept and made: what ascends stays as it is, and different keys come to ascend
  pub ascending_each : (n : ℕ) (xs : List A) → Ascending key n xs → Each (λ y. n < key y) xs
  ascending_each n [] a = tt
  ascending_each n (x ∷ xs) a = (a.0, each_map (λ y l. lt_trans a.0 l) xs (ascending_each (key x) xs a.1))

  pub ascending_distinct : (n : ℕ) (xs : List A) → Ascending key n xs → Distinct key xs
  ascending_distinct n [] a = tt
  ascending_distinct n (x ∷ xs) a =
      (each_map (λ y l e. lt_ne (key x) (key y) l e) xs (ascending_each (key x) xs a.1), ascending_distinct (key x) xs a.1)

  insert-front : (x : A) (xs : List A) → Ascending key (key x) xs → insert_by key x xs ≡ x ∷ xs
  unfolding insert_by
  insert-front x [] a = refl
  insert-front x (y ∷ ys) a = rw (le-leb (key x) (key y) (omega (arith, a.0)))

  pub ascending_sorted : (n : ℕ) (xs : List A) → Ascending key n xs → sorted_by key xs ≡ xs
  unfolding sorted_by
  ascending_sorted n [] a = refl
  ascending_sorted n (x ∷ xs) a = rw (ascending_sorted (key x) xs a.1) (insert-front x xs a.1)

  -- two lists that ascend and are dealt of one another are one
  pub ascending_once : (m n : ℕ) (xs ys : List A) → Ascending key m xs → Ascending key n ys → Permᴰ xs ys → xs ≡ ys
  ascending_once m n xs ys a b d = sym (ascending_sorted m xs a) ∙ sorted_perm d (ascending_distinct m xs a) ∙ ascending_sorted n ys b

  insert_ascending : (n : ℕ) (x : A) (xs : List A) → n < key x → Each (λ y. key x ≢ key y) xs → Ascending key n xs → Ascending key n (insert_by key x xs)
  unfolding insert_by
  insert_ascending n x [] l d a = (l, tt)
  insert_ascending n x (y ∷ ys) l d a = by (leb (key x) (key y)) refl (λ m. insert_ascending (key y) x ys m d.1 a.1)
    where
      by : (b : Bool) → leb (key x) (key y) ≡ b → (key y < key x → Ascending key (key y) (insert_by key x ys)) → Ascending key n (cond b (x ∷ y ∷ ys) (y ∷ insert_by key x ys))
      by true e later = (l, (lt_of_le_ne (leb-true (key x) (key y) e) d.0, a.1))
      by false e later = (a.0, later (leb-false (key x) (key y) e))

  pub sorted_ascending : (n : ℕ) (xs : List A) → Each (λ y. n < key y) xs → Distinct key xs → Ascending key n (sorted_by key xs)
  unfolding sorted_by
  sorted_ascending n [] l d = tt
  sorted_ascending n (x ∷ xs) l d =
      insert_ascending n x (sorted_by key xs) l.0 (sorted_by-each key (λ y. key x ≢ key y) xs d.0) (sorted_ascending n xs l.1 d.1)

  pub ascending_lt : (n : ℕ) (xs : List A) (d : A) → Ascending key n xs → (i k : ℕ) → i < k → k < length xs → key (get_or xs i d) < key (get_or xs k d)
  ascending_lt n [] d a i k l m = absurd (not-suc-le-zero m)
  ascending_lt n (x ∷ xs) d a i zero l m = absurd (not-suc-le-zero l)
  ascending_lt n (x ∷ xs) d a zero (suc k) l m = each_at (λ y. key x < key y) xs d (ascending_each (key x) xs a.1) k (le_of_suc-le-suc m)
  ascending_lt n (x ∷ xs) d a (suc i) (suc k) l m = ascending_lt (key x) xs d a.1 i k (le_of_suc-le-suc l) (le_of_suc-le-suc m)

  pub distinct_append : (xs ys : List A) → Distinct key xs → Distinct key ys → Each (λ x. Each (λ y. key x ≢ key y) ys) xs → Distinct key (xs ++ ys)
  distinct_append [] ys d f a = f
  distinct_append (x ∷ xs) ys d f a = (each_append (λ y. key x ≢ key y) xs ys d.0 a.0, distinct_append xs ys d.1 f a.1)
