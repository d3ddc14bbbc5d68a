-- The laws of sums, of counting up and of order by a key. Assumes nothing.
use mathlib.Core.Bool.{Bool, true, false, cond}
use mathlib.Core.List.Permᴰ
use mathlib.Core.List.{List, [], ◌∷◌, ◌++◌, map, map-append, Permᴰ}
use mathlib.Core.Path.{◌≡◌, refl, sym, ap, ap₂, ◌∙◌}
use Prim.Native.Nat.{ℕ, zero, suc, ◌+◌, ◌≤◌, ◌<◌, zero-le, suc-le-suc}
use native.Mathlib.Nat.{add_assoc, zero-add, not-suc-le-zero, le_of_suc-le-suc}
use native.Mathlib.Omega.{arith}
use lib.Dec.{leb}
use borrow.Author.Tests.{le-leb, lt-leb, leb-true, leb-false}
use lib.ListN.{length, take, get_or}
use lib.Seq.{length-take-le}
use Rattle.basis.specs.Lists.{Each, sum, count_up, insert_by, sorted_by, without}

-- what is said of each of a list, one by one
infixr 20 ◌&◌
pub ◌&◌ : {A B : Type 0} → A → B → A × B
a & b = (a, b)

pub sum_append : (ms ns : List ℕ) → sum (ms ++ ns) ≡ sum ms + sum ns
unfolding sum
sum_append [] ns = rw zero-add
sum_append (m ∷ ms) ns = rw (sum_append ms ns, add_assoc)

pub sum_both : {A : Type 0} (w : A → ℕ) (xs ys : List A) → sum (map w (xs ++ ys)) ≡ sum (map w xs) + sum (map w ys)
sum_both w xs ys = ap sum (map-append w xs ys) ∙ sum_append (map w xs) (map w ys)

-- a sum does not go by the order
pub sum_perm : {A : Type 0} (w : A → ℕ) {xs ys : List A} → Permᴰ xs ys → sum (map w xs) ≡ sum (map w ys)
unfolding sum
sum_perm w Permᴰ.nil = refl
sum_perm w (Permᴰ.cons e d) = ap₂ ◌+◌ (ap w e) (sum_perm w d)
sum_perm w (Permᴰ.swap e f) = omega (arith, ap w e, ap w f)
sum_perm w (Permᴰ.trans d f) = sum_perm w d ∙ sum_perm w f

pub length-count_up : (i k : ℕ) → length (count_up i k) ≡ k
unfolding count_up
length-count_up i zero = refl
length-count_up i (suc k) = ap suc (length-count_up (i + 1) k)

-- what is said of each of a list
pub each_map : {A : Type 0} {P Q : A → Type 0} → ((x : A) → P x → Q x) → (xs : List A) → Each P xs → Each Q xs
each_map f [] p = tt
each_map f (x ∷ xs) p = (f x p.0, each_map f xs p.1)

pub each_append : {A : Type 0} (P : A → Type 0) (xs ys : List A) → Each P xs → Each P ys → Each P (xs ++ ys)
each_append P [] ys p q = q
each_append P (x ∷ xs) ys p q = (p.0, each_append P xs ys p.1 q)

pub each-split : {A : Type 0} (P : A → Type 0) (xs ys : List A) → Each P (xs ++ ys) → Each P xs × Each P ys
each-split P [] ys h = (tt, h)
each-split P (x ∷ xs) ys h = let r = each-split P xs ys h.1 in ((h.0, r.0), r.1)

pub each_at : {A : Type 0} (P : A → Type 0) (xs : List A) (d : A) → Each P xs → (i : ℕ) → i < length xs → P (get_or xs i d)
each_at P [] d h i l = absurd (not-suc-le-zero l)
each_at P (x ∷ xs) d h zero l = h.0
each_at P (x ∷ xs) d h (suc i) l = each_at P xs d h.1 i (le_of_suc-le-suc l)

pub at_each : {A : Type 0} (P : A → Type 0) (xs : List A) (d : A) → ((i : ℕ) → i < length xs → P (get_or xs i d)) → Each P xs
at_each P [] d h = tt
at_each P (x ∷ xs) d h = (h 0 (suc-le-suc zero-le), at_each P xs d (λ i l. h (suc i) (suc-le-suc l)))

module _ {A : Type 0} (key : A → ℕ) where
  -- two insertions of different keys may change places
  pub insert_by-below : (x y : A) (l : List A) → key x < key y → insert_by key x (insert_by key y l) ≡ insert_by key y (insert_by key x l)
  unfolding insert_by
  insert_by-below x y [] h = rw (le-leb (key x) (key y) (omega arith), lt-leb (key y) (key x) h)
  insert_by-below x y (z ∷ zs) h = by (leb (key y) (key z)) refl (leb (key x) (key z)) refl (insert_by-below x y zs h)
    where
      up : leb (key x) (key y) ≡ true
      up = le-leb (key x) (key y) (omega arith)

      down : leb (key y) (key x) ≡ false
      down = lt-leb (key y) (key x) h

      by : (b : Bool) → leb (key y) (key z) ≡ b → (c : Bool) → leb (key x) (key z) ≡ c
          → insert_by key x (insert_by key y zs) ≡ insert_by key y (insert_by key x zs)
          → insert_by key x (cond b (y ∷ z ∷ zs) (z ∷ insert_by key y zs)) ≡ insert_by key y (cond c (x ∷ z ∷ zs) (z ∷ insert_by key x zs))
      by true p true q e = rw (up, down, p)
      by true p false q e = absurd (omega (arith, leb-true (key y) (key z) p, leb-false (key x) (key z) q))
      by false p true q e = rw (q, down, p)
      by false p false q e = rw (q, p, e)

  -- order loses nothing and makes nothing: the same elements, each as often
  pub insert_by_perm : (x : A) (xs : List A) → Permᴰ (insert_by key x xs) (x ∷ xs)
  unfolding insert_by
  insert_by_perm x [] = Permᴰ.refl (x ∷ [])
  insert_by_perm x (y ∷ ys) = by (leb (key x) (key y)) (insert_by_perm x ys)
    where
      by : (b : Bool) → Permᴰ (insert_by key x ys) (x ∷ ys) → Permᴰ (cond b (x ∷ y ∷ ys) (y ∷ insert_by key x ys)) (x ∷ y ∷ ys)
      by true h = Permᴰ.refl (x ∷ y ∷ ys)
      by false h = Permᴰ.trans (Permᴰ.cons refl h) (Permᴰ.swap refl refl)

  pub sorted_by_perm : (xs : List A) → Permᴰ (sorted_by key xs) xs
  unfolding sorted_by
  sorted_by_perm [] = Permᴰ.nil
  sorted_by_perm (x ∷ xs) = Permᴰ.trans (insert_by_perm x (sorted_by key xs)) (Permᴰ.cons refl (sorted_by_perm xs))

  pub length-insert_by : (x : A) (xs : List A) → length (insert_by key x xs) ≡ suc (length xs)
  unfolding insert_by
  length-insert_by x [] = refl
  length-insert_by x (y ∷ ys) = by (leb (key x) (key y)) (length-insert_by x ys)
    where
      by : (b : Bool) → length (insert_by key x ys) ≡ suc (length ys) → length (cond b (x ∷ y ∷ ys) (y ∷ insert_by key x ys)) ≡ suc (suc (length ys))
      by true h = refl
      by false h = ap suc h

  pub length-sorted_by : (xs : List A) → length (sorted_by key xs) ≡ length xs
  unfolding sorted_by
  length-sorted_by [] = refl
  length-sorted_by (x ∷ xs) = length-insert_by x (sorted_by key xs) ∙ ap suc (length-sorted_by xs)

  pub insert_by-each : (P : A → Type 0) (x : A) (xs : List A) → P x → Each P xs → Each P (insert_by key x xs)
  unfolding insert_by
  insert_by-each P x [] p q = (p, tt)
  insert_by-each P x (y ∷ ys) p q = by (leb (key x) (key y)) (insert_by-each P x ys p q.1)
    where
      by : (b : Bool) → Each P (insert_by key x ys) → Each P (cond b (x ∷ y ∷ ys) (y ∷ insert_by key x ys))
      by true r = (p, q)
      by false r = (q.0, r)

  pub sorted_by-each : (P : A → Type 0) (xs : List A) → Each P xs → Each P (sorted_by key xs)
  unfolding sorted_by
  sorted_by-each P [] p = tt
  sorted_by-each P (x ∷ xs) p = insert_by-each P x (sorted_by key xs) p.0 (sorted_by-each P xs p.1)

-- order by a key is order by another key of what a function makes of each, where the two keys tell any two apart alike
module _ {A B : Type 0} (f : A → B) (key : A → ℕ) (other : B → ℕ) where
  abbrev pub Alike : A → A → Type 0
  Alike x y = leb (key x) (key y) ≡ leb (other (f x)) (other (f y))

  abbrev pub AllAlike : List A → Type 0
  AllAlike [] = Unit {0}
  AllAlike (x ∷ xs) = Each (Alike x) xs × AllAlike xs

  insert-map : (x : A) (ys : List A) → Each (Alike x) ys → map f (insert_by key x ys) ≡ insert_by other (f x) (map f ys)
  unfolding insert_by
  insert-map x [] h = refl
  insert-map x (y ∷ ys) h = rw (← h.0) (by (leb (key x) (key y)) (insert-map x ys h.1))
    where
      by : (b : Bool) → map f (insert_by key x ys) ≡ insert_by other (f x) (map f ys)
          → map f (cond b (x ∷ y ∷ ys) (y ∷ insert_by key x ys)) ≡ cond b (f x ∷ f y ∷ map f ys) (f y ∷ insert_by other (f x) (map f ys))
      by true e = refl
      by false e = ap (λ (l : List B). f y ∷ l) e

  pub sort_map : (xs : List A) → AllAlike xs → map f (sorted_by key xs) ≡ sorted_by other (map f xs)
  unfolding sorted_by
  sort_map [] h = refl
  sort_map (x ∷ xs) h = insert-map x (sorted_by key xs) (sorted_by-each key (Alike x) xs h.0) ∙ ap (insert_by other (f x)) (sort_map xs h.1)

-- where none has a test, nothing is left out
pub without-none : {A : Type 0} (test : A → Bool) (xs : List A) → Each (λ x. test x ≡ false) xs → without test xs ≡ xs
unfolding without
without-none test [] p = refl
without-none test (x ∷ xs) p = rw (p.0, without-none test xs p.1)

-- a front of a list is as long as it is asked to be
pub counted : (n : ℕ) (xs : List ℕ) → n ≤ length xs → n ≡ length (take n xs)
counted n xs l = sym (length-take-le n xs l)
