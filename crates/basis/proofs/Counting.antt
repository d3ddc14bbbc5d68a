-- Laws of counting up, of `any`, of sums over a list. Assumes nothing.
use mathlib.Core.Bool.{Bool, true, false, ◌||◌}
use mathlib.Core.List.{List, [], ◌∷◌, ◌++◌, map, map-id}
use mathlib.Core.Path.{◌≡◌, refl, sym, ap, ◌∙◌}
use Prim.Native.Nat.{ℕ, zero, suc, ◌+◌, ◌*◌, ◌≤◌, ◌<◌, zero-le, suc-le-suc}
use native.Mathlib.Decide.{dec_lt}
use native.Mathlib.Nat.{add-zero, zero-add, not-suc-le-zero, le_of_suc-le-suc}
use native.Mathlib.Omega.{arith}
use lib.ListN.{length, get_or, take, replicate, length-map}
use Rattle.basis.specs.Lists.{Each, sum, count_up, any}
use Rattle.basis.proofs.Lists.{length-count_up}
use Rattle.basis.proofs.Bools.{clash, or_true, or_false, false_or}

-- none of the numbers counted up has the test
pub none_counted : (test : ℕ → Bool) (n j : ℕ) → ((i : ℕ) → j ≤ i → i < j + n → test i ≡ false) → any test (count_up j n) ≡ false
unfolding any count_up
none_counted test zero j h = refl
none_counted test (suc n) j h =
    false_or (test j) (any test (count_up (j + 1) n)) (h j (omega arith) (omega arith)) (none_counted test n (j + 1) (λ i l g. h i (omega arith) (omega arith)))

pub counted_none : (test : ℕ → Bool) (n j : ℕ) → any test (count_up j n) ≡ false → (i : ℕ) → j ≤ i → i < j + n → test i ≡ false
unfolding any count_up
counted_none test zero j e i l g = absurd (omega arith)
counted_none test (suc n) j e i l g =
    let parts : (test j ≡ false) × (any test (count_up (j + 1) n) ≡ false) = or_false (test j) (any test (count_up (j + 1) n)) e in
    by (dec_lt j i) parts.0 (λ q. counted_none test n (j + 1) parts.1 i (omega arith) (omega arith))
  where
    by : Dec (j < i) → test j ≡ false → (j < i → test i ≡ false) → test i ≡ false
    by (yes q) h later = later q
    by (no q) h later = let f : i ≡ j = omega arith in rw f h

-- what counting up makes: how many, and which at an index
pub length_counted : {A : Type 0} (f : ℕ → A) (j n : ℕ) → length (map f (count_up j n)) ≡ n
length_counted f j n = length-map (count_up j n) f ∙ length-count_up j n

pub get_d_counted : {A : Type 0} (f : ℕ → A) (d : A) (n j i : ℕ) → i < n → get_or (map f (count_up j n)) i d ≡ f (j + i)
unfolding count_up
get_d_counted f d zero j i l = absurd (not-suc-le-zero l)
get_d_counted f d (suc n) j zero l = ap f (omega arith)
get_d_counted f d (suc n) j (suc i) l = get_d_counted f d n (j + 1) i (le_of_suc-le-suc l) ∙ ap f (omega arith)

pub at_counted : {A : Type 0} (f : ℕ → A) (d : A) (n i : ℕ) → i < n → get_or (map f (count_up 0 n)) i d ≡ f i
at_counted f d n i l = get_d_counted f d n 0 i l ∙ ap f (zero-add i)

pub get_d_count_up : (d n j i : ℕ) → i < n → get_or (count_up j n) i d ≡ j + i
get_d_count_up d n j i l = ap (λ (ks : List ℕ). get_or ks i d) (sym (map-id (count_up j n))) ∙ get_d_counted (λ k. k) d n j i l

-- counting up goes on where it stopped
pub counted_append : {A : Type 0} (f : ℕ → A) (x p q : ℕ) → map f (count_up x (p + q)) ≡ map f (count_up x p) ++ map f (count_up (x + p) q)
unfolding count_up
counted_append f x zero q = rw (zero-add q, add-zero x)
counted_append f x (suc p) q =
    let e : suc p + q ≡ suc (p + q) = omega arith in
    let g : x + 1 + p ≡ x + suc p = omega arith in
    rw (e, counted_append f (x + 1) p q, g)

-- within a list the default does not count
pub get_d_either : {A : Type 0} (xs : List A) (i : ℕ) (d e : A) → i < length xs → get_or xs i d ≡ get_or xs i e
get_d_either [] i d e l = absurd (not-suc-le-zero l)
get_d_either (x ∷ xs) zero d e l = refl
get_d_either (x ∷ xs) (suc i) d e l = get_d_either xs i d e (le_of_suc-le-suc l)

-- a list is made of its elements, by index
pub counted_list : {A : Type 0} (f : ℕ → A) (d : A) (xs : List A) (j : ℕ) → ((i : ℕ) → i < length xs → f (j + i) ≡ get_or xs i d) → map f (count_up j (length xs)) ≡ xs
unfolding count_up
counted_list f d [] j h = refl
counted_list f d (x ∷ xs) j h =
    let e : f j ≡ x = ap f (sym (add-zero j)) ∙ h 0 (suc-le-suc zero-le) in
    let q : (i : ℕ) → j + 1 + i ≡ j + suc i = λ i. omega arith in
    rw (e, counted_list f d xs (j + 1) (λ i l. ap f (q i) ∙ h (suc i) (suc-le-suc l)))

pub counted_all : {A : Type 0} (f : ℕ → A) (d : A) (xs : List A) → ((i : ℕ) → i < length xs → f i ≡ get_or xs i d) → map f (count_up 0 (length xs)) ≡ xs
counted_all f d xs h = counted_list f d xs 0 (λ i l. ap f (zero-add i) ∙ h i l)

-- the front of zeros reads as zero everywhere, past its end too
pub zeros-front : (m n i : ℕ) → ◌≡◌ {A = ℕ} (get_or (take n (replicate m 0)) i 0) 0
zeros-front m zero i = refl
zeros-front zero (suc n) i = refl
zeros-front (suc m) (suc n) zero = refl
zeros-front (suc m) (suc n) (suc i) = zeros-front m n i

pub sum_widths : (w n k : ℕ) → k ≤ n → sum (take k (replicate n w)) ≡ w * k
unfolding sum
sum_widths w n zero l = omega arith
sum_widths w zero (suc k) l = absurd (not-suc-le-zero l)
sum_widths w (suc n) (suc k) l = rw (sum_widths w n k (le_of_suc-le-suc l)) (omega arith)

pub sum_alike : (w n : ℕ) → sum (replicate n w) ≡ w * n
unfolding sum
sum_alike w zero = omega arith
sum_alike w (suc n) = rw (sum_alike w n) (omega arith)

pub sum_bounded : {A : Type 0} (f : A → ℕ) (P : A → Type 0) (b : ℕ) → ((x : A) → P x → f x ≤ b) → (xs : List A) → Each P xs → sum (map f xs) ≤ b * length xs
unfolding sum
sum_bounded f P b h [] p = zero-le
sum_bounded f P b h (x ∷ xs) p = omega (arith, h x p.0, sum_bounded f P b h xs p.1)

-- a test holds of any of a list exactly if it holds at some index
pub any_some : {A : Type 0} (test : A → Bool) (d : A) (xs : List A) → any test xs ≡ true → (i : ℕ) × (i < length xs) × (test (get_or xs i d) ≡ true)
unfolding any
any_some test d [] e = absurd (clash e refl)
any_some test d (x ∷ xs) e = by (test x) refl e (any_some test d xs)
  where
    by : (b : Bool) → test x ≡ b → b || any test xs ≡ true → (any test xs ≡ true → (i : ℕ) × (i < length xs) × (test (get_or xs i d) ≡ true))
        → (i : ℕ) × (i < suc (length xs)) × (test (get_or (x ∷ xs) i d) ≡ true)
    by true h f later = (0, suc-le-suc zero-le, h)
    by false h f later = let r = later f in (suc r.0, suc-le-suc r.1, r.2)

pub some-any : {A : Type 0} (test : A → Bool) (d : A) (xs : List A) (i : ℕ) → i < length xs → test (get_or xs i d) ≡ true → any test xs ≡ true
unfolding any
some-any test d [] i l h = absurd (not-suc-le-zero l)
some-any test d (x ∷ xs) zero l h = rw h
some-any test d (x ∷ xs) (suc i) l h = rw (some-any test d xs i (le_of_suc-le-suc l) h) (or_true (test x))

pub any-map : {A B : Type 0} (test : B → Bool) (f : A → B) (xs : List A) → any test (map f xs) ≡ any (λ x. test (f x)) xs
unfolding any
any-map test f [] = refl
any-map test f (x ∷ xs) = ap (λ (b : Bool). test (f x) || b) (any-map test f xs)

pub any_append : {A : Type 0} (test : A → Bool) (xs ys : List A) → any test (xs ++ ys) ≡ false → (any test xs ≡ false) × (any test ys ≡ false)
unfolding any
any_append test [] ys e = (refl, e)
any_append test (x ∷ xs) ys e =
    let h = or_false (test x) (any test (xs ++ ys)) e in
    let r = any_append test xs ys h.1 in
    (false_or (test x) (any test xs) h.0 r.0, r.1)

pub append_any : {A : Type 0} (test : A → Bool) (xs ys : List A) → any test xs ≡ false → any test ys ≡ false → any test (xs ++ ys) ≡ false
unfolding any
append_any test [] ys e f = f
append_any test (x ∷ xs) ys e f =
    let h = or_false (test x) (any test xs) e in
    false_or (test x) (any test (xs ++ ys)) h.0 (append_any test xs ys h.1 f)
