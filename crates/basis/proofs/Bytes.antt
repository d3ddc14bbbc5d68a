-- The laws of numbers in bytes and of lists written over. Assumes nothing.
use mathlib.Core.Path.{◌≡◌, refl, ap, ◌∙◌}
use mathlib.Core.List.{List, [], ◌∷◌, ◌++◌, append_assoc, append-nil}
use Prim.Native.Nat.{ℕ, zero, suc, ◌+◌, ◌*◌, ◌/◌, ◌%◌, ◌^◌, ◌≤◌, ◌<◌}
use native.Mathlib.Nat.{add_assoc, add-zero, zero-add, suc-add, pow-suc, not-suc-le-zero, le_of_suc-le-suc}
use native.Mathlib.Numerals.{add-one}
use native.Mathlib.Omega.{arith}
use lib.ListN.{length, take, drop, get_or, set, length-append, length-take, length-drop, take-append-drop}
use lib.Seq.{set_split, take-nil, take-append-le, drop-append-le, take_at, drop_at, drop-drop, length-take-le}
use Rattle.basis.specs.Bytes.{bytes_of, number_of, number_at, packed, Bytes, splice, Written}
use Rattle.basis.specs.Lists.{sum}

pub length-bytes_of : (k v : ℕ) → length (bytes_of k v) ≡ k
unfolding bytes_of
length-bytes_of zero v = refl
length-bytes_of (suc k) v = ap suc (length-bytes_of k (v / 256))

pub bytes_of-bytes : (k v : ℕ) → Bytes (bytes_of k v)
unfolding bytes_of
bytes_of-bytes zero v i = omega arith
bytes_of-bytes (suc k) v zero = omega arith
bytes_of-bytes (suc k) v (suc i) = bytes_of-bytes k (v / 256) i

pub append_bytes : (xs ys : List ℕ) → Bytes xs → Bytes ys → Bytes (xs ++ ys)
append_bytes [] ys h g i = g i
append_bytes (x ∷ xs) ys h g zero = h 0
append_bytes (x ∷ xs) ys h g (suc i) = append_bytes xs ys (λ k. h (suc k)) g i

-- a number that fits its width is read as it was written
pub number_of-bytes_of : (k v : ℕ) → v < 256 ^ k → number_of (bytes_of k v) ≡ v
unfolding bytes_of number_of
number_of-bytes_of zero v h = omega arith
number_of-bytes_of (suc k) v h =
    let l : v / 256 < 256 ^ k = omega (arith, rw (pow-suc 256 k) at h) in
    rw (number_of-bytes_of k (v / 256) l) (omega arith)

-- bytes are written as they were read
pub bytes_of-number_of : (bs : List ℕ) → Bytes bs → bytes_of (length bs) (number_of bs) ≡ bs
unfolding bytes_of number_of
bytes_of-number_of [] h = refl
bytes_of-number_of (b ∷ bs) h =
    let l : b < 256 = h 0 in
    let m : (b + 256 * number_of bs) % 256 ≡ b = omega arith in
    let d : (b + 256 * number_of bs) / 256 ≡ number_of bs = omega arith in
    rw (m, d, bytes_of-number_of bs (λ i. h (suc i)))

pub number_of-fits : (bs : List ℕ) → Bytes bs → number_of bs < 256 ^ length bs
unfolding number_of
number_of-fits [] h = omega arith
number_of-fits (b ∷ bs) h =
    let l : b < 256 = h 0 in
    let m : number_of bs < 256 ^ length bs = number_of-fits bs (λ i. h (suc i)) in
    rw (pow-suc 256 (length bs)) (omega arith)

-- the number of bytes is that of the first j of them, and 256^j times that of those behind
number_of-parts : (j k : ℕ) (bs : List ℕ) → number_of (take (j + k) bs) ≡ number_of (take j bs) + 256 ^ j * number_of (take k (drop j bs))
unfolding number_of
number_of-parts zero k bs = rw (zero-add k) (omega arith)
number_of-parts (suc j) k [] = rw (suc-add, take-nil {A = ℕ} k) (omega arith)
number_of-parts (suc j) k (b ∷ bs) = rw (suc-add, number_of-parts j k bs, pow-suc 256 j) (omega arith)

pub number_at-parts : (j k : ℕ) (bs : List ℕ) (at : ℕ) → number_at (j + k) bs at ≡ number_at j bs at + 256 ^ j * number_at k bs (at + j)
unfolding number_at
number_at-parts j k bs at = rw (← drop-drop j at bs) (number_of-parts j k (drop at bs))

pub splice-none : (xs : List ℕ) (at : ℕ) → splice xs at [] ≡ xs
unfolding splice
splice-none xs at = simp (append-nil, add-zero, take-append-drop)

pub length-splice : (xs : List ℕ) (at : ℕ) (ys : List ℕ) → at + length ys ≤ length xs → length (splice xs at ys) ≡ length xs
unfolding splice
length-splice xs at ys h = simp (length-append, length-take, length-drop) (omega arith)

length-head : (xs : List ℕ) (at : ℕ) (ys : List ℕ) → at ≤ length xs → length (take at xs ++ ys) ≡ at + length ys
length-head xs at ys h = simp (length-append, length-take-le)

-- adjacent writes are one
pub splice-splice : (xs : List ℕ) (at : ℕ) (ys zs : List ℕ) → at ≤ length xs
    → splice (splice xs at ys) (at + length ys) zs ≡ splice xs at (ys ++ zs)
unfolding splice
splice-splice xs at ys zs h =
    let e : length (take at xs ++ ys) ≡ at + length ys = length-head xs at ys h in
    rw (take_at (take at xs ++ ys), ← drop-drop (length zs) (at + length ys), drop_at (take at xs ++ ys), drop-drop, length-append, add_assoc)
    (simp append_assoc)

pub length-written : {xs ys zs : List ℕ} {at : ℕ} → Written xs at ys zs → length zs ≡ length xs
length-written {xs} {ys} {zs} {at} w = ap length w.is ∙ length-splice xs at ys w.fits

-- a number that is stored is written
pub written_one : (xs : List ℕ) (at x : ℕ) → at < length xs → Written xs at (x ∷ []) (set xs at x)
unfolding splice
written_one xs at x h = record { fits = omega arith; is = simp (set_split, add-one, append_assoc) }

pub written_then : {xs ys zs us vs : List ℕ} {at n : ℕ} → Written xs at ys zs → Written zs n us vs → n ≡ at + length ys → Written xs at (ys ++ us) vs
written_then {xs} {ys} {us = us} {at = at} w v e =
    let f : at ≤ length xs = omega (arith, w.fits) in
    record {
      fits = rw length-append (omega (arith, v.fits, length-written w));
      is = v.is ∙ rw (w.is, e) (splice-splice xs at ys us f);
    }

-- reading inside what was written
module _ {xs ys zs : List ℕ} {at : ℕ} (w : Written xs at ys zs) where
  pub read_inside : (p k : ℕ) → p + k ≤ length ys → take k (drop (at + p) zs) ≡ take k (drop p ys)
  unfolding splice
  read_inside p k h =
      let f : length (take at xs) ≡ at = length-take-le at xs (omega (arith, w.fits)) in
      let g : p ≤ length ys = omega arith in
      let d : k ≤ length (drop p ys) = rw length-drop (omega arith) in
      rw (w.is, append_assoc, ← drop-drop p at, drop_at (take at xs), drop-append-le p ys, take-append-le k (drop p ys))

pub length-packed : (ws ns : List ℕ) → length ws ≡ length ns → length (packed ws ns) ≡ sum ws
unfolding packed sum
length-packed [] ns e = refl
length-packed (w ∷ ws) [] e = absurd (omega arith)
length-packed (w ∷ ws) (n ∷ ns) e = rw (length-append, length-bytes_of, length-packed ws ns (omega arith))

-- each number fits its width, and there are as many
abbrev pub Fits : List ℕ → List ℕ → Type 0
Fits [] [] = Unit {0}
Fits [] (n ∷ ns) = ⊥
Fits (w ∷ ws) [] = ⊥
Fits (w ∷ ws) (n ∷ ns) = (n < 256 ^ w) × Fits ws ns

-- numbers that are packed are read at the place that the widths before them make
pub number_at-packed : (ws ns rest : List ℕ) → Fits ws ns → (i : ℕ) → i < length ws
    → number_at (get_or ws i 0) (packed ws ns ++ rest) (sum (take i ws)) ≡ get_or ns i 0
unfolding packed sum number_at
number_at-packed [] ns rest f i h = absurd (not-suc-le-zero h)
number_at-packed (w ∷ ws) [] rest f i h = absurd f
number_at-packed (w ∷ ws) (n ∷ ns) rest f zero h =
    let l : length (bytes_of w n) ≡ w = length-bytes_of w n in
    rw (append_assoc, take_at (bytes_of w n)) (number_of-bytes_of w n f.0)
number_at-packed (w ∷ ws) (n ∷ ns) rest f (suc i) h =
    let l : length (bytes_of w n) ≡ w = length-bytes_of w n in
    rw (append_assoc, ← drop-drop (sum (take i ws)) w, drop_at (bytes_of w n)) (number_at-packed ws ns rest f.1 i (le_of_suc-le-suc h))

pub packed-bytes : (ws ns : List ℕ) → Bytes (packed ws ns)
unfolding packed
packed-bytes [] ns i = omega arith
packed-bytes (w ∷ ws) [] i = omega arith
packed-bytes (w ∷ ws) (n ∷ ns) i = append_bytes (bytes_of w n) (packed ws ns) (bytes_of-bytes w n) (packed-bytes ws ns) i
