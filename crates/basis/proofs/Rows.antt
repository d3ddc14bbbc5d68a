-- Records of one length behind one another: read back as they were written, and written back as they were read. Assumes nothing.
use mathlib.Core.Bool.{true}
use mathlib.Core.List.{List, [], ◌∷◌, ◌++◌, map, append_assoc}
use mathlib.Core.Path.{◌≡◌, refl, sym, ap, ◌∙◌}
use Prim.Native.Nat.{ℕ, zero, suc, ◌+◌, ◌*◌, ◌^◌, ◌≤◌, ◌<◌}
use native.Mathlib.Nat.{add-zero, mul-zero, le_of_suc-le-suc, not-suc-le-zero, lt_of_lt_of_le, pow-le-pow_right}
use native.Mathlib.Omega.{arith}
use lib.Dec.{eqb}
use borrow.Author.Tests.{eqb-true, eq-eqb}
use lib.ListN.{length, get_or, take, drop, replicate, length-append, length-take, length-drop, take-append-drop}
use lib.Seq.{drop_at, drop-drop, take-add, length-take-le, get_or-drop, drop-append-add}
use Rattle.basis.specs.Bytes.{bytes_of, number_at, packed, Bytes, starts_with}
use Rattle.basis.specs.Lists.{Each, sum, count_up, joined}
use Rattle.basis.proofs.Bytes.{append_bytes, bytes_of-number_of, number_of-fits}
use Rattle.basis.proofs.Bools.{and-true, true-and}

-- a number is read behind what stands before it
pub number_at_behind : (k : ℕ) (xs ys : List ℕ) (p : ℕ) → number_at k (xs ++ ys) (length xs + p) ≡ number_at k ys p
unfolding number_at
number_at_behind k xs ys p = rw (drop-append-add xs ys p)

pub number_at-drop : (k : ℕ) (xs : List ℕ) (n p : ℕ) → number_at k (drop n xs) p ≡ number_at k xs (n + p)
unfolding number_at
number_at-drop k xs n p = rw (drop-drop p n xs)

-- bytes begin with a tag exactly if the tag stands at their front
pub tag_starts : (t xs : List ℕ) → starts_with t (t ++ xs) ≡ true
unfolding starts_with
tag_starts [] xs = refl
tag_starts (c ∷ t) xs = true-and (eqb c c) (starts_with t (t ++ xs)) (eq-eqb c c refl) (tag_starts t xs)

pub starts_tag : (t bs : List ℕ) → Each (λ c. 0 < c) t → starts_with t bs ≡ true → take (length t) bs ≡ t
unfolding starts_with
starts_tag [] bs z e = refl
starts_tag (c ∷ t) [] z e =
    let h : (eqb 0 c ≡ true) × (starts_with t [] ≡ true) = and-true (eqb 0 c) (starts_with t []) e in
    let f : 0 ≡ c = eqb-true 0 c h.0 in
    absurd (omega (arith, z.0))
starts_tag (c ∷ t) (b ∷ bs) z e =
    let h : (eqb b c ≡ true) × (starts_with t bs ≡ true) = and-true (eqb b c) (starts_with t bs) e in
    rw (eqb-true b c h.0, starts_tag t bs z.1 h.1)

pub taken_starts : (t bs : List ℕ) → take (length t) bs ≡ t → starts_with t bs ≡ true
taken_starts t bs e =
    ap (starts_with t) (sym (take-append-drop (length t) bs) ∙ ap (λ (l : List ℕ). l ++ drop (length t) bs) e) ∙ tag_starts t (drop (length t) bs)

-- the numbers of a record's widths, one behind another
unfoldable pub unpacked : List ℕ → List ℕ → List ℕ
unpacked [] bs = []
unpacked (w ∷ ws) bs = number_at w bs 0 ∷ unpacked ws (drop w bs)

pub bytes_drop : (n : ℕ) (bs : List ℕ) → Bytes bs → Bytes (drop n bs)
bytes_drop n bs h i = rw (get_or-drop n bs i 0) (h (n + i))

pub bytes_take : (n : ℕ) (bs : List ℕ) → Bytes bs → Bytes (take n bs)
bytes_take zero bs h i = omega arith
bytes_take (suc n) [] h i = omega arith
bytes_take (suc n) (b ∷ bs) h zero = h 0
bytes_take (suc n) (b ∷ bs) h (suc i) = bytes_take n bs (λ k. h (suc k)) i

-- a number that is read and written again is what stood there
pub bytes_of-number_at : (k : ℕ) (bs : List ℕ) → Bytes bs → k ≤ length bs → bytes_of k (number_at k bs 0) ≡ take k bs
unfolding number_at
bytes_of-number_at k bs h l = rw (length-take-le k bs l) at (bytes_of-number_of (take k bs) (bytes_take k bs h))

-- and so is a record
pub packed_unpacked : (ws bs : List ℕ) → Bytes bs → sum ws ≤ length bs → packed ws (unpacked ws bs) ≡ take (sum ws) bs
unfolding packed unpacked sum
packed_unpacked [] bs h l = refl
packed_unpacked (w ∷ ws) bs h l =
    let k : w ≤ length bs = omega arith in
    let m : sum ws ≤ length (drop w bs) = rw length-drop (omega arith) in
    rw (bytes_of-number_at w bs h k, packed_unpacked ws (drop w bs) (bytes_drop w bs h) m) (sym (take-add w (sum ws) bs))

pub each-bytes : (bs : List ℕ) → Each (λ b. b < 256) bs → Bytes bs
each-bytes [] h i = omega arith
each-bytes (b ∷ bs) h zero = h.0
each-bytes (b ∷ bs) h (suc i) = each-bytes bs h.1 i

pub joined_bytes : {A : Type 0} (write : A → List ℕ) → ((x : A) → Bytes (write x)) → (xs : List A) → Bytes (joined (map write xs))
unfolding joined
joined_bytes write h [] i = omega arith
joined_bytes write h (x ∷ xs) i = append_bytes (write x) (joined (map write xs)) (h x) (joined_bytes write h xs) i

pub number_at-fits : (k : ℕ) (bs : List ℕ) (p : ℕ) → Bytes bs → number_at k bs p < 256 ^ k
unfolding number_at
number_at-fits k bs p h =
    let l : length (take k (drop p bs)) ≤ k = rw length-take (omega arith) in
    lt_of_lt_of_le (number_of-fits (take k (drop p bs)) (bytes_take k (drop p bs) (bytes_drop p bs h))) (pow-le-pow_right (omega arith) l)

-- numbers of one width, read one behind another, are those at their places
pub unpacked_same : (w s : ℕ) (bs : List ℕ) (c j : ℕ) → unpacked (replicate c w) (drop (s + w * j) bs) ≡ map (λ k. number_at w bs (s + w * k)) (count_up j c)
unfolding unpacked count_up
unpacked_same w s bs zero j = refl
unpacked_same w s bs (suc c) j =
    let q : s + w * j + w ≡ s + w * (j + 1) = omega arith in
    rw (drop-drop w (s + w * j) bs, q, number_at-drop w bs (s + w * j) 0, add-zero, unpacked_same w s bs c (j + 1))

-- records of one length behind one another, each read off the front of its bytes
module _ {A : Type 0} (write : A → List ℕ) (read : List ℕ → A) (w : ℕ) where
  pub read_rows : (P : A → Type 0) → ((x : A) → P x → length (write x) ≡ w) → ((x : A) (rest : List ℕ) → P x → read (write x ++ rest) ≡ x)
      → (s : ℕ) (bs rest : List ℕ) (xs : List A) (j : ℕ) → Each P xs → drop (s + w * j) bs ≡ joined (map write xs) ++ rest
      → map (λ i. read (drop (s + w * i) bs)) (count_up j (length xs)) ≡ xs
  unfolding count_up joined
  read_rows P len back s bs rest [] j p e = refl
  read_rows P len back s bs rest (x ∷ xs) j p e =
      let q : s + w * (j + 1) ≡ s + w * j + w = omega arith in
      let f : drop (s + w * j) bs ≡ write x ++ (joined (map write xs) ++ rest) = e ∙ append_assoc (write x) (joined (map write xs)) rest in
      let g : drop (s + w * (j + 1)) bs ≡ joined (map write xs) ++ rest =
      rw (q, ← drop-drop w (s + w * j) bs, f) (drop_at (write x) (joined (map write xs) ++ rest) w (len x p.0)) in
      rw (f, back x (joined (map write xs) ++ rest) p.0, read_rows P len back s bs rest xs (j + 1) p.1 g)

  pub write_rows : (s : ℕ) (bs : List ℕ) (n j : ℕ)
      → ((i : ℕ) → j ≤ i → i < j + n → write (read (drop (s + w * i) bs)) ≡ take w (drop (s + w * i) bs))
      → joined (map write (map (λ i. read (drop (s + w * i) bs)) (count_up j n))) ≡ take (w * n) (drop (s + w * j) bs)
  unfolding count_up joined
  write_rows s bs zero j h = rw mul-zero
  write_rows s bs (suc n) j h =
      let q : s + w * (j + 1) ≡ s + w * j + w = omega arith in
      let m : w * suc n ≡ w + w * n = omega arith in
      let r = write_rows s bs n (j + 1) (λ i l g. h i (omega arith) (omega arith)) in
      rw (h j (omega arith) (omega arith), r, q, ← drop-drop w (s + w * j) bs, m) (sym (take-add w (w * n) (drop (s + w * j) bs)))

  -- the row at an index, with what stands behind it
  pub row_at : (P : A → Type 0) → ((x : A) → P x → length (write x) ≡ w) → (d : A) (rest : List ℕ) (xs : List A) (i : ℕ) → i < length xs → Each P xs
      → drop (w * i) (joined (map write xs) ++ rest) ≡ write (get_or xs i d) ++ (joined (map write (drop (suc i) xs)) ++ rest)
  unfolding joined
  row_at P len d rest [] i l p = absurd (not-suc-le-zero l)
  row_at P len d rest (x ∷ xs) zero l p = rw mul-zero (append_assoc (write x) (joined (map write xs)) rest)
  row_at P len d rest (x ∷ xs) (suc i) l p =
      let q : w * suc i ≡ w + w * i = omega arith in
      rw (q, ← drop-drop (w * i) w, append_assoc (write x), drop_at (write x) (joined (map write xs) ++ rest) w (len x p.0))
      (row_at P len d rest xs i (le_of_suc-le-suc l) p.1)

  pub length-rows : (P : A → Type 0) → ((x : A) → P x → length (write x) ≡ w) → (xs : List A) → Each P xs → length (joined (map write xs)) ≡ w * length xs
  unfolding joined
  length-rows P len [] p = sym (mul-zero w)
  length-rows P len (x ∷ xs) p = rw (length-append, len x p.0, length-rows P len xs p.1) (omega arith)
