-- Blocks that follow one another without gap: their elements by index. Assumes nothing.
use mathlib.Core.List.{List, ◌++◌, map}
use mathlib.Core.Path.{◌≡◌, sym, ap, ◌∙◌}
use Prim.Native.Nat.{ℕ, zero, suc, ◌+◌, ◌-◌, ◌≤◌, ◌<◌}
use native.Mathlib.Decide.{dec_lt}
use native.Mathlib.Nat.{add-zero, zero-add}
use native.Mathlib.Omega.{arith}
use lib.ListN.{length, get_or, length-append, get_or-append}
use lib.Seq.{get_or-append-add}
use Rattle.basis.specs.Lists.{count_up, joined}
use Rattle.basis.proofs.Counting.{length_counted, get_d_counted}

module _ {A : Type 0} (f : ℕ → List A) (s c : ℕ → ℕ) (g : ℕ → ℕ → A) where
  -- block i holds what stands at the c i places from s i on, and the next begins where it ends
  pub record Block (i : ℕ) : Type 0 where
    pub is : f i ≡ map (g i) (count_up (s i) (c i))
    pub next : s (i + 1) ≡ s i + c i

  abbrev pub Blocks : ℕ → ℕ → Type 0
  Blocks a k = (i : ℕ) → a ≤ i → i < a + k → Block i

  length_block : (i : ℕ) → Block i → length (f i) ≡ c i
  length_block i b = ap length b.is ∙ length_counted (g i) (s i) (c i)

  later : (a k : ℕ) → Blocks a (suc k) → Blocks (a + 1) k
  later a k b i l m = b i (omega arith) (omega arith)

  pub blocks_length : (k a : ℕ) → Blocks a k → length (joined (map f (count_up a k))) + s a ≡ s (a + k)
  unfolding count_up joined
  blocks_length zero a b = zero-add (s a) ∙ ap s (sym (add-zero a))
  blocks_length (suc k) a b =
      let h = b a (omega arith) (omega arith) in
      let e : a + 1 + k ≡ a + suc k = omega arith in
      let r : length (joined (map f (count_up (a + 1) k))) + s (a + 1) ≡ s (a + suc k) = blocks_length k (a + 1) (later a k b) ∙ ap s e in
      rw (length-append, length_block a h) (omega (arith, h.next))

  pub blocks_find : (k a j : ℕ) → Blocks a k → s a ≤ j → j < s (a + k) → (i : ℕ) × (a ≤ i) × (i < a + k) × (s i ≤ j) × (j < s i + c i)
  blocks_find zero a j b l m = absurd (omega (arith, ap s (add-zero a)))
  blocks_find (suc k) a j b l m = by (dec_lt j (s a + c a))
      (λ q. let e : a + 1 + k ≡ a + suc k = omega arith in
      let r = blocks_find k (a + 1) j (later a k b) (omega (arith, (b a (omega arith) (omega arith)).next)) (omega (arith, ap s e)) in
      (r.0, omega (arith, r.1), omega (arith, r.2), r.3, r.4))
    where
      by : Dec (j < s a + c a) → (s a + c a ≤ j → (i : ℕ) × (a ≤ i) × (i < a + suc k) × (s i ≤ j) × (j < s i + c i))
          → (i : ℕ) × (a ≤ i) × (i < a + suc k) × (s i ≤ j) × (j < s i + c i)
      by (yes q) rest = (a, omega arith, omega arith, l, q)
      by (no q) rest = rest (omega arith)

  pub blocks_at : (d : A) (k a i j : ℕ) → Blocks a k → a ≤ i → i < a + k → s i ≤ j → j < s i + c i → get_or (joined (map f (count_up a k))) (j - s a) d ≡ g i j
  unfolding count_up joined
  blocks_at d zero a i j b l m p q = absurd (omega arith)
  blocks_at d (suc k) a i j b l m p q = by (dec_lt a i) (λ o. blocks_at d k (a + 1) i j (later a k b) (omega arith) (omega arith) p q)
    where
      h : Block a
      h = b a (omega arith) (omega arith)

      rest : List A
      rest = joined (map f (count_up (a + 1) k))

      by : Dec (a < i) → (a < i → get_or rest (j - s (a + 1)) d ≡ g i j) → get_or (f a ++ rest) (j - s a) d ≡ g i j
      by (yes o) r =
          let n : i - (a + 1) + (a + 1) ≡ i = omega arith in
          let e : a + 1 + (i - (a + 1)) ≡ i = omega arith in
          let u : s (a + 1) ≤ j = omega (arith, blocks_length (i - (a + 1)) (a + 1) (λ x y z. b x (omega arith) (omega arith)), ap s e) in
          let t : j - s a ≡ length (f a) + (j - s (a + 1)) = rw (length_block a h) (omega (arith, h.next)) in
          ap (λ (x : ℕ). get_or (f a ++ rest) x d) t ∙ get_or-append-add (f a) rest (j - s (a + 1)) d ∙ r o
      by (no o) r =
          let e : i ≡ a = omega arith in
          let p' : s a ≤ j = rw e at p in
          let q' : j < s a + c a = rw e at q in
          let n : j - s a < length (f a) = rw (length_block a h) (omega arith) in
          let t : s a + (j - s a) ≡ j = omega arith in
          get_or-append (f a) rest d (j - s a) n
          ∙ ap (λ (xs : List A). get_or xs (j - s a) d) h.is
          ∙ get_d_counted (g a) d (c a) (s a) (j - s a) (omega arith)
          ∙ ap (g a) t
          ∙ ap (λ (x : ℕ). g x j) (sym e)
