-- Bytes that are gone through in parts of one length, as cards and amounts are. Assumes nothing.
use Rattle.std.proofs.Common.{◌≡◌, ℕ, ◌+◌, ◌*◌, ◌<◌, ◌≤◌, Bor, List, ◌++◌, None, Some, length, take, drop, sym, ap, ◌∙◌, add-zero, arith, length-append, length-drop}
use Rattle.std.proofs.lemmas.List.{drop-drop, drop_at, drop-append-le, take-append-le, take-append-drop, length-take-le}
use Rattle.std.specs.declared.slice.ChunksExact.{ChunksExact}
use Rattle.std.specs.Slice.Iter.{chunks_exact_rest, chunks_exact_size, chunks_exact_steps}
use Rattle.basis.specs.Bytes.{number_of, number_at}
use Rattle.basis.proofs.Rows.{number_at-drop}
use Rattle.meaning.specs.Cards.{card_length, card_at}
use Rattle.fields.specs.Fields.{Field}

-- the first i parts of b, n bytes each, are gone through
pub record Parted (n : ℕ) (b : List ℕ) (parts : ChunksExact ℕ) (i : ℕ) : Type 0 where
  pub some : 0 < n
  pub size : chunks_exact_size parts ≡ n
  pub left : chunks_exact_rest parts ≡ drop (n * i) b

-- what follows does not change a number that is read before it
pub number_in_front : (k : ℕ) (xs ys : List ℕ) (at : ℕ) → at + k ≤ length xs → number_at k (xs ++ ys) at ≡ number_at k xs at
unfolding number_at
number_in_front k xs ys at l =
    ap number_of (ap (take k) (drop-append-le at xs ys (omega arith)) ∙ take-append-le k (drop at xs) ys (omega (arith, length-drop at xs)))

module _ {n : ℕ} {b : List ℕ} {parts : ChunksExact ℕ} {i : ℕ} (p : Parted n b parts i) (part : Bor (List ℕ)) (next : ChunksExact ℕ) (s : chunks_exact_steps parts (Some part) next) where
  pub part-within : n * i + n ≤ length b
  part-within = omega (arith, p.some, p.size, s.1.1, length-append part.now (chunks_exact_rest next), length-drop (n * i) b, ap length (sym s.1.0 ∙ p.left))

  pub part-first : (k : ℕ) {m : ℕ} → k ≤ n → Field k part.now 0 m → Field k b (n * i) m
  part-first k l f =
      let front = number_in_front k part.now (chunks_exact_rest next) 0 (omega (arith, p.size, s.1.1)) in
      let e : number_at k part.now 0 ≡ number_at k b (n * i + 0) = sym front ∙ ap (λ xs. number_at k xs 0) (sym s.1.0 ∙ p.left) ∙ number_at-drop k b (n * i) 0 in
      record { is = f.is ∙ rw add-zero at e; small = f.small }

  pub part-next : Parted n b next (i + 1)
  part-next =
      let on : n * i + n ≡ n * (i + 1) = omega arith in
      record {
        some = p.some;
        size = s.0 ∙ p.size;
        left = sym (drop_at part.now (chunks_exact_rest next) n (s.1.1 ∙ p.size)) ∙ ap (drop n) (sym s.1.0 ∙ p.left) ∙ drop-drop n (n * i) b ∙ ap (λ m. drop m b) on;
      }

-- where too little is left for a part, all are gone through
pub parts-end : {n : ℕ} {b : List ℕ} {parts : ChunksExact ℕ} {i : ℕ} → Parted n b parts i → (next : ChunksExact ℕ) → chunks_exact_steps parts None next → length b < n * i + n
parts-end {n} {b} {parts} {i} p next s = omega (arith, p.some, p.size, s.1.0, length-drop (n * i) b, ap length p.left)

-- a card is read from the bytes that begin with it
pub cut-card : (b : List ℕ) (i at m : ℕ) → at ≡ card_length * i → card_length ≤ m → at + m ≤ length b → card_at (take m (drop at b)) 0 ≡ card_at b i
unfolding card_at
cut-card b i at m e l fits =
    let long : m ≤ length (drop at b) = omega (arith, length-drop at b) in
    let there : (p : ℕ) → p + 8 ≤ card_length → number_at 8 (take m (drop at b)) p ≡ number_at 8 b (card_length * i + p) =
    λ p q.
    sym (number_in_front 8 (take m (drop at b)) (drop m (drop at b)) p (omega (arith, length-take-le m (drop at b) long))) ∙ ap (λ xs. number_at 8 xs p) (take-append-drop m (drop at b))
    ∙ number_at-drop 8 b at p ∙ ap (λ q. number_at 8 b (q + p)) e in
    let first : number_at 8 (take m (drop at b)) 0 ≡ number_at 8 b (card_length * i) = rw add-zero at (there 0 (omega arith)) in
    λ j. record { received = first j; dispatched = there 8 (omega arith) j; opening = there 16 (omega arith) j; closing = there 24 (omega arith) j }
