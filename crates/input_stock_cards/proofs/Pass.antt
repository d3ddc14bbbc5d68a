-- The passes over the cards: their amounts, one behind another, and the first card that is wrong; and how amounts are written. Assumes nothing.
use Rattle.std.proofs.Common.{◌≡◌, ℕ, suc, ◌+◌, ◌-◌, ◌*◌, ◌^◌, ◌<◌, ◌≤◌, Bool, true, false, not, ltb, leb, Bor, Option, None, Some, IfSome, IsSomeAnd, ap, List, [], ◌∷◌, ◌++◌, length, get_or, take, drop, set, replicate, sym, refl, ◌∙◌, add-one, arith, length-set, length-take-le, take_all, drop-cons, take-suc, ltb-false, ltb-true}
use native.Mathlib.Nat.{sub-zero}
use native.Mathlib.Decide.{dec_lt}
use borrow.Author.Tests.{not-true, not-false}
use Rattle.std.proofs.lemmas.Bool.{lt-leb, le-leb}
use lib.Bits.{bit_or}
use Rattle.std.specs.Option.{option_map}
use Rattle.basis.specs.Bytes.{bytes_of, packed, Written}
use Rattle.basis.specs.First.{first, NoneBelow}
use Rattle.basis.proofs.Bools.{clash, not_both}
use Rattle.basis.proofs.First.{first_misses, first-is, first-end}
use Rattle.basis.proofs.Bytes.{length-bytes_of, splice-none, written_one, written_then}
use Rattle.meaning.specs.Cards.{Card, card_length, card_count, card_at, amount_of, amounts_of, amount_length}
use Rattle.meaning.proofs.Cards.{length-amounts_of, amount-at, in_eights, length_in_eights}
use Rattle.fields.proofs.Laws.{Writing, writing_none, writing_then, writing_all}
use Rattle.input_stock_cards.specs.Worked.{wrong, wrong_at, IsFirst, WorkedCard, WorkedOut}
use Rattle.input_stock_cards.proofs.Parts.{cut-card}
use Rattle.input_stock_cards.proofs.Bits.{joined-below}

-- bits tell that a card is wrong
card_wrong : {c : Card} {amount bits : ℕ} → WorkedCard c amount bits → 2 ^ 34 ≤ bits → wrong c ≡ true
card_wrong {c} w l = not-false (wrong c) (not_both (not (wrong c)) (λ e. omega (arith, w.tells.1 (not-true (wrong c) e))))

-- bits tell whether a card is wrong
pub wrong-told : {c : Card} {amount bits : ℕ} → WorkedCard c amount bits → leb (2 ^ 34) bits ≡ wrong c
wrong-told {c} {amount} {bits} w = by (dec_lt bits (2 ^ 34))
  where
    by : Dec (bits < 2 ^ 34) → leb (2 ^ 34) bits ≡ wrong c
    by (yes p) = lt-leb (2 ^ 34) bits p ∙ sym (w.tells.0 p)
    by (no p) = le-leb (2 ^ 34) bits (omega arith) ∙ sym (card_wrong w (omega arith))

-- an item that was judged, and the part of the cards that it is
cut-judged : (b : List ℕ) (judge : Card → Bool) (o : Option (Bor (List ℕ))) (k : ℕ) {w : Bool} → IsSomeAnd o (λ x. judge (card_at x.now 0) ≡ w)
    → IfSome o (λ x. x.now ≡ take card_length (drop (k * card_length) b)) → k < card_count b → judge (card_at b k) ≡ w
cut-judged b judge None k j e l = absurd j
cut-judged b judge (Some x) k j e l = ap (λ c. judge c) (sym (cut-card b k (k * card_length) card_length (omega arith) (omega arith) (omega arith)) ∙ ap (λ xs. card_at xs 0) (sym e)) ∙ j

some_and : (P : Bor (List ℕ) → Type 0) (o : Option (Bor (List ℕ))) (x : Bor (List ℕ)) → option_map (λ y. y) o ≡ Some x → IfSome o P → IsSomeAnd o P
some_and P None x e h = absurd cc
some_and P (Some y) x e h = h

-- the first of the cards that is judged wrong
pub first-judged : (b : List ℕ) (judge : Card → Bool) (at : ℕ → Option (Bor (List ℕ))) (r : Option ℕ)
    → ((k : ℕ) → IfSome (at k) (λ x. x.now ≡ take card_length (drop (k * card_length) b)))
    → ((i : ℕ) → r ≡ Some i → i < card_count b)
    → ((i : ℕ) → r ≡ Some i → IsSomeAnd (at i) (λ x. judge (card_at x.now 0) ≡ true))
    → ((i k : ℕ) → r ≡ Some i → k < i → IsSomeAnd (at k) (λ x. judge (card_at x.now 0) ≡ false))
    → ((k : ℕ) → r ≡ None → k < card_count b → (x : Bor (List ℕ)) × (option_map (λ y. y) (at k) ≡ Some x))
    → ((k : ℕ) → r ≡ None → IfSome (at k) (λ x. judge (card_at x.now 0) ≡ false))
    → IsFirst (λ i. judge (card_at b i)) (card_count b) r
first-judged b judge at None cuts within hit before there none =
    first-end (λ i. judge (card_at b i)) (card_count b) (λ k l. cut-judged b judge (at k) k (let x = there k refl l in some_and _ (at k) x.0 x.1 (none k refl)) (cuts k) l)
first-judged b judge at (Some i) cuts within hit before there none =
    let l = within i refl in
    (l, sym (first-is (λ j. judge (card_at b j)) (card_count b) i l (λ k m. cut-judged b judge (at k) k (before i k refl m) (cuts k) (omega arith)) (cut-judged b judge (at i) i (hit i refl) (cuts i) l)))

-- a card that is worked out is the one that stands there
pub worked-there : {c d : Card} {amount bits : ℕ} → WorkedCard d amount bits → d ≡ c → WorkedCard c amount bits
worked-there w e = rw (sym e) w

-- bits tell whether the cards before i are right, and their amounts then stand at the front
pub record Working (b before after : List ℕ) (bits i : ℕ) : Type 0 where
  pub low : i ≤ card_count b
  pub kept : length after ≡ length before
  pub none : bits < 2 ^ 34 → NoneBelow (wrong_at b) i
  pub amounts : bits < 2 ^ 34 → Written before 0 (take i (amounts_of b)) after
  pub some : 2 ^ 34 ≤ bits → (k : ℕ) × (k < i) × (wrong_at b k ≡ true)

pub working-none : (b before : List ℕ) → Working b before before 0 0
working-none b before =
    record {
      low = omega arith;
      kept = refl;
      none = λ l k m. absurd (omega arith);
      amounts = λ l. record { fits = omega arith; is = sym (splice-none before 0) };
      some = λ l. absurd (omega arith);
    }

module _ {b before after : List ℕ} {bits i : ℕ} (w : Working b before after bits i) where
  pub working_more : {amount more : ℕ} → i < card_count b → card_count b ≤ length before → WorkedCard (card_at b i) amount more
      → Working b before (set after i amount) (bit_or bits more) (i + 1)
  working_more {amount} {more} l room c =
      record {
        low = omega arith;
        kept = length-set after i amount ∙ w.kept;
        none = λ m. let h = (joined-below bits more).0 m in none_more (w.none h.0) (c.tells.0 h.1);
        amounts = λ m. let h = (joined-below bits more).0 m in amounts_more (w.amounts h.0) (c.is (c.tells.0 h.1));
        some = λ m. some_more m (dec_lt bits (2 ^ 34));
      }
    where
      none_more : NoneBelow (wrong_at b) i → wrong_at b i ≡ false → NoneBelow (wrong_at b) (i + 1)
      none_more h e k m = by (dec_lt k i)
        where
          by : Dec (k < i) → wrong_at b k ≡ false
          by (yes q) = h k q
          by (no q) = let s : k ≡ i = omega arith in rw s e

      amounts_more : Written before 0 (take i (amounts_of b)) after → amount ≡ amount_of (card_at b i) → Written before 0 (take (i + 1) (amounts_of b)) (set after i amount)
      amounts_more v e =
          let many : i < length (amounts_of b) = rw (length-amounts_of b) l in
          let front : length (take i (amounts_of b)) ≡ i = length-take-le i (amounts_of b) (omega arith) in
          let more : take (i + 1) (amounts_of b) ≡ take i (amounts_of b) ++ (amount ∷ []) = rw (add-one i, take-suc (amounts_of b) i 0 many, amount-at b i l, ← e) in
          rw more (written_then v (written_one after i amount (omega (arith, w.kept))) (omega arith))

      some_more : 2 ^ 34 ≤ bit_or bits more → Dec (bits < 2 ^ 34) → (k : ℕ) × (k < i + 1) × (wrong_at b k ≡ true)
      some_more m (no q) = let r = w.some (omega arith) in (r.0, omega (arith, r.1), r.2)
      some_more m (yes q) = (i, omega arith, card_wrong c (last (dec_lt more (2 ^ 34))))
        where
          last : Dec (more < 2 ^ 34) → 2 ^ 34 ≤ more
          last (no p) = omega arith
          last (yes p) = absurd (omega (arith, m, (joined-below bits more).1 (q, p)))

  pub working-all : card_count b ≤ i → WorkedOut b before (ltb bits (2 ^ 34)) after
  working-all m =
      let e : i ≡ card_count b = omega (arith, w.low) in
      let whole : take i (amounts_of b) ≡ amounts_of b = take_all i (amounts_of b) (omega (arith, length-amounts_of b)) in
      record {
        none = λ t. rw e at (w.none (ltb-true bits (2 ^ 34) t));
        amounts = λ t. rw whole at (w.amounts (ltb-true bits (2 ^ 34) t));
        some = λ t. let r = w.some (ltb-false bits (2 ^ 34) t) in wrong-some r.0 r.1 r.2 (dec_lt (first (wrong_at b) (card_count b)) (card_count b));
        kept = w.kept;
      }
    where
      wrong-some : (k : ℕ) → k < i → wrong_at b k ≡ true → Dec (first (wrong_at b) (card_count b) < card_count b) → first (wrong_at b) (card_count b) < card_count b
      wrong-some k q t (yes p) = p
      wrong-some k q t (no p) = absurd (clash t (first_misses (wrong_at b) (card_count b) k (omega (arith, w.low))))

-- i of the amounts are written, and the others are left
pub record Putting (ns before after : List ℕ) (i : ℕ) : Type 0 where
  pub low : i ≤ length ns
  pub left : Writing before 0 (in_eights ns) after (amount_length * i) (packed (replicate (length ns - i) amount_length) (drop i ns))

pub putting_none : (ns before : List ℕ) → amount_length * length ns ≤ length before → Putting ns before before 0
putting_none ns before room =
    let size = length_in_eights ns in
    record { low = omega arith; left = rw (sub-zero (length ns)) (writing_none before 0 (in_eights ns) (omega arith)) }

module _ {ns before after : List ℕ} {i : ℕ} (p : Putting ns before after i) where
  pub putting_more : {next : List ℕ} → i < length ns → Written after (amount_length * i) (bytes_of amount_length (get_or ns i 0)) next → Putting ns before next (i + 1)
  unfolding packed
  putting_more l v =
      let n : length ns - i ≡ suc (length ns - (i + 1)) = omega arith in
      let d : drop i ns ≡ get_or ns i 0 ∷ drop (i + 1) ns = rw (drop-cons ns i 0, add-one) in
      let at : amount_length * i + length (bytes_of amount_length (get_or ns i 0)) ≡ amount_length * (i + 1) = rw length-bytes_of (omega arith) in
      record { low = omega arith; left = rw at at (writing_then (rw (n, d) at p.left) v) }

  pub putting_all : length ns ≤ i → Written before 0 (in_eights ns) after
  unfolding packed
  putting_all l = let z : length ns - i ≡ 0 = omega arith in writing_all (rw z at p.left)
