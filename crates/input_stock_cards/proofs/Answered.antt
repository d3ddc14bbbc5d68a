-- What is answered and left where a test refuses, where there is no room, and where the amounts are written. Assumes nothing.
use Rattle.std.specs.Prelude.{Result, Ok, Err, IsErrAnd}
use Rattle.std.proofs.Common.{◌≡◌, ℕ, ◌*◌, ◌%◌, ◌<◌, ◌≤◌, Bool, true, false, ltb, List, [], ◌∷◌, length, take, sym, refl, ◌∙◌, arith, length-take, ltb-false, le-ltb, lt-ltb, eq-eqb, eqb-true}
use borrow.Author.Tests.{not-false}
use lib.Seq.{take-length}
use Rattle.basis.specs.declared.Answer.{Answer}
use Rattle.basis.specs.declared.Refusal.{Refusal}
use Rattle.basis.specs.Answers.{Verdict, Passes, Refuses, refuse_if, refuse_at_first, first_refusal, answered, Gives}
use Rattle.basis.specs.Bytes.{Written}
use Rattle.basis.specs.First.{first, NoneBelow}
use Rattle.basis.proofs.Answers.{passed_then, passed-at-all, passed_if, room-there}
use Rattle.basis.proofs.Bools.{or_false}
use Rattle.basis.proofs.Bytes.{read_inside}
use Rattle.basis.proofs.Lists.{counted}
use Rattle.basis.proofs.First.{first_misses, first_hits, first-is}
use Rattle.meaning.specs.Cards.{card_length, most_cards, card_count, card_at, wrong_amount, cards_test, entry_test, amount_test, card_tests, amounts_of, amount_length, amount_bytes}
use Rattle.meaning.specs.Calls.{room_test, written, amounts}
use Rattle.meaning.proofs.Calls.{refused-gives, short-gives, made-gives}
use Rattle.meaning.proofs.Cards.{length-amounts_of, in_eights, length_in_eights}
use Rattle.input_stock_cards.specs.Worked.{Whole, entry_wrong_at, wrong, wrong_at, WorkedOut}

-- 14, by length
module _ (b : List ℕ) {v : Verdict} (e : v ≡ cards_test b) where
  pub length_whole : v ≡ Passes → Whole b
  length_whole t =
      let h = or_false _ _ (passed_if _ 14 0 (sym e ∙ t)) in
      record { whole = eqb-true (length b % card_length) 0 (not-false _ h.0); few = ltb-false most_cards (card_count b) h.1 }

  pub length-refused : (buffer : List ℕ) {refusal : Refusal} (w : Result ℕ Refusal) → v ≡ Err refusal → IsErrAnd w (λ r. r ≡ refusal) → Gives (amounts b buffer) (answered w) buffer
  unfolding amounts first_refusal
  length-refused buffer w t = refused-gives (card_tests b) (amount_bytes b) buffer w (rw (← e, t)) t

module _ (b : List ℕ) (h : Whole b) where
  length-passes : cards_test b ≡ Passes
  length-passes = rw (eq-eqb (length b % card_length) 0 h.whole, le-ltb most_cards (card_count b) h.few)

  -- 14, at the first card with an entry out of range
  pub entry-refused : {entry : ℕ} → entry ≡ first (entry_wrong_at b) (card_count b) → entry < card_count b → Refuses 14 entry ≡ first_refusal (card_tests b)
  unfolding first_refusal refuse_at_first
  entry-refused {entry} e l = rw (length-passes, ← e, lt-ltb entry (card_count b) l)

  -- 15, where no entry is: at the first card that is wrong
  pub amount-refused : {entry place : ℕ} → entry ≡ first (entry_wrong_at b) (card_count b) → card_count b ≤ entry → place ≡ first (wrong_at b) (card_count b)
      → first (wrong_at b) (card_count b) < card_count b → Refuses 15 place ≡ first_refusal (card_tests b)
  unfolding first_refusal refuse_at_first wrong
  amount-refused {entry} {place} e m f some =
      let n = card_count b in
      let l : place < n = rw f some in
      let right : NoneBelow (entry_wrong_at b) n = λ k q. first_misses (entry_wrong_at b) n k (omega (arith, e)) in
      let entries : entry_test b ≡ Passes = (passed-at-all 14 (entry_wrong_at b) n).1 right in
      let hit : wrong_amount (card_at b place) ≡ true = rw (right place l) at (rw (← f) at (first_hits (wrong_at b) n) l) in
      let is : first (λ i. wrong_amount (card_at b i)) n ≡ place =
      first-is (λ i. wrong_amount (card_at b i)) n place l (λ k q. (or_false (entry_wrong_at b k) (wrong_amount (card_at b k)) (first_misses (wrong_at b) n k (omega (arith, f)))).1) hit in
      rw (length-passes, entries, is, lt-ltb place n l)

  -- no card is wrong
  all_pass : NoneBelow (wrong_at b) (card_count b) → first_refusal (card_tests b) ≡ Passes
  unfolding first_refusal wrong
  all_pass right =
      let n = card_count b in
      let entries : entry_test b ≡ Passes = (passed-at-all 14 (entry_wrong_at b) n).1 (λ k q. (or_false (entry_wrong_at b k) (wrong_amount (card_at b k)) (right k q)).0) in
      let consumed : amount_test b ≡ Passes = (passed-at-all 15 (λ i. wrong_amount (card_at b i)) n).1 (λ k q. (or_false (entry_wrong_at b k) (wrong_amount (card_at b k)) (right k q)).1) in
      rw (length-passes, entries, consumed)

-- 8, with no other test
module _ (ns buffer : List ℕ) where
  pub room-short : {v : Verdict} {refusal : Refusal} (w : Result ℕ Refusal) → v ≡ refuse_if (ltb (length buffer) (amount_length * length ns)) 8 (amount_length * length ns) → v ≡ Err refusal
      → IsErrAnd w (λ r. r ≡ refusal) → Gives (written [] (in_eights ns) buffer) (answered w) buffer
  unfolding first_refusal
  room-short w e t f = short-gives [] (in_eights ns) buffer refl (length_in_eights ns) w e t f

  pub room_enough : {v : Verdict} → v ≡ refuse_if (ltb (length buffer) (amount_length * length ns)) 8 (amount_length * length ns) → v ≡ Passes
      → amount_length * length ns ≤ length buffer
  room_enough e t = room-there (length buffer) (amount_length * length ns) e t

  pub all-written : {left : List ℕ} → Written buffer 0 (in_eights ns) left → Gives (written [] (in_eights ns) buffer) (answered (Ok (amount_length * length ns))) left
  unfolding first_refusal
  all-written w = made-gives [] (in_eights ns) buffer refl (length_in_eights ns) w

-- the cards are worked out
module _ (b : List ℕ) {before after : List ℕ} {right : Bool} (h : Whole b) (w : WorkedOut b before right after) where
  pub worked_count : card_count b ≤ length before → card_count b ≡ length (take (card_count b) after)
  worked_count l = counted (card_count b) after (omega (arith, w.kept))

  -- one of them is wrong
  pub some-wrong : right ≡ false → first (wrong_at b) (card_count b) < card_count b
  some-wrong t = w.some t

  pub cards-refused : (buffer : List ℕ) {refusal : Refusal} → Err refusal ≡ first_refusal (card_tests b) → Gives (amounts b buffer) (answered (Err refusal)) buffer
  unfolding amounts
  cards-refused buffer {refusal = refusal} e = refused-gives (card_tests b) (amount_bytes b) buffer (Err refusal) (sym e) refl refl

  -- none is, and the amounts stand at the front
  pub cards-written : (buffer : List ℕ) {a : Answer} {left : List ℕ} → right ≡ true → Gives (written [] (in_eights (take (card_count b) after)) buffer) a left
      → Gives (amounts b buffer) a left
  unfolding amounts amount_bytes written first_refusal
  cards-written buffer {a} {left} t g =
      let n = length-amounts_of b in
      let front : take (card_count b) after ≡ amounts_of b = rw n at (read_inside (w.amounts t) 0 (length (amounts_of b)) (omega arith) ∙ take-length (amounts_of b)) in
      let made : in_eights (take (card_count b) after) ≡ amount_bytes b = rw (front, n) in
      let passed = passed_then (card_tests b) (room_test (amount_bytes b) buffer ∷ []) (all_pass b h (w.none t)) in
      rw passed (rw made at g)

pub worked_few : (b after : List ℕ) → Whole b → length (take (card_count b) after) ≤ most_cards
worked_few b after h = rw length-take (omega (arith, h.few))
