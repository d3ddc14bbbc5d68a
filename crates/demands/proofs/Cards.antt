-- The tests of stock cards decide the table's rows, and the amounts are those of formula 1. Assumes nothing.
use mathlib.Core.Bool.{Bool, true, false, not, ◌||◌}
use mathlib.Core.List.{List, [], ◌∷◌, ◌++◌, map, append-nil}
use mathlib.Core.Logic.{inl, inr, ⊎_elim}
use mathlib.Core.Path.{◌≡◌, refl, sym, ap, ◌∙◌}
use Prim.Native.Nat.{ℕ, ◌+◌, ◌*◌, ◌-◌, ◌/◌, ◌%◌, ◌<◌}
use native.Mathlib.Nat.{zero-add}
use native.Mathlib.Omega.{arith}
use lib.Dec.{eqb, ltb}
use lib.ListN.{length}
use lib.Seq.{take-length, ext_get_or}
use borrow.Author.Tests.{ltb-true, ltb-false, lt-ltb, eqb-true, eqb-false, not-true, not-false}
use Rattle.basis.specs.Answers.{Passes}
use Rattle.basis.specs.Bytes.{number_at, packed}
use Rattle.basis.specs.Lists.{sum, count_up}
use Rattle.basis.proofs.Answers.{each-passes, passed-at-all}
use Rattle.basis.proofs.Bools.{or_false, or_either}
use Rattle.basis.proofs.Bytes.{packed-bytes}
use Rattle.basis.proofs.Rows.{unpacked, unpacked_same, packed_unpacked}
use Rattle.basis.proofs.Counting.{counted_all, sum_alike}
use Rattle.basis.proofs.Lists.{◌&◌}
use Rattle.meaning.specs.Methods.{most_quantity}
use Rattle.meaning.specs.Cards.{card_count, card_at, comes_in, goes_out, amount_of, most_entry, wrong_entries, wrong_amount, cards_test, amount_test, card_tests, amounts_of, amount_bytes}
use Rattle.meaning.specs.Calls.{room_test, amounts}
use Rattle.meaning.proofs.Cards.{length-amounts_of, amount-at, length-amounts}
use Rattle.demands.specs.Fields.{cards_in, received, dispatched, opening, closing}
use Rattle.demands.specs.Exactly.{at}
use Rattle.demands.specs.Refusals.{NotCards, EntryAbove, NoAmount, card_rows, amount_rows}
use Rattle.demands.specs.Demand2.{Consumed, AmountsOf}
use Rattle.demands.specs.Calls.{WorksOut}
use Rattle.demands.specs.Fixed.{Once}
use Rattle.demands.proofs.Exactly.{◌then◌, Decides, DecideAll, Numbered, decide_if, decide_append, writes}
use Rattle.demands.proofs.Compared.{room_decides}
use Rattle.demands.proofs.Reports.{eights, fits_eights, eights_at}
use Rattle.demands.proofs.WrongSource.{left_or, right_or}
use Rattle.demands.proofs.RegisterTests.{decide_at-first}

-- 14, by length
pub cards_decide : (b : List ℕ) → Decides (cards_test b) (at 14 0 (NotCards b))
cards_decide b =
    let part = not (eqb (length b % 32) 0) in
    let many = ltb 1024 (length b / 32) in
    decide_if (part || many) 14 0 (NotCards b)
    (λ e. ⊎_elim (λ h. inl (eqb-false (length b % 32) 0 (not-true _ h))) (λ h. inr (omega (arith, ltb-true 1024 (length b / 32) h))) (or_either part many e))
    (λ e.
    let h = or_false part many e in
    let whole = eqb-true (length b % 32) 0 (not-false _ h.0) in
    let few = ltb-false 1024 (length b / 32) h.1 in
    ⊎_elim (λ f. f whole) (λ l. omega (arith, l, whole, few)))

-- 14, of a card
module _ (b : List ℕ) (i : ℕ) where
  entry-above : wrong_entries (card_at b i) ≡ true → EntryAbove b i
  unfolding wrong_entries card_at
  entry-above e =
      let above : (n : ℕ) → Bool = ltb most_entry in
      let is-above : (n : ℕ) → above n ≡ true → most_entry < n = ltb-true most_entry in
      let r = received b i in
      let d = dispatched b i in
      let o = opening b i in
      let c = closing b i in
      ⊎_elim
      (λ h. ⊎_elim (λ h. ⊎_elim (λ h. inl (is-above r h)) (λ h. inr (inl (is-above d h))) (or_either (above r) (above d) h)) (λ h. inr (inr (inl (is-above o h)))) (or_either (above r || above d) (above o) h))
      (λ h. inr (inr (inr (is-above c h))))
      (or_either (above r || above d || above o) (above c) e)

  above_entry : EntryAbove b i → wrong_entries (card_at b i) ≡ true
  unfolding wrong_entries card_at
  above_entry (inl l) = rw (lt-ltb most_entry (received b i) l)
  above_entry (inr (inl l)) = left_or (left_or (right_or (ltb most_entry (received b i)) (lt-ltb most_entry (dispatched b i) l)) (ltb most_entry (opening b i))) (ltb most_entry (closing b i))
  above_entry (inr (inr (inl l))) =
      left_or (right_or (ltb most_entry (received b i) || ltb most_entry (dispatched b i)) (lt-ltb most_entry (opening b i) l)) (ltb most_entry (closing b i))
  above_entry (inr (inr (inr l))) =
      right_or (ltb most_entry (received b i) || ltb most_entry (dispatched b i) || ltb most_entry (opening b i)) (lt-ltb most_entry (closing b i) l)

  -- 15
  amount-none : wrong_amount (card_at b i) ≡ true → NoAmount b i
  unfolding wrong_amount card_at
  amount-none e =
      let x = received b i + opening b i in
      let y = dispatched b i + closing b i in
      ⊎_elim (λ h. inl (ltb-true x y h)) (λ h. inr (omega (arith, ltb-true most_quantity (x - y) h))) (or_either (ltb x y) (ltb most_quantity (x - y)) e)

  none-amount : NoAmount b i → wrong_amount (card_at b i) ≡ true
  unfolding wrong_amount card_at
  none-amount (inl l) = rw (lt-ltb (received b i + opening b i) (dispatched b i + closing b i) l)
  none-amount (inr l) =
      let x = received b i + opening b i in
      let y = dispatched b i + closing b i in
      right_or (ltb x y) (lt-ltb most_quantity (x - y) (omega (arith, l)))

module _ (b : List ℕ) where
  pub card_tests_decide : DecideAll (card_tests b) (card_rows b)
  card_tests_decide =
      cards_decide b
      then decide_at-first 14 (λ i. wrong_entries (card_at b i)) (card_count b) (EntryAbove b) (λ i l. entry-above b i) (λ i l. above_entry b i)
      then decide_at-first 15 (λ i. wrong_amount (card_at b i)) (card_count b) (NoAmount b) (λ i l. amount-none b i) (λ i l. none-amount b i)
      then tt

  amounts_decide : (buffer : List ℕ) → DecideAll (card_tests b ++ (room_test (amount_bytes b) buffer ∷ [])) (amount_rows b (length buffer))
  amounts_decide buffer =
      decide_append (card_tests b) (room_test (amount_bytes b) buffer ∷ []) (card_rows b) (at 8 (8 * cards_in b) (length buffer < 8 * cards_in b) ∷ []) card_tests_decide
      (λ _. room_decides (amount_bytes b) buffer (8 * cards_in b) (length-amounts b) then tt)

  pub amounts-numbered : (buffer : List ℕ) → Numbered (8 ∷ 14 ∷ 15 ∷ []) (amount_rows b (length buffer))
  amounts-numbered buffer =
      record { positive = omega arith; among = (λ n p r. inr (inl r.0)) & (λ n p r. inr (inl r.1.0)) & (λ n p r. inr (inr (inl r.1.0))) & (λ n p r. inl r.0) & tt }

  -- where no amount is refused
  module _ (e : amount_test b ≡ Passes) where
    right : (i : ℕ) → i < card_count b → wrong_amount (card_at b i) ≡ false
    right = (passed-at-all 15 (λ i. wrong_amount (card_at b i)) (card_count b)).0 e

    consumed : Consumed b (amounts_of b)
    unfolding wrong_amount card_at
    consumed =
        record {
          one_each = length-amounts_of b;
          balance = λ i l.
              let h = or_false (ltb (comes_in (card_at b i)) (goes_out (card_at b i))) (ltb most_quantity (amount_of (card_at b i))) (right i l) in
              rw (amount-at b i l) (omega (arith, ltb-false (comes_in (card_at b i)) (goes_out (card_at b i)) h.0));
          quantity = λ i l.
              let h = or_false (ltb (comes_in (card_at b i)) (goes_out (card_at b i))) (ltb most_quantity (amount_of (card_at b i))) (right i l) in
              rw (amount-at b i l) (ltb-false most_quantity (amount_of (card_at b i)) h.1);
        }

    amounts_of_lem : AmountsOf b (amount_bytes b)
    unfolding amount_bytes
    amounts_of_lem =
        let n = card_count b in
        let ns = amounts_of b in
        let fit = fits_eights n ns (length-amounts_of b) (λ i l. omega (arith, consumed.quantity i l)) in
        record {
          amounts = ns;
          consumed = consumed;
          are_bytes = packed-bytes (eights n) ns;
          size = length-amounts b;
          each = λ i l. rw (append-nil (packed (eights n) ns), zero-add (8 * i)) at (eights_at [] ns [] 0 n refl fit i l);
        }

  pub working : (buffer : List ℕ) → WorksOut b buffer (amounts b buffer)
  unfolding amounts
  working buffer =
      writes (card_tests b) (8 ∷ 14 ∷ 15 ∷ []) (amount_rows b (length buffer)) (amount_bytes b) buffer (amounts_decide buffer) (amounts-numbered buffer)
      (λ e. amounts_of_lem (each-passes _ e).1.1.0)

-- cards have one list of amounts
pub consumed-once : (b : List ℕ) → Once (Consumed b)
consumed-once b ns ms x y =
    ext_get_or 0 ns ms (x.one_each ∙ sym y.one_each)
    (λ i l. let h = rw x.one_each at l in omega (arith, x.balance i h, y.balance i h))

-- the amounts, read one behind another
pub numbers_read : (b bytes : List ℕ) (x : AmountsOf b bytes) (f : ℕ → ℕ) → ((i : ℕ) → f i ≡ number_at 8 bytes (8 * i)) → map f (count_up 0 (cards_in b)) ≡ x.amounts
numbers_read b bytes x f reads =
    let n = x.consumed.one_each in
    rw n at (counted_all f 0 x.amounts (λ i l. reads i ∙ x.each i (rw n at l)))

pub amounts-once : (b : List ℕ) → Once (AmountsOf b)
amounts-once b bs cs x y = written bs x ∙ ap (packed (eights (cards_in b))) (consumed-once b x.amounts y.amounts x.consumed y.consumed) ∙ sym (written cs y)
  where
    written : (bs : List ℕ) (x : AmountsOf b bs) → bs ≡ packed (eights (cards_in b)) x.amounts
    written bs x =
        let n = cards_in b in
        let size : sum (eights n) ≡ length bs = rw x.size (sum_alike 8 n) in
        let read : unpacked (eights n) bs ≡ x.amounts = unpacked_same 8 0 bs n 0 ∙ numbers_read b bs x (λ k. number_at 8 bs (0 + 8 * k)) (λ k. rw (zero-add (8 * k))) in
        sym (rw (read, size, take-length bs) at (packed_unpacked (eights n) bs x.are_bytes (omega (arith, size))))
