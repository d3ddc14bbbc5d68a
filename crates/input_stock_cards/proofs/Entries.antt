-- A card by its entries as they were read: whether one is out of range, and what the card comes to. Assumes nothing.
use Rattle.std.proofs.Common.{◌≡◌, ℕ, ◌+◌, ◌%◌, ◌^◌, ◌<◌, ◌≤◌, Bool, false, ◌||◌, ltb, List, arith, w64, Fits, ltb-false, le-ltb}
use lib.Bits.{bit_or}
use Rattle.basis.proofs.Bools.{or_false}
use Rattle.meaning.specs.Methods.{most_quantity}
use Rattle.meaning.specs.Cards.{Card, card_at, comes_in, goes_out, amount_of, most_entry, wrong_entries, wrong_amount}
use Rattle.fields.specs.Fields.{Field}
use Rattle.input_stock_cards.specs.Worked.{wrong, Tells, WorkedCard}
use Rattle.input_stock_cards.proofs.Bits.{joined-below}

-- what is said of a card that is right
record Right (c : Card) : Type 0 where
  received : c.received ≤ most_entry
  dispatched : c.dispatched ≤ most_entry
  opening : c.opening ≤ most_entry
  closing : c.closing ≤ most_entry
  not_below : goes_out c ≤ comes_in c
  not_above : amount_of c ≤ most_quantity

right_card : (c : Card) → wrong c ≡ false → Right c
unfolding wrong wrong_entries wrong_amount
right_card c e =
    let above : ℕ → Bool = ltb most_entry in
    let r = above c.received in
    let d = above c.dispatched in
    let o = above c.opening in
    let both = or_false (r || d || o || above c.closing) (ltb (comes_in c) (goes_out c) || ltb most_quantity (amount_of c)) e in
    let four = or_false (r || d || o) (above c.closing) both.0 in
    let three = or_false (r || d) o four.0 in
    let two = or_false r d three.0 in
    let amount = or_false (ltb (comes_in c) (goes_out c)) (ltb most_quantity (amount_of c)) both.1 in
    record {
      received = ltb-false most_entry c.received two.0;
      dispatched = ltb-false most_entry c.dispatched two.1;
      opening = ltb-false most_entry c.opening three.1;
      closing = ltb-false most_entry c.closing four.1;
      not_below = ltb-false (comes_in c) (goes_out c) amount.0;
      not_above = ltb-false most_quantity (amount_of c) amount.1;
    }

card_right : (c : Card) → Right c → wrong c ≡ false
unfolding wrong wrong_entries wrong_amount
card_right c h =
    rw (
      le-ltb most_entry c.received h.received,
      le-ltb most_entry c.dispatched h.dispatched,
      le-ltb most_entry c.opening h.opening,
      le-ltb most_entry c.closing h.closing,
      le-ltb (comes_in c) (goes_out c) h.not_below,
      le-ltb most_quantity (amount_of c) h.not_above,
    )

-- what comes in less what goes out, modulo 2^64, and the bits of the entries and of the amount
module _ (c : Card) {comes goes a : ℕ} (x : comes ≡ (c.received + c.opening) % 2 ^ 64) (y : goes ≡ (c.dispatched + c.closing) % 2 ^ 64) (z : (a + goes) % 2 ^ 64 ≡ comes)
    (f : Fits w64 a) where
  amount_exact : Right c → a ≡ amount_of c
  amount_exact h = omega (arith, x, y, z, f.fits, h.received, h.dispatched, h.opening, h.closing, h.not_below)

  in_range_lem : c.received ≤ most_entry → c.dispatched ≤ most_entry → c.opening ≤ most_entry → c.closing ≤ most_entry → a ≤ most_entry → Right c
  in_range_lem r d o k l =
      record { received = r; dispatched = d; opening = o; closing = k; not_below = omega (arith, x, y, z); not_above = omega (arith, x, y, z) }

  card_told : {m n p q s : ℕ} → Tells (c.received ≤ most_entry) m → Tells (c.dispatched ≤ most_entry) n → Tells (c.opening ≤ most_entry) p → Tells (c.closing ≤ most_entry) q
      → Tells (a ≤ most_entry) s → WorkedCard c a (bit_or (bit_or (bit_or (bit_or m n) p) q) s)
  card_told {m} {n} {p} {q} {s} tr td to tk ta = record { tells = (λ l. card_right c (right l), λ e. below (right_card c e)); is = λ e. amount_exact (right_card c e) }
    where
      right : bit_or (bit_or (bit_or (bit_or m n) p) q) s < 2 ^ 34 → Right c
      right l =
          let five = (joined-below (bit_or (bit_or (bit_or m n) p) q) s).0 l in
          let four = (joined-below (bit_or (bit_or m n) p) q).0 five.0 in
          let three = (joined-below (bit_or m n) p).0 four.0 in
          let two = (joined-below m n).0 three.0 in
          in_range_lem (tr.0 two.0) (td.0 two.1) (to.0 three.1) (tk.0 four.1) (ta.0 five.1)

      below : Right c → bit_or (bit_or (bit_or (bit_or m n) p) q) s < 2 ^ 34
      below h =
          let two = (joined-below m n).1 (tr.1 h.received, td.1 h.dispatched) in
          let three = (joined-below (bit_or m n) p).1 (two, to.1 h.opening) in
          let four = (joined-below (bit_or (bit_or m n) p) q).1 (three, tk.1 h.closing) in
          (joined-below (bit_or (bit_or (bit_or m n) p) q) s).1 (four, ta.1 (omega (arith, amount_exact h, h.not_above)))

-- the entries of a card as they were read
module _ (b : List ℕ) {r d o k : ℕ} (fr : Field 8 b 0 r) (fd : Field 8 b 8 d) (fo : Field 8 b 16 o) (fk : Field 8 b 24 k) where
  pub entries-judged : ltb most_entry r || ltb most_entry d || ltb most_entry o || ltb most_entry k ≡ wrong_entries (card_at b 0)
  unfolding wrong_entries card_at
  entries-judged = rw (fr.is, fd.is, fo.is, fk.is)

  pub card_worked : {comes goes a m n p q s : ℕ} → comes ≡ (r + o) % 2 ^ 64 → goes ≡ (d + k) % 2 ^ 64 → (a + goes) % 2 ^ 64 ≡ comes → Fits w64 a → Tells (r ≤ most_entry) m
      → Tells (d ≤ most_entry) n → Tells (o ≤ most_entry) p → Tells (k ≤ most_entry) q → Tells (a ≤ most_entry) s
      → WorkedCard (card_at b 0) a (bit_or (bit_or (bit_or (bit_or m n) p) q) s)
  unfolding card_at
  card_worked x y z f tr td to tk ta =
      rw (← fr.is, ← fd.is, ← fo.is, ← fk.is) (card_told (record { received = r; dispatched = d; opening = o; closing = k }) x y z f tr td to tk ta)
