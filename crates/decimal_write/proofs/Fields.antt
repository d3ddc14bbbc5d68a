-- Fields as they are written, and how long they are. Assumes nothing.
use mathlib.Core.List.{List, [], ◌∷◌, ◌++◌}
use mathlib.Core.Path.{◌≡◌, sym, ◌∙◌}
use Prim.Native.Nat.{ℕ, ◌+◌, ◌-◌, ◌≤◌, ◌<◌}
use native.Mathlib.Omega.{arith}
use mir.Syntax.{w64}
use mir.Val.{Fits}
use borrow.Author.Rules.{rules}
use lib.ListN.{length, take, drop, set, length-append, length-set}
use lib.Seq.{take_at}
use Rattle.basis.proofs.Lists.{counted}
use Rattle.basis.specs.Bytes.{splice, Written}
use Rattle.basis.proofs.Bytes.{length-written, written_one}
use Rattle.meaning.specs.Text.{decimal}
use Rattle.decimal_write.specs.Digits.{field, pair, Ends, Put, Placed, Fronted}
use Rattle.decimal_write.proofs.Counts.{twenty_digits}
use Rattle.decimal_write.proofs.Digits.{put_written, put_before}

pub length-field : (n after : ℕ) → length (field n after) ≡ length (decimal n) + 1
unfolding field
length-field n after = length-append (decimal n) (after ∷ [])

-- a field up to a place: the byte behind the number, and its digits
module _ (n after end : ℕ) (xs : List ℕ) (h : Ends xs (field n after) end) where
  pub field-some : 0 < end
  field-some = omega (arith, h.short)

  pub field_at : end - 1 < length xs
  field_at = omega (arith, field-some, h.within)

  pub field_room : Ends (set xs (end - 1) after) (decimal n) (end - 1)
  field_room = record { short = omega (arith, h.short, length-field n after); within = rw length-set (omega (arith, h.within)) }

  module _ {r : ℕ} {ys : List ℕ} (w : Put (set xs (end - 1) after) r (decimal n) ys (end - 1)) where
    pub field-kept : length ys ≡ length xs
    field-kept = w.same ∙ length-set xs (end - 1) after

    pub field_put : Put xs r (field n after) ys end
    unfolding field
    field_put = put_before (put_written (written_one xs (end - 1) after field_at) (omega (arith, field-some))) w

pub ruleset fielding = (rules, field-some, field_at, field_room, field-kept, field_put)

-- two texts, the second first
module _ {xs : List ℕ} {end : ℕ} (ys us : List ℕ) (h : Ends xs (ys ++ us) end) where
  pub second-room : Ends xs us end
  second-room = record { short = omega (arith, h.short, length-append ys us); within = h.within }

  pub first-room : {zs : List ℕ} {p : ℕ} → Put xs p us zs end → Ends zs ys p
  first-room w = record { short = omega (arith, h.short, length-append ys us, w.ends); within = omega (arith, w.within, w.same, w.ends) }

module _ (one other after end : ℕ) (xs : List ℕ) (h : Ends xs (pair one other after) end) where
  pub pair-second : Ends xs (field other after) end
  unfolding pair
  pair-second = second-room (field one 32) (field other after) h

  module _ {p : ℕ} {ys : List ℕ} (w : Put xs p (field other after) ys end) where
    pub pair-first : Ends ys (field one 32) p
    unfolding pair
    pair-first = first-room (field one 32) (field other after) h w

    pub pair_put : {r : ℕ} {zs : List ℕ} → Put ys r (field one 32) zs p → Put xs r (pair one other after) zs end
    unfolding pair
    pair_put v = put_before w v

pub ruleset pairing = (rules, pair-second, pair-first, pair_put)

-- a field in a room of its own
pub own_room : (n after : ℕ) (xs : List ℕ) → Fits w64 n → length xs ≡ 28 → Ends xs (field n after) 28
own_room n after xs f e = record { short = omega (arith, length-field n after, twenty_digits n f); within = omega arith }

-- what stands up to the end of a room, and is copied
module _ {room ys line : List ℕ} {from end : ℕ} (w : Put room from ys line end) where
  own-end : take (end - from) (drop from line) ≡ ys
  own-end = rw w.is (take_at ys (drop end room) (end - from) (omega (arith, w.ends)))

  own-written : {xs zs : List ℕ} {at : ℕ} → Written xs at (take (end - from) (drop from line)) zs → Written xs at ys zs
  own-written v = rw own-end at v

  pub own-placed : {xs zs : List ℕ} {at : ℕ} → Written xs at (take (end - from) (drop from line)) zs → Placed xs at ys zs (at + (end - from))
  own-placed v = record { written = own-written v; ends = omega (arith, w.ends) }

pub own-fits : {room line : List ℕ} {from : ℕ} (xs : List ℕ) (at n after : ℕ) → Put room from (field n after) line 28 → at + (length (decimal n) + 1) ≤ length xs
    → at + length (take (28 - from) (drop from line)) ≤ length xs
own-fits xs at n after w h = rw (own-end w) (omega (arith, length-field n after))

pub ruleset own = (rules, own-fits, own-placed)

-- what is written to the front, and as long as it says
pub fronted : {xs ys zs : List ℕ} {r : ℕ} → Written xs 0 ys zs → r ≡ length ys → Fronted xs ys zs r
fronted {zs = zs} {r = r} w c =
    let l : r ≤ length zs = omega (arith, w.fits, length-written w) in
    record { written = w; count = c; within = l; part = counted r zs l }

pub front-is : {xs ys zs : List ℕ} {n : ℕ} → Written xs 0 ys zs → n ≡ length ys → take n zs ≡ ys
unfolding splice
front-is {xs} {ys} {zs} {n} w e = rw w.is (take_at ys (drop (0 + length ys) xs) n (sym e))

-- a number alone with the byte behind it
pub alone_room : (n : ℕ) (xs : List ℕ) → Fits w64 n → length xs ≡ 21 → 0 + (length (decimal n) + 1) ≤ length xs
alone_room n xs p e = omega (arith, twenty_digits n p)

pub alone_put : (n after : ℕ) {xs ys : List ℕ} {r : ℕ} → Placed xs 0 (field n after) ys r → Fronted xs (field n after) ys r
alone_put n after g = fronted g.written (omega (arith, g.ends))

pub ruleset alone = (rules, alone_room, alone_put)
