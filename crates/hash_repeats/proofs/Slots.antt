-- Linear probing: a number stays where its probes come past, so one that finds a free slot is new. Assumes nothing.
use mathlib.Core.Bool.{Bool, true, false}
use mathlib.Core.List.{List}
use mathlib.Core.Logic.{◌≢◌}
use mathlib.Core.Path.{◌≡◌, refl, sym, ap, ◌∙◌}
use Prim.Native.Nat.{ℕ, ◌+◌, ◌*◌, ◌/◌, ◌%◌, ◌≤◌, ◌<◌}
use native.Mathlib.Decide.{dec_lt}
use native.Mathlib.Omega.{arith}
use borrow.Author.Tests.{eqb-true, eqb-false}
use lib.Dec.{eqb}
use lib.ListN.{length, get_or, set, length-set, replicate, length-replicate}
use lib.Seq.{take-length, get_or-set_same, get_or-set_other}
use Rattle.basis.proofs.Counting.{zeros-front}
use Rattle.hash_repeats.specs.Repeats.{Nonzero, probes, slot_count, home_of, Home, Empty, Probed, Taken, Met}

-- x stands in its home slot or behind it, with no free slot between
pub record Stands (slots : List ℕ) (x : ℕ) : Type 0 where
  pub some : x ≢ 0
  pub slot : ℕ
  pub low : home_of x ≤ slot
  pub is : get_or slots slot 0 ≡ x
  pub taken : (q : ℕ) → home_of x ≤ q → q < slot → get_or slots q 0 ≢ 0

-- a number that comes to a free slot stands nowhere
probed_new : {t : List ℕ} {x at : ℕ} → Probed t x at → get_or t at 0 ≡ 0 → Stands t x → ⊥
probed_new {t} {x} {at} p free s = by (dec_lt s.slot at) (dec_lt at s.slot)
  where
    by : Dec (s.slot < at) → Dec (at < s.slot) → ⊥
    by (yes l) m = p.other s.slot s.low l s.is
    by (no l) (yes m) = s.taken at p.low m free
    by (no l) (no m) = let e : s.slot ≡ at = omega arith in s.some (sym s.is ∙ rw e free)

module _ (t : List ℕ) (at x : ℕ) (free : get_or t at 0 ≡ 0) where
  -- a slot that is taken is left as it is
  left : (q : ℕ) → get_or t q 0 ≢ 0 → get_or (set t at x) q 0 ≡ get_or t q 0
  left q h = get_or-set_other t at q x 0 (λ e. h (rw e free))

  still : (q : ℕ) → get_or t q 0 ≢ 0 → get_or (set t at x) q 0 ≢ 0
  still q h e = h (sym (left q h) ∙ e)

  stays : {y : ℕ} → Stands t y → Stands (set t at x) y
  stays s =
      record {
        some = s.some;
        slot = s.slot;
        low = s.low;
        is = left s.slot (λ e. s.some (sym s.is ∙ e)) ∙ s.is;
        taken = λ q l m. still q (s.taken q l m);
      }

  comes : x ≢ 0 → Probed t x at → Stands (set t at x) x
  comes some p =
      record {
        some = some;
        slot = at;
        low = p.low;
        is = get_or-set_same t at x 0 p.room;
        taken = λ q l m. still q (p.taken q l m);
      }

pub home_is : (x : ℕ) → Home x (x * 2654435769 % 4294967296 / 4194304)
unfolding home_of
home_is x = record { is = refl; low = omega arith }

-- the slots of a number probed, up to `at`
pub record Probing (t : List ℕ) (x home at : ℕ) : Type 0 where
  pub first : Home x home
  pub all : length t ≡ slot_count
  pub high : at ≤ home + probes
  pub probed : Probed t x at

-- what is so of each slot probed and of the next
further : (P : ℕ → Type 0) {from at : ℕ} → ((q : ℕ) → from ≤ q → q < at → P q) → P at → (q : ℕ) → from ≤ q → q < at + 1 → P q
further P {from} {at} h k q l m = by (dec_lt q at)
  where
    by : Dec (q < at) → P q
    by (yes n) = h q l n
    by (no n) = let e : q ≡ at = omega arith in rw e k

-- no number stands at two indices
pub record Differing (ns : List ℕ) : Type 0 where
  pub differ : (j k : ℕ) → j < k → k < length ns → get_or ns j 0 ≢ get_or ns k 0

-- the number at an index stands at an earlier one too
pub record Repeating (ns : List ℕ) : Type 0 where
  pub early : ℕ
  pub late : ℕ
  pub before : early < late
  pub within : late < length ns
  pub same : get_or ns early 0 ≡ get_or ns late 0

-- the numbers before i stand in the table, none twice, and no other does
pub record InTable (ns t : List ℕ) (i : ℕ) : Type 0 where
  pub nonzero : Nonzero ns
  pub high : i ≤ length ns
  pub all : length t ≡ slot_count
  pub once : (j k : ℕ) → j < k → k < i → get_or ns j 0 ≢ get_or ns k 0
  pub each : (j : ℕ) → j < i → Stands t (get_or ns j 0)
  pub only : (p : ℕ) → get_or t p 0 ≢ 0 → (j : ℕ) × (j < i) × (get_or ns j 0 ≡ get_or t p 0)

pub insert-none : {ns t : List ℕ} → Nonzero ns → Empty t → InTable ns t 0
insert-none n e =
    record {
      nonzero = n;
      high = omega arith;
      all = e.all;
      once = λ j k l m. absurd (omega arith);
      each = λ j l. absurd (omega arith);
      only = λ p h. absurd (h (e.free p));
    }

module _ {ns t : List ℕ} {i : ℕ} (k : InTable ns t i) where
  -- what stands once the next number has taken a slot is that number, or stood before
  only_more : (at : ℕ) → at < length t → (p : ℕ) → get_or (set t at (get_or ns i 0)) p 0 ≢ 0
      → (j : ℕ) × (j < i + 1) × (get_or ns j 0 ≡ get_or (set t at (get_or ns i 0)) p 0)
  only_more at room p h = by (eqb p at) refl
    where
      by : (b : Bool) → eqb p at ≡ b → (j : ℕ) × (j < i + 1) × (get_or ns j 0 ≡ get_or (set t at (get_or ns i 0)) p 0)
      by true f = let e : p ≡ at = eqb-true p at f in (i, omega arith, rw e (sym (get_or-set_same t at (get_or ns i 0) 0 room)))
      by false f =
          let e = get_or-set_other t at p (get_or ns i 0) 0 (eqb-false p at f) in
          let r = k.only p (λ g. h (e ∙ g)) in
          (r.0, omega (arith, r.1), r.2 ∙ sym e)

  pub insert_more : {x : ℕ} {u : List ℕ} → i < length ns → x ≡ get_or ns i 0 → Taken t x u → InTable ns u (i + 1)
  insert_more l e q = rw (q.is, e) (more q.slot (rw e at q.probed) q.free)
    where
      more : (at : ℕ) → Probed t (get_or ns i 0) at → get_or t at 0 ≡ 0 → InTable ns (set t at (get_or ns i 0)) (i + 1)
      more at p free =
          let x = get_or ns i 0 in
          let last : Stands (set t at x) x = comes t at x free (k.nonzero.some i l) p in
          let new : (j : ℕ) → j < i → get_or ns j 0 ≢ x = λ j m f. probed_new p free (rw f at (k.each j m)) in
          record {
            nonzero = k.nonzero;
            high = omega arith;
            all = length-set t at x ∙ k.all;
            once = λ j m a b. further (λ q. get_or ns j 0 ≢ get_or ns q 0) {from = j + 1} (λ q d. k.once j q (omega arith)) (new j (omega arith)) m (omega arith) b;
            each = λ j. further (λ q. Stands (set t at x) (get_or ns q 0)) {from = 0} (λ q _ m. stays t at x free (k.each q m)) last j (omega arith);
            only = only_more at p.room;
          }

  pub insert_all : length ns ≤ i → Differing ns
  insert_all l = record { differ = λ j m a b. k.once j m a (omega arith) }

  -- a number that is met stood earlier
  pub insert_met : {x : ℕ} → i < length ns → x ≡ get_or ns i 0 → Met t x → Repeating ns
  insert_met l e m =
      let s = k.only m.slot m.taken in
      record { early = s.0; late = i; before = s.1; within = l; same = s.2 ∙ m.is ∙ e }

pub all-free : Empty (replicate slot_count 0)
all-free = record { all = length-replicate {A = ℕ} slot_count 0; free = λ p. ap (λ (l : List ℕ). get_or l p 0) (sym (take-length (replicate slot_count 0))) ∙ zeros-front slot_count (length {A = ℕ} (replicate slot_count 0)) p }
