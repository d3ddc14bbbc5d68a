-- Decimal numbers as they are put, eight digits at a time from the last to the first. Assumes nothing.
use mathlib.Core.List.{List, [], ◌∷◌, ◌++◌, append_assoc}
use mathlib.Core.Path.{◌≡◌, refl, sym, ap, ◌∙◌}
use Prim.Native.Nat.{ℕ, zero, suc, ◌+◌, ◌-◌, ◌/◌, ◌%◌, ◌≤◌, ◌<◌}
use native.Mathlib.Decide.{dec_lt}
use native.Mathlib.Omega.{arith}
use lib.ListN.{length, take, drop, set, length-append}
use lib.Seq.{drop_at, drop-drop, length-take-le}
use Rattle.basis.specs.Bytes.{Bytes, bytes_of, number_of, splice, Written}
use Rattle.basis.proofs.Bytes.{length-written, written_one, append_bytes, bytes_of-number_of}
use Rattle.meaning.specs.Text.{digit, decimal}
use Rattle.meaning.proofs.Decimals.{decimal-one, decimal_more}
use Rattle.decimal_write.specs.Digits.{Counted, Ends, Put}
use Rattle.decimal_write.specs.Words.{two_digits, four_digits, eight_digits}
use Rattle.decimal_write.proofs.Counts.{some-digit}

-- two, four and eight digits behind those of the number without them
two_more : (n : ℕ) → 100 ≤ n → decimal n ≡ decimal (n / 100) ++ two_digits (n % 100)
two_more n l =
    let a : n / 10 / 10 ≡ n / 100 = omega arith in
    let b : n / 10 % 10 ≡ n % 100 / 10 = omega arith in
    let c : n % 10 ≡ n % 100 % 10 = omega arith in
    decimal_more n (omega arith) ∙ rw (decimal_more (n / 10) (omega arith), a, b, c) (append_assoc (decimal (n / 100)) (digit (n % 100 / 10) ∷ []) (digit (n % 100 % 10) ∷ []))

four_more : (n : ℕ) → 10000 ≤ n → decimal n ≡ decimal (n / 10000) ++ four_digits (n % 10000)
four_more n l =
    let a : n / 100 / 100 ≡ n / 10000 = omega arith in
    let b : n / 100 % 100 ≡ n % 10000 / 100 = omega arith in
    let c : n % 100 ≡ n % 10000 % 100 = omega arith in
    two_more n (omega arith)
    ∙ rw (two_more (n / 100) (omega arith), a, b, c) (append_assoc (decimal (n / 10000)) (two_digits (n % 10000 / 100)) (two_digits (n % 10000 % 100)))

eight_more : (n : ℕ) → 100000000 ≤ n → decimal n ≡ decimal (n / 100000000) ++ eight_digits (n % 100000000)
unfolding eight_digits
eight_more n l =
    let a : n / 10000 / 10000 ≡ n / 100000000 = omega arith in
    let b : n / 10000 % 10000 ≡ n % 100000000 / 10000 = omega arith in
    let c : n % 10000 ≡ n % 100000000 % 10000 = omega arith in
    four_more n (omega arith)
    ∙ rw (four_more (n / 10000) (omega arith), a, b, c) (append_assoc (decimal (n / 100000000)) (four_digits (n % 100000000 / 10000)) (four_digits (n % 100000000 % 10000)))

-- ys ends with the digits of n
record Tail (ys : List ℕ) (n : ℕ) : Type 0 where
  pub zeros : List ℕ
  pub is : ys ≡ zeros ++ decimal n

tail_low : {ys : List ℕ} {n : ℕ} (xs : List ℕ) → Tail ys n → Tail (xs ++ ys) n
tail_low {n = n} xs t = record { zeros = xs ++ t.zeros; is = rw t.is (sym (append_assoc xs t.zeros (decimal n))) }

tail_high : {xs : List ℕ} {m n : ℕ} (ys : List ℕ) → Tail xs m → decimal n ≡ decimal m ++ ys → Tail (xs ++ ys) n
tail_high {m = m} ys t e = record { zeros = t.zeros; is = rw (t.is, e) (append_assoc t.zeros (decimal m) ys) }

tail_two : (n : ℕ) → n < 100 → Tail (two_digits n) n
tail_two n l = by (dec_lt n 10)
  where
    by : Dec (n < 10) → Tail (two_digits n) n
    by (yes s) = let e : n % 10 ≡ n = omega arith in record { zeros = digit (n / 10) ∷ []; is = rw (e, decimal-one n s) }
    by (no s) = record { zeros = []; is = rw (decimal_more n (omega arith), decimal-one (n / 10) (omega arith)) }

tail_four : (n : ℕ) → n < 10000 → Tail (four_digits n) n
tail_four n l = by (dec_lt n 100)
  where
    by : Dec (n < 100) → Tail (four_digits n) n
    by (yes s) = let e : n % 100 ≡ n = omega arith in rw e (tail_low (two_digits (n / 100)) (tail_two n s))
    by (no s) = tail_high (two_digits (n % 100)) (tail_two (n / 100) (omega arith)) (two_more n (omega arith))

tail_eight : (n : ℕ) → n < 100000000 → Tail (eight_digits n) n
unfolding eight_digits
tail_eight n l = by (dec_lt n 10000)
  where
    by : Dec (n < 10000) → Tail (four_digits (n / 10000) ++ four_digits (n % 10000)) n
    by (yes s) = let e : n % 10000 ≡ n = omega arith in rw e (tail_low (four_digits (n / 10000)) (tail_four n s))
    by (no s) = tail_high (four_digits (n % 10000)) (tail_four (n / 10000) (omega arith)) (four_more n (omega arith))

-- what is written is put
pub put_written : {xs ys zs : List ℕ} {at end : ℕ} → Written xs at ys zs → end ≡ at + length ys → Put xs at ys zs end
unfolding splice
put_written {xs} {ys} {zs} {at} {end} w e =
    let h : length (take at xs) ≡ at = length-take-le at xs (omega (arith, w.fits)) in
    record {
      within = omega (arith, w.fits);
      same = length-written w;
      ends = e;
      is = rw (w.is, e, append_assoc) (drop_at (take at xs) (ys ++ drop (at + length ys) xs) at h);
    }

pub put_none : (xs : List ℕ) (end : ℕ) → end ≤ length xs → Put xs end [] xs end
put_none xs end h = record { within = h; same = refl; ends = omega arith; is = refl }

-- what is put before something that was put already makes one with it
pub put_before : {xs ys zs us vs : List ℕ} {at n end : ℕ} → Put xs n us zs end → Put zs at ys vs n → Put xs at (ys ++ us) vs end
put_before {xs} {ys} {zs} {us} {end = end} w v =
    record {
      within = w.within;
      same = v.same ∙ w.same;
      ends = rw length-append (omega (arith, w.ends, v.ends));
      is = v.is ∙ ap (λ (bs : List ℕ). ys ++ bs) w.is ∙ sym (append_assoc ys us (drop end xs));
    }

-- the end of what is put is put, from where it begins
put_tail : {xs zs : List ℕ} {at end r : ℕ} (before ys : List ℕ) → Put xs at (before ++ ys) zs end → end ≡ r + length ys → Put xs r ys zs end
put_tail {xs} {zs} {at} {end} {r} before ys w e =
    let q : at + length before ≡ r = omega (arith, w.ends, length-append before ys) in
    let d : drop (length before) (drop at zs) ≡ ys ++ drop end xs = rw (w.is, append_assoc) (drop_at before (ys ++ drop end xs) (length before) refl) in
    record { within = w.within; same = w.same; ends = e; is = rw (← q, ← drop-drop (length before) at zs) d }

two_bytes : (n : ℕ) → n < 100 → Bytes (two_digits n)
two_bytes n l zero = omega arith
two_bytes n l (suc zero) = omega arith
two_bytes n l (suc (suc i)) = omega arith

four_bytes : (n : ℕ) → n < 10000 → Bytes (four_digits n)
four_bytes n l = append_bytes (two_digits (n / 100)) (two_digits (n % 100)) (two_bytes (n / 100) (omega arith)) (two_bytes (n % 100) (omega arith))

eight_bytes : (n : ℕ) → n < 100000000 → Bytes (eight_digits n)
unfolding eight_digits
eight_bytes n l = append_bytes (four_digits (n / 10000)) (four_digits (n % 10000)) (four_bytes (n / 10000) (omega arith)) (four_bytes (n % 10000) (omega arith))

-- eight digits that are written as a number are put
eight_put : {b c : List ℕ} {p v n : ℕ} → 8 ≤ p → n < 100000000 → Written b (p - 8) (bytes_of 8 v) c → v ≡ number_of (eight_digits n) → Put b (p - 8) (eight_digits n) c p
unfolding eight_digits
eight_put {v = v} {n = n} l h w e =
    let d : bytes_of 8 v ≡ eight_digits n = rw e (bytes_of-number_of (eight_digits n) (eight_bytes n h)) in
    put_written (rw d at w) (omega arith)

-- a digit alone
module _ (b : List ℕ) (end n : ℕ) (h : Ends b (decimal n) end) where
  pub digit-some : 0 < end
  digit-some = omega (arith, h.short)

  pub digit_at : end - 1 < length b
  digit_at = omega (arith, h.short, h.within)

  pub digit_put : n < 10 → Put b (end - 1) (decimal n) (set b (end - 1) (48 + n)) end
  digit_put l = rw (decimal-one n l) (put_written (written_one b (end - 1) (digit n) digit_at) (omega (arith, digit-some)))

-- the digits behind those of rest are put from p on
pub record Spelling (b₀ : List ℕ) (end n : ℕ) (b : List ℕ) (p rest : ℕ) : Type 0 where
  pub room : 7 + length (decimal n) ≤ end
  pub done : List ℕ
  pub put : Put b₀ p done b end
  pub whole : decimal rest ++ done ≡ decimal n

module _ {b₀ : List ℕ} {end n : ℕ} {b : List ℕ} {p rest : ℕ} (s : Spelling b₀ end n b p rest) where
  pub spelling_some : 8 ≤ p
  spelling_some = omega (arith, s.room, s.put.ends, ap length s.whole, length-append (decimal rest) s.done, some-digit rest)

  pub spelling_at : p - 8 + 8 ≤ length b
  spelling_at = omega (arith, spelling_some, s.put.same, s.put.within, s.put.ends)

  module _ (v : ℕ) {c : List ℕ} (w : Written b (p - 8) (bytes_of 8 v) c) where
    pub spelling_more : 100000000 ≤ rest → v ≡ number_of (eight_digits (rest % 100000000)) → Spelling b₀ end n c (p - 8) (rest / 100000000)
    spelling_more h e =
        record {
          room = s.room;
          done = eight_digits (rest % 100000000) ++ s.done;
          put = put_before s.put (eight_put spelling_some (omega arith) w e);
          whole =
              sym (append_assoc (decimal (rest / 100000000)) (eight_digits (rest % 100000000)) s.done)
              ∙ ap (λ (ds : List ℕ). ds ++ s.done) (sym (eight_more rest h)) ∙ s.whole;
        }

    pub spelling_all : {k : ℕ} → rest < 100000000 → v ≡ number_of (eight_digits rest) → Counted n k → Put b₀ (end - k) (decimal n) c end
    spelling_all {k} h e d =
        let t = tail_eight rest h in
        let a : eight_digits rest ++ s.done ≡ t.zeros ++ decimal n =
        rw t.is (append_assoc t.zeros (decimal rest) s.done) ∙ ap (λ (ds : List ℕ). t.zeros ++ ds) s.whole in
        put_tail t.zeros (decimal n) (rw a at (put_before s.put (eight_put spelling_some h w e))) (omega (arith, d.count, s.room))
