-- A number's bytes as the library has them, eight together. Assumes nothing.
use mathlib.Core.Path.{◌≡◌, refl, ap, ◌∙◌}
use mathlib.Core.List.{List, [], ◌∷◌, ◌++◌}
use Prim.Native.Nat.{ℕ, zero, suc, ◌+◌, ◌*◌, ◌-◌, ◌/◌, ◌^◌, ◌≤◌, ◌<◌}
use native.Mathlib.Omega.{arith}
use mir.Syntax.{w8, w64}
use mir.Val.{Fits}
use borrow.Rule.Slice.PartMut.{put_mid}
use lib.ListN.{length, take, drop, get_or, replicate, length-append, length-drop, length-replicate}
use lib.Seq.{drop-cons, take_all, length-take-le}
use Rattle.std.specs.Int.{to_le_bytes, from_le_bytes}
use Rattle.std.proofs.lemmas.List.{drop-replicate}
use Rattle.basis.specs.Bytes.{bytes_of, number_of, number_at, Written}
use Rattle.basis.proofs.Bytes.{length-bytes_of, number_of-fits}
use Rattle.basis.proofs.Rows.{bytes_drop, bytes_take}
use Rattle.fields.specs.Fields.{Field}
use Rattle.fields.proofs.Laws.{written_part}

one_more : (k i : ℕ) (bs : List ℕ) → i < length bs → number_at (suc k) bs i ≡ get_or bs i 0 + 256 * number_at k bs (suc i)
unfolding number_at number_of
one_more k i bs h = rw (drop-cons bs i 0)

none : (bs : List ℕ) (i : ℕ) → number_at 0 bs i ≡ 0
unfolding number_at number_of
none bs i = refl

pub word_number : (bs : List ℕ) → length bs ≡ 8 → from_le_bytes w64 bs ≡ number_at 8 bs 0
word_number bs h =
    omega (arith, one_more 7 0 bs (omega arith), one_more 6 1 bs (omega arith), one_more 5 2 bs (omega arith), one_more 4 3 bs (omega arith), one_more 3 4 bs (omega arith), one_more 2 5 bs (omega arith), one_more 1 6 bs (omega arith), one_more 0 7 bs (omega arith), none bs 8)

number_whole : (bs : List ℕ) (k : ℕ) → length bs ≤ k → number_at k bs 0 ≡ number_of bs
unfolding number_at
number_whole bs k h = rw take_all

-- zeros behind are worth nothing
padded : (bs : List ℕ) (k : ℕ) → number_of (bs ++ replicate k 0) ≡ number_of bs
unfolding number_of
padded [] zero = refl
padded [] (suc k) = omega (arith, padded [] k)
padded (b ∷ bs) k = rw (padded bs k)

pub word_bytes : (v : ℕ) → to_le_bytes w64 v ≡ bytes_of 8 v
unfolding bytes_of
word_bytes v =
    let a : v / 256 / 256 ≡ v / 65536 = omega arith in
    let b : v / 65536 / 256 ≡ v / 16777216 = omega arith in
    let c : v / 16777216 / 256 ≡ v / 4294967296 = omega arith in
    let d : v / 4294967296 / 256 ≡ v / 1099511627776 = omega arith in
    let e : v / 1099511627776 / 256 ≡ v / 281474976710656 = omega arith in
    let f : v / 281474976710656 / 256 ≡ v / 72057594037927936 = omega arith in
    rw (a, b, c, d, e, f)

pub bytes_first : (j k v : ℕ) → j ≤ k → take j (bytes_of k v) ≡ bytes_of j v
unfolding bytes_of
bytes_first zero k v h = refl
bytes_first (suc j) zero v h = absurd (omega arith)
bytes_first (suc j) (suc k) v h = rw (bytes_first j k (v / 256) (omega arith))

-- k bytes of a list, with zeros behind them up to eight, are their own number
pub word_field : {n : ℕ} {bs part : List ℕ} (at k p : ℕ) → p ≡ k → k ≤ 8 → at + k ≤ length bs → ((i : ℕ) → Fits w8 (get_or bs i 0)) → part ≡ take p (drop at bs)
    → n ≡ from_le_bytes w64 (part ++ drop k (replicate 8 0)) → Field k bs at n
unfolding number_at
word_field {n} {bs} {part} at k p e h l b t is =
    let xs : List ℕ = take k (drop at bs) in
    let f : part ≡ xs = rw (t, e) in
    let m : length xs ≡ k = length-take-le k (drop at bs) (rw length-drop (omega arith)) in
    let w : List ℕ = xs ++ replicate (8 - k) 0 in
    let q : length w ≡ 8 = rw (length-append, m, length-replicate) (omega arith) in
    let same : number_at 8 w 0 ≡ number_of xs = number_whole w 8 (omega arith) ∙ padded xs (8 - k) in
    let whole : n ≡ number_of xs = rw (f, drop-replicate) at is ∙ word_number w q ∙ same in
    let small : number_of xs < 256 ^ length xs = number_of-fits xs (bytes_take k (drop at bs) (bytes_drop at bs (λ i. (b i).fits))) in
    record { is = whole; small = omega (arith, whole, rw m at small) }

-- the first k of a number's eight bytes are its k lowest
pub word_written : {bs part word : List ℕ} (v at k p : ℕ) → p ≡ k → k ≤ 8 → at + k ≤ length bs → word ≡ to_le_bytes w64 v → part ≡ take k word
    → Written bs at (bytes_of k v) (put_mid at p bs part)
word_written v at k p e h l w t =
    written_part at p (rw length-bytes_of e) (omega arith) (rw (t, w, word_bytes v) (bytes_first k 8 v h))

-- zeros are the number zero
pub zeros_bytes : (k : ℕ) → replicate k 0 ≡ bytes_of k 0
unfolding bytes_of
zeros_bytes zero = refl
zeros_bytes (suc k) = ap (λ (bs : List ℕ). 0 ∷ bs) (zeros_bytes k)
