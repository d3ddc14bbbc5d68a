-- A field behind a place, lists written over part by part, and a tag compared. Assumes nothing.
use mathlib.Core.Bool.{Bool, true, false}
use mathlib.Core.Path.{◌≡◌, refl, sym, ap, ◌∙◌}
use mathlib.Core.List.{List, [], ◌∷◌, ◌++◌, append_assoc}
use Prim.Native.Nat.{ℕ, ◌+◌, ◌*◌, ◌^◌, ◌≤◌, ◌<◌}
use native.Mathlib.Nat.{add_assoc, add-zero, mul-le-mul_left}
use native.Mathlib.Numerals.{add-one}
use native.Mathlib.Omega.{arith}
use borrow.Author.Rules.{rules}
use borrow.Author.Tests.{eq-eqb, ne_eqb, eqb-true, eqb-false}
use borrow.Rule.Slice.PartMut.{put_mid}
use Rattle.std.specs.Cmp.Lexicographic.{pointwise}
use lib.Dec.{eqb}
use lib.Pow.{pow-add}
use lib.ListN.{length, take, drop, get_or, set, length-append, length-set, drop_of_length-le}
use lib.Seq.{drop-cons, drop-drop}
use Rattle.basis.specs.Bytes.{splice, starts_with, Written}
use Rattle.basis.proofs.Rows.{number_at-drop}
use Rattle.basis.proofs.Bytes.{number_at-parts, splice-none, splice-splice, length-written, written_one}
use Rattle.fields.specs.Fields.{Field}

-- a field behind a place is one of what stands from there on
pub field_behind : {k n : ℕ} {bs : List ℕ} (p at : ℕ) → Field k bs (p + at) n → Field k (drop p bs) at n
field_behind {k} {bs = bs} p at f = record { is = f.is ∙ sym (number_at-drop k bs p at); small = f.small }

-- fields behind one another are one
pub field_both : (j k : ℕ) {m n at : ℕ} {bs : List ℕ} → Field j bs at m → Field k bs (at + j) n → Field (j + k) bs at (m + 256 ^ j * n)
field_both j k {m} {n} {at} {bs} f g =
    record {
      is = rw (f.is, g.is) (sym (number_at-parts j k bs at));
      small = rw (pow-add 256 j k) (omega (arith, f.small, mul-le-mul_left (256 ^ j) g.small));
    }

-- ys is being written over bs₀ at a place: bs is what stands so far, and the rest, written at p, makes the whole
pub record Writing (bs₀ : List ℕ) (at : ℕ) (ys bs : List ℕ) (p : ℕ) (rest : List ℕ) : Type 0 where
  pub fits : at + length ys ≤ length bs₀
  pub kept : length bs ≡ length bs₀
  pub end : p + length rest ≡ at + length ys
  pub whole : splice bs p rest ≡ splice bs₀ at ys

splice_cons : (bs : List ℕ) (at b : ℕ) (rest : List ℕ) → at < length bs → splice (set bs at b) (at + 1) rest ≡ splice bs at (b ∷ rest)
splice_cons bs at b rest h = ap (λ (l : List ℕ). splice l (at + 1) rest) (written_one bs at b h).is ∙ splice-splice bs at (b ∷ []) rest (omega arith)

pub writing_none : (bs : List ℕ) (at : ℕ) (ys : List ℕ) → at + length ys ≤ length bs → Writing bs at ys bs at ys
writing_none bs at ys h = record { fits = h; kept = refl; end = refl; whole = refl }

writing_more : {bs₀ : List ℕ} {at : ℕ} {ys bs : List ℕ} {p b : ℕ} {rest : List ℕ} → Writing bs₀ at ys bs p (b ∷ rest)
    → Writing bs₀ at ys (set bs p b) (p + 1) rest
writing_more {bs = bs} {p = p} {b = b} {rest = rest} w =
    record {
      fits = w.fits;
      kept = length-set bs p b ∙ w.kept;
      end = omega (arith, w.end);
      whole = splice_cons bs p b rest (omega (arith, w.fits, w.kept, w.end)) ∙ w.whole;
    }

-- what is left begins with what is written next
pub writing_then : {bs₀ : List ℕ} {at : ℕ} {ys bs : List ℕ} {p : ℕ} {zs rest cs : List ℕ} → Writing bs₀ at ys bs p (zs ++ rest) → Written bs p zs cs
    → Writing bs₀ at ys cs (p + length zs) rest
writing_then {bs = bs} {p = p} {zs = zs} {rest = rest} w v =
    let l : length (zs ++ rest) ≡ length zs + length rest = length-append zs rest in
    let q : p ≤ length bs = omega (arith, v.fits) in
    record {
      fits = w.fits;
      kept = length-written v ∙ w.kept;
      end = omega (arith, w.end);
      whole = rw (v.is, splice-splice bs p zs rest q) w.whole;
    }

-- and where nothing is left, the whole is written
pub writing_all : {bs₀ : List ℕ} {at : ℕ} {ys bs : List ℕ} {p : ℕ} → Writing bs₀ at ys bs p [] → Written bs₀ at ys bs
writing_all {bs = bs} {p = p} w = record { fits = w.fits; is = sym (splice-none bs p) ∙ w.whole }

-- i of the bytes ys are copied
pub record Copied (bs₀ : List ℕ) (at : ℕ) (ys bs : List ℕ) (i : ℕ) : Type 0 where
  pub low : i ≤ length ys
  pub left : Writing bs₀ at ys bs (at + i) (drop i ys)

pub copied_none : (bs : List ℕ) (at : ℕ) (ys : List ℕ) → at + length ys ≤ length bs → Copied bs at ys bs 0
copied_none bs at ys h = record { low = omega arith; left = rw add-zero (writing_none bs at ys h) }

pub copied_more : {bs₀ : List ℕ} {at : ℕ} {ys bs : List ℕ} {i : ℕ} → Copied bs₀ at ys bs i → i < length ys
    → Copied bs₀ at ys (set bs (at + i) (get_or ys i 0)) (i + 1)
copied_more {ys = ys} {i = i} c h =
    let e : drop i ys ≡ get_or ys i 0 ∷ drop (i + 1) ys = rw (drop-cons ys i 0, add-one) in
    record { low = omega arith; left = rw add_assoc at (writing_more (rw e at c.left)) }

pub copied_all : {bs₀ : List ℕ} {at : ℕ} {ys bs : List ℕ} {i : ℕ} → Copied bs₀ at ys bs i → length ys ≤ i → Written bs₀ at ys bs
copied_all {ys = ys} c h = writing_all (rw (drop_of_length-le ys h) at c.left)

pub ruleset copying = (rules, copied_none, copied_more, copied_all)

-- a part of a list that is copied over is written
pub written_part : {xs ys part : List ℕ} (at k : ℕ) → k ≡ length ys → at + k ≤ length xs → part ≡ ys → Written xs at ys (put_mid at k xs part)
unfolding splice
written_part {xs} {ys} at k e h same = record { fits = omega arith; is = rw (same, e, drop-drop, append_assoc) }

-- the library compares a tag with the front of bytes
eqb_comm : (m n : ℕ) → eqb m n ≡ eqb n m
eqb_comm m n = by (eqb m n) refl
  where
    by : (b : Bool) → eqb m n ≡ b → b ≡ eqb n m
    by true e = sym (eq-eqb n m (sym (eqb-true m n e)))
    by false e = sym (ne_eqb n m (λ same. eqb-false m n e (sym same)))

pub begun : (tag bs : List ℕ) → length tag ≤ length bs → pointwise eqb tag (take (length tag) bs) ≡ starts_with tag bs
unfolding starts_with
begun [] bs h = refl
begun (t ∷ tag) [] h = absurd (omega arith)
begun (t ∷ tag) (b ∷ bs) h = rw (eqb_comm t b, begun tag bs (omega arith))
