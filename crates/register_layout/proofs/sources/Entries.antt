-- An entry of the register: its fields, where it has to begin, and what makes it wrong. Assumes nothing.
use mathlib.Core.Bool.{Bool, true, false, not, ◌||◌}
use mathlib.Core.List.{List}
use mathlib.Core.Path.{◌≡◌, refl, sym, ap, ◌∙◌}
use Prim.Native.Nat.{ℕ, ◌+◌, ◌-◌, ◌≤◌, ◌<◌}
use native.Mathlib.Numerals.{add-one}
use native.Mathlib.Omega.{arith}
use lib.Dec.{eqb, ltb}
use lib.ListN.{length, get_or, take, drop, length-map, length-drop, drop_of_length-le, take-append-drop}
use lib.Seq.{drop-cons, drop-drop, take_all, length-take-le}
use Rattle.basis.specs.Lists.{any}
use Rattle.basis.specs.Answers.{Shows}
use Rattle.basis.proofs.Bools.{or_assoc, or_none}
use Rattle.basis.proofs.Counting.{any_append}
use Rattle.basis.proofs.Lists.{length-count_up}
use Rattle.fields.specs.Fields.{Field}
use Rattle.meaning.specs.Methods.{listed, within}
use Rattle.meaning.specs.Register.{source_count, line_count, name_bytes, names_at, source_entry, name_length_in, name_offset_in, name_place, source_at, line_start, name_start, misplaced, bad_name_byte, unsound, wrong_source}
use Rattle.meaning.proofs.Sources.{placed}
use Rattle.register_header.specs.Header.{HasEntry}
use Rattle.register_layout.specs.Layout.{HasName, StartsAt, all_names}

-- what the fields of entry i say of its lines and its name
module _ (b : List ℕ) (i : ℕ) where
  pub line-end : {first count : ℕ} → Field 2 (source_entry b i) 8 first → Field 2 (source_entry b i) 6 count → first + count ≡ line_start b (i + 1)
  unfolding line_start
  line-end f c = rw (add-one i, f.is, c.is)

  pub name-end : {offset count : ℕ} → Field 4 (source_entry b i) 12 offset → Field 2 (source_entry b i) 10 count → offset + count ≡ name_start b (i + 1)
  unfolding name_start
  name-end f c = rw (add-one i, f.is, c.is)

  pub misplaced-is : {m t first offset line byte lines bytes : ℕ} → StartsAt b i line byte → m ≡ line_count b → t ≡ name_bytes b
      → Field 2 (source_entry b i) 8 first → Field 4 (source_entry b i) 12 offset → lines ≡ line_start b (i + 1) → bytes ≡ name_start b (i + 1)
      → (not (eqb first line) || not (eqb offset byte) || ltb m lines || ltb t bytes) ≡ misplaced b i
  unfolding misplaced line_start name_start
  misplaced-is g m t f o l n =
      let l' = rw (add-one i) at l in
      let n' = rw (add-one i) at n in
      rw (g.at_line, g.at_byte, m, t, f.is, o.is, l', n')

  -- what an entry that is not misplaced says of its name
  pub has_name : {found : Bool} → HasEntry b i → found ≡ misplaced b i → found ≡ false → HasName b i
  has_name h e f = record { entry = h; within = omega (arith, (placed b i (sym e ∙ f)).names, h.head.whole) }

  pub misstated_is : {number method parameter lines size : ℕ} {pair : Bool} → HasName b i → Field 4 (source_entry b i) 0 number
      → Field 1 (source_entry b i) 4 method → Field 1 (source_entry b i) 5 parameter → pair ≡ listed method parameter
      → Field 2 (source_entry b i) 6 lines → Field 2 (source_entry b i) 10 size
      → (eqb number 0 || not pair || eqb lines 0 || not (within 1 64 size) || any bad_name_byte (source_at b i).name) ≡ unsound (source_at b i)
  unfolding unsound source_at
  misstated_is h n k p e l s =
      let r = source_entry b i in
      let name : length (take (name_length_in r) (drop (name_place b i) b)) ≡ name_length_in r =
      length-take-le (name_length_in r) (drop (name_place b i) b) (rw length-drop (omega (arith, h.within))) in
      rw (n.is, e, k.is, p.is, l.is, s.is, name, length-map, length-count_up)

  -- the part at its place is the source's name
  pub name-is : {A : Type 0} {base : A} {from start size : ℕ} {held : List ℕ} {place : A × ℕ} {bad : Bool} → start ≡ name_place b i
      → Field 2 (source_entry b i) 10 size → Shows b base from start size held place → bad ≡ any bad_name_byte held → bad ≡ any bad_name_byte (source_at b i).name
  unfolding source_at
  name-is p f s e = e ∙ rw (s.holds, p, f.is)

-- and the part from where the names begin is all of them
pub names_are : {A : Type 0} (b : List ℕ) {base : A} {from start : ℕ} {held : List ℕ} {place : A × ℕ} {bad : Bool} → start ≡ names_at (source_count b) (line_count b)
    → Shows b base from start (length b - start) held place → bad ≡ any bad_name_byte held → bad ≡ any bad_name_byte (all_names b)
names_are b {start = start} f s e =
    let all : take (length b - start) (drop start b) ≡ drop start b = take_all (length b - start) (drop start b) (rw length-drop (omega arith)) in
    e ∙ rw (s.holds, all, f)

-- the bytes passed, and those that are left, decide together
pub record Looked (name : List ℕ) (bad : Bool) (i : ℕ) : Type 0 where
  pub low : i ≤ length name
  pub rest : bad || any bad_name_byte (drop i name) ≡ any bad_name_byte name

pub look_none : {name : List ℕ} → Looked name false 0
look_none = record { low = omega arith; rest = refl }

module _ {name : List ℕ} {bad : Bool} {i : ℕ} (k : Looked name bad i) where
  pub look_more : i < length name → Looked name (bad || bad_name_byte (get_or name i 0)) (i + 1)
  unfolding any
  look_more h =
      let e : any bad_name_byte (drop i name) ≡ bad_name_byte (get_or name i 0) || any bad_name_byte (drop (i + 1) name) = rw (drop-cons name i 0 h, add-one i) in
      record { low = omega arith; rest = or_assoc bad (bad_name_byte (get_or name i 0)) (any bad_name_byte (drop (i + 1) name)) ∙ ap (λ (r : Bool). bad || r) (sym e) ∙ k.rest }

  pub look-all : length name ≤ i → bad ≡ any bad_name_byte name
  unfolding any
  look-all h = sym (or_none bad) ∙ rw (drop_of_length-le name h) at k.rest

-- where no name byte of the register is bad, none of a source's is
good-part : (test : ℕ → Bool) (xs : List ℕ) (k p : ℕ) → any test xs ≡ false → any test (take k (drop p xs)) ≡ false
good-part test xs k p e =
    let f = (any_append test (take p xs) (drop p xs) (rw take-append-drop e)).1 in
    (any_append test (take k (drop p xs)) (drop k (drop p xs)) (rw take-append-drop f)).0

good-name : (b : List ℕ) (i : ℕ) → any bad_name_byte (all_names b) ≡ false → any bad_name_byte (source_at b i).name ≡ false
unfolding source_at
good-name b i e =
    let r = source_entry b i in
    let at = names_at (source_count b) (line_count b) in
    rw (← drop-drop (name_offset_in r) at) (good-part bad_name_byte (all_names b) (name_length_in r) (name_offset_in r) e)

-- an entry is wrong where it is misplaced, misstated, or has a bad name
module _ (b : List ℕ) (i : ℕ) {place : Bool} (p : place ≡ misplaced b i) where
  pub wrong-misplaced : place ≡ true → true ≡ wrong_source b i
  unfolding wrong_source
  wrong-misplaced e = rw (← p, e)

  module _ {stated : Bool} (q : place ≡ false) (s : (stated || any bad_name_byte (source_at b i).name) ≡ unsound (source_at b i)) where
    pub wrong_misstated : stated ≡ true → true ≡ wrong_source b i
    unfolding wrong_source
    wrong_misstated e = rw (← p, q, ← s, e)

    pub wrong_unnamed : {some : Bool} → stated ≡ false → some ≡ any bad_name_byte (all_names b) → some ≡ false → false ≡ wrong_source b i
    unfolding wrong_source
    wrong_unnamed e f g = rw (← p, q, ← s, e) (sym (good-name b i (sym f ∙ g)))

    pub wrong-named : {bad : Bool} → stated ≡ false → bad ≡ any bad_name_byte (source_at b i).name → bad ≡ wrong_source b i
    unfolding wrong_source
    wrong-named e f = rw (← p, q, ← s, e) f
