-- A line's bytes and a source entry's bytes are read back. Assumes nothing.
use mathlib.Core.List.{List, [], ◌∷◌, ◌++◌, map, append_assoc}
use mathlib.Core.Path.{◌≡◌, refl, sym, ap, ◌∙◌}
use Prim.Native.Nat.{ℕ, ◌+◌, ◌*◌, ◌≤◌, ◌<◌}
use native.Mathlib.Omega.{arith}
use lib.ListN.{length, get_or, take, drop, length-append}
use lib.Seq.{drop_at, drop-drop}
use Rattle.basis.proofs.Lists.{each_append}
use Rattle.basis.specs.Bytes.{number_at, packed, Bytes}
use Rattle.basis.specs.Lists.{Each, sum, joined}
use Rattle.basis.proofs.Bytes.{Fits, length-packed, number_at-packed, packed-bytes, append_bytes}
use Rattle.meaning.specs.declared.RawLine.{RawLine}
use Rattle.meaning.specs.Register.{Source, most_lines, most_name_bytes, source_length, line_length, line_of, line_bytes, source_entries}
use Rattle.demands.specs.Valid.{LineFits, SourceFits}
use Rattle.basis.proofs.Rows.{length-rows}

-- bytes that stand in others at a place
abbrev pub StandAt : List ℕ → ℕ → List ℕ → Type 0
StandAt b p xs = (rest : List ℕ) × (drop p b ≡ xs ++ rest)

pub stand-first : (b : List ℕ) (p : ℕ) (xs ys : List ℕ) → StandAt b p (xs ++ ys) → StandAt b p xs
stand-first b p xs ys s = (ys ++ s.0, s.1 ∙ append_assoc xs ys s.0)

pub stand_next : (b : List ℕ) (p q : ℕ) (xs ys : List ℕ) → p + length xs ≡ q → StandAt b p (xs ++ ys) → StandAt b q ys
stand_next b p q xs ys e s = (
  s.0,
  ap (λ (x : ℕ). drop x b) (sym e)
      ∙ sym (drop-drop (length xs) p b)
      ∙ ap (drop (length xs)) (s.1 ∙ append_assoc xs ys s.0)
      ∙ drop_at xs (ys ++ s.0) (length xs) refl,
)

pub numbers-at : (b : List ℕ) (p : ℕ) (ws ns : List ℕ) → StandAt b p (packed ws ns) → Fits ws ns → (i : ℕ) → i < length ws
    → number_at (get_or ws i 0) (drop p b) (sum (take i ws)) ≡ get_or ns i 0
numbers-at b p ws ns s f i l = rw s.1 (number_at-packed ws ns s.0 f i l)

-- A line's bytes. They are twenty, and are read back off the front.
abbrev pub line_widths : List ℕ
line_widths = 1 ∷ 1 ∷ 2 ∷ 4 ∷ 4 ∷ 8 ∷ []

abbrev pub line_numbers : RawLine → List ℕ
line_numbers l = l.kind ∷ l.unit ∷ l.code ∷ l.a ∷ l.b ∷ l.q ∷ []

line-fits : (l : RawLine) → LineFits l → Fits line_widths (line_numbers l)
line-fits l v = omega (arith, v.kind, v.unit, v.code, v.a, v.b, v.q)

pub length-line : (l : RawLine) → LineFits l → length (line_bytes l) ≡ line_length
unfolding line_bytes sum
length-line l v = length-packed line_widths (line_numbers l) refl

pub line-back : (l : RawLine) (rest : List ℕ) → LineFits l → line_of (line_bytes l ++ rest) ≡ l
unfolding line_bytes sum
line-back l rest v =
    let number = number_at-packed line_widths (line_numbers l) rest (line-fits l v) in
    let kind : number_at 1 (line_bytes l ++ rest) 0 ≡ l.kind = number 0 (omega arith) in
    let unit : number_at 1 (line_bytes l ++ rest) 1 ≡ l.unit = number 1 (omega arith) in
    let code : number_at 2 (line_bytes l ++ rest) 2 ≡ l.code = number 2 (omega arith) in
    let a : number_at 4 (line_bytes l ++ rest) 4 ≡ l.a = number 3 (omega arith) in
    let b : number_at 4 (line_bytes l ++ rest) 8 ≡ l.b = number 4 (omega arith) in
    let q : number_at 8 (line_bytes l ++ rest) 12 ≡ l.q = number 5 (omega arith) in
    λ i. record { kind = kind i; unit = unit i; code = code i; a = a i; b = b i; q = q i }

pub line-bytes : (l : RawLine) → Bytes (line_bytes l)
unfolding line_bytes
line-bytes l = packed-bytes line_widths (line_numbers l)

abbrev pub rows_of : List RawLine → List ℕ
rows_of ls = joined (map line_bytes ls)

pub rows_append : (ks ls : List RawLine) → rows_of (ks ++ ls) ≡ rows_of ks ++ rows_of ls
unfolding joined
rows_append [] ls = refl
rows_append (k ∷ ks) ls = rw (rows_append ks ls) (sym (append_assoc (line_bytes k) (rows_of ks) (rows_of ls)))

pub length-lines : (ls : List RawLine) → Each LineFits ls → length (rows_of ls) ≡ line_length * length ls
length-lines = length-rows line_bytes line_of line_length LineFits length-line

-- Entries. What their sources have of lines and of name bytes, and that it keeps to what a register has room for.
abbrev pub lines_of : List Source → List RawLine
lines_of ss = joined (map (λ s. s.lines) ss)

abbrev pub names_of : List Source → List ℕ
names_of ss = joined (map (λ s. s.name) ss)

abbrev pub entry_widths : List ℕ
entry_widths = 4 ∷ 1 ∷ 1 ∷ 2 ∷ 2 ∷ 2 ∷ 4 ∷ []

abbrev pub entry_numbers : ℕ → ℕ → Source → List ℕ
entry_numbers line byte s = s.number ∷ s.method ∷ s.parameter ∷ length s.lines ∷ line ∷ length s.name ∷ byte ∷ []

pub length_more : {A : Type 0} (part : Source → List A) (x : ℕ) (s : Source) (ss : List Source)
    → x + length (part s) + length (joined (map part ss)) ≡ x + length (joined (map part (s ∷ ss)))
unfolding joined
length_more part x s ss = rw length-append (omega arith)

pub record Room (line byte : ℕ) (ss : List Source) : Type 0 where
  pub lines : line + length (lines_of ss) ≤ most_lines
  pub names : byte + length (names_of ss) ≤ most_name_bytes
  pub each : Each SourceFits ss

module _ (line byte : ℕ) (s : Source) (ss : List Source) (v : Room line byte (s ∷ ss)) where
  pub room_next : Room (line + length s.lines) (byte + length s.name) ss
  room_next = record { lines = rw (length_more (λ s. s.lines) line s ss) v.lines; names = rw (length_more (λ s. s.name) byte s ss) v.names; each = v.each.1 }

  pub entry-fits : Fits entry_widths (entry_numbers line byte s)
  entry-fits =
      let f = v.each.0 in
      omega (arith, f.number, f.method, f.parameter, room_next.lines, room_next.names)

  pub length-entry : length (packed entry_widths (entry_numbers line byte s)) ≡ source_length
  unfolding sum
  length-entry = length-packed entry_widths (entry_numbers line byte s) refl

pub length-entries : (line byte : ℕ) (ss : List Source) → Room line byte ss → length (source_entries line byte ss) ≡ source_length * length ss
unfolding source_entries
length-entries line byte [] v = refl
length-entries line byte (s ∷ ss) v =
    rw (
      length-append,
      length-entry line byte s ss v,
      length-entries (line + length s.lines) (byte + length s.name) ss (room_next line byte s ss v),
    ) (omega arith)

pub each_line : (ss : List Source) → Each SourceFits ss → Each LineFits (lines_of ss)
unfolding joined
each_line [] v = tt
each_line (s ∷ ss) v = each_append LineFits s.lines (lines_of ss) v.0.lines (each_line ss v.1)

pub names-bytes : (ss : List Source) → Each SourceFits ss → Bytes (names_of ss)
unfolding joined
names-bytes [] v i = omega arith
names-bytes (s ∷ ss) v i = append_bytes s.name (names_of ss) v.0.name (names-bytes ss v.1) i

pub entries-bytes : (line byte : ℕ) (ss : List Source) → Bytes (source_entries line byte ss)
unfolding source_entries
entries-bytes line byte [] i = omega arith
entries-bytes line byte (s ∷ ss) i =
    let m = line + length s.lines in
    let t = byte + length s.name in
    append_bytes (packed entry_widths (entry_numbers line byte s)) (source_entries m t ss) (packed-bytes entry_widths (entry_numbers line byte s)) (entries-bytes m t ss) i
