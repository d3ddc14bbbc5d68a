-- A register that is encoded is laid right, and is read back as the year and the sources that it is encoded of. Assumes nothing.
use mathlib.Core.Bool.{false}
use mathlib.Core.List.{List, [], ◌∷◌, ◌++◌, map, append-nil}
use mathlib.Core.Path.{◌≡◌, refl, sym, ap, ap₂, ◌∙◌}
use Prim.Native.Nat.{ℕ, suc, ◌+◌, ◌*◌, ◌≤◌, ◌<◌}
use native.Mathlib.Nat.{add-zero, zero-add}
use native.Mathlib.Numerals.{add-one}
use native.Mathlib.Omega.{arith}
use lib.ListN.{length, get_or, take, drop, length-append}
use lib.Seq.{take_at}
use Rattle.basis.specs.Bytes.{number_at, packed, Bytes}
use Rattle.basis.specs.Lists.{sum, count_up, any, joined}
use Rattle.basis.proofs.Bytes.{Fits, length-packed, packed-bytes, append_bytes}
use Rattle.basis.proofs.Bools.{false_or}
use Rattle.meaning.specs.Register.{Source, register_tag, register_layout, year_of, source_count, line_count, name_bytes, source_length, line_length, sources_at, lines_at, names_at, whole_length, line_of, line_at, source_entry, number_in, method_in, parameter_in, first_line_in, line_count_in, name_length_in, name_offset_in, name_place, source_at, sources_of, line_start, name_start, misplaced, line_bytes, source_entries, register_header, encode}
use Rattle.meaning.proofs.Sources.{placed as standing}
use Rattle.demands.specs.Valid.{LaidRight, LineFits, Encodable}
use Rattle.basis.proofs.Counting.{counted_none}
use Rattle.basis.proofs.Rows.{number_at-drop, read_rows, each-bytes, joined_bytes}
use Rattle.demands.proofs.Figures.{lines_before_lem, names_before_lem, standing_placed, not-misplaced}
use Rattle.demands.proofs.EncodedEntries.{StandAt, stand-first, stand_next, numbers-at, length-line, line-back, line-bytes, rows_of, rows_append, length-lines, lines_of, names_of, entry_widths, entry_numbers, length_more, Room, room_next, entry-fits, length-entry, length-entries, each_line, names-bytes, entries-bytes}

-- From entry j on, a register holds the entries, the lines and the names of these sources, which begin at this line and at this name byte.
record Ahead (b : List ℕ) (j line byte : ℕ) (ss : List Source) : Type 0 where
  entries : StandAt b (sources_at + source_length * j) (source_entries line byte ss)
  lines : StandAt b (lines_at (source_count b) + line_length * line) (rows_of (lines_of ss))
  names : StandAt b (names_at (source_count b) (line_count b) + byte) (names_of ss)
  at_line : line_start b j ≡ line
  at_name : name_start b j ≡ byte
  last_line : line + length (lines_of ss) ≡ line_count b
  last_name : byte + length (names_of ss) ≡ name_bytes b
  room : Room line byte ss

-- the first of them
module _ (b : List ℕ) (j line byte : ℕ) (s : Source) (ss : List Source) (h : Ahead b j line byte (s ∷ ss)) where
  abbrev entry : List ℕ
  entry = packed entry_widths (entry_numbers line byte s)

  abbrev line_after : ℕ
  line_after = line + length s.lines

  abbrev name_after : ℕ
  name_after = byte + length s.name

  entries_here : StandAt b (sources_at + source_length * j) (entry ++ source_entries line_after name_after ss)
  unfolding source_entries
  entries_here = h.entries

  lines_here : StandAt b (lines_at (source_count b) + line_length * line) (rows_of s.lines ++ rows_of (lines_of ss))
  unfolding joined
  lines_here = let l = h.lines in (l.0, l.1 ∙ ap (λ (x : List ℕ). x ++ l.0) (rows_append s.lines (lines_of ss)))

  names_here : StandAt b (names_at (source_count b) (line_count b) + byte) (s.name ++ names_of ss)
  unfolding joined
  names_here = h.names

  in_entry : (i : ℕ) → i < 7 → number_at (get_or entry_widths i 0) (source_entry b j) (sum (take i entry_widths)) ≡ get_or (entry_numbers line byte s) i 0
  in_entry =
      let p = sources_at + source_length * j in
      numbers-at b p entry_widths (entry_numbers line byte s) (stand-first b p entry (source_entries line_after name_after ss) entries_here)
      (entry-fits line byte s ss h.room)

  count_in : line_count_in (source_entry b j) ≡ length s.lines
  unfolding sum
  count_in = in_entry 3 (omega arith)

  line_in : first_line_in (source_entry b j) ≡ line
  unfolding sum
  line_in = in_entry 4 (omega arith)

  length_in : name_length_in (source_entry b j) ≡ length s.name
  unfolding sum
  length_in = in_entry 5 (omega arith)

  offset_in : name_offset_in (source_entry b j) ≡ byte
  unfolding sum
  offset_in = in_entry 6 (omega arith)

  name_back : take (name_length_in (source_entry b j)) (drop (name_place b j) b) ≡ s.name
  name_back =
      let n = stand-first b (names_at (source_count b) (line_count b) + byte) s.name (names_of ss) names_here in
      rw (length_in, offset_in, n.1) (take_at s.name n.0 (length s.name) refl)

  lines-back : map (line_at b) (count_up (first_line_in (source_entry b j)) (line_count_in (source_entry b j))) ≡ s.lines
  lines-back =
      let p = lines_at (source_count b) in
      let n = stand-first b (p + line_length * line) (rows_of s.lines) (rows_of (lines_of ss)) lines_here in
      rw (line_in, count_in)
      (read_rows line_bytes line_of line_length LineFits length-line line-back p b n.0 s.lines line h.room.each.0.lines n.1)

  source-back : source_at b j ≡ s
  unfolding source_at sum
  source-back =
      let number : number_in (source_entry b j) ≡ s.number = in_entry 0 (omega arith) in
      let method : method_in (source_entry b j) ≡ s.method = in_entry 1 (omega arith) in
      let parameter : parameter_in (source_entry b j) ≡ s.parameter = in_entry 2 (omega arith) in
      λ i. record { number = number i; method = method i; parameter = parameter i; name = name_back i; lines = lines-back i }

  placed_here : misplaced b j ≡ false
  placed_here =
      let m : line + length s.lines ≤ line_count b = omega (arith, length_more (λ s. s.lines) line s ss, h.last_line) in
      let t : byte + length s.name ≤ name_bytes b = omega (arith, length_more (λ s. s.name) byte s ss, h.last_name) in
      not-misplaced b j
      (record {
        line = line_in ∙ sym h.at_line;
        name = offset_in ∙ sym h.at_name;
        lines = rw (line_in, count_in) m;
        names = rw (offset_in, length_in) t;
      })

  ahead_next : Ahead b (j + 1) line_after name_after ss
  unfolding line_start name_start
  ahead_next =
      let v = h.room in
      let p : sources_at + source_length * j + length entry ≡ sources_at + source_length * (j + 1) = rw (length-entry line byte s ss v) (omega arith) in
      let m = length-lines s.lines v.each.0.lines in
      let q : lines_at (source_count b) + line_length * line + length (rows_of s.lines) ≡ lines_at (source_count b) + line_length * line_after = omega (arith, m) in
      let t : names_at (source_count b) (line_count b) + byte + length s.name ≡ names_at (source_count b) (line_count b) + name_after = omega arith in
      record {
        entries = stand_next b _ _ entry (source_entries line_after name_after ss) p entries_here;
        lines = stand_next b _ _ (rows_of s.lines) (rows_of (lines_of ss)) q lines_here;
        names = stand_next b _ _ s.name (names_of ss) t names_here;
        at_line = rw (add-one j) (ap₂ ◌+◌ line_in count_in);
        at_name = rw (add-one j) (ap₂ ◌+◌ offset_in length_in);
        last_line = length_more (λ s. s.lines) line s ss ∙ h.last_line;
        last_name = length_more (λ s. s.name) byte s ss ∙ h.last_name;
        room = room_next line byte s ss v;
      }

-- what is read from the sources, from entry j on
record Told (b : List ℕ) (j : ℕ) (ss : List Source) : Type 0 where
  sources : map (source_at b) (count_up j (length ss)) ≡ ss
  placed : any (misplaced b) (count_up j (length ss)) ≡ false
  last_line : line_start b (j + length ss) ≡ line_count b
  last_name : name_start b (j + length ss) ≡ name_bytes b

told : (b : List ℕ) (j line byte : ℕ) (ss : List Source) → Ahead b j line byte ss → Told b j ss
unfolding count_up any joined
told b j line byte [] h =
    record {
      sources = refl;
      placed = refl;
      last_line = rw add-zero (h.at_line ∙ sym (add-zero line) ∙ h.last_line);
      last_name = rw add-zero (h.at_name ∙ sym (add-zero byte) ∙ h.last_name);
    }
told b j line byte (s ∷ ss) h =
    let r = told b (j + 1) (line + length s.lines) (byte + length s.name) ss (ahead_next b j line byte s ss h) in
    let e : j + 1 + length ss ≡ j + suc (length ss) = omega arith in
    record {
      sources = ap₂ ◌∷◌ (source-back b j line byte s ss h) r.sources;
      placed = false_or _ _ (placed_here b j line byte s ss h) r.placed;
      last_line = rw e at r.last_line;
      last_name = rw e at r.last_name;
    }

-- The whole register, of a year and sources that a register has room for.
abbrev pub register_widths : List ℕ
register_widths = 2 ∷ 2 ∷ 2 ∷ 2 ∷ 4 ∷ 4 ∷ 4 ∷ 4 ∷ 4 ∷ []

abbrev pub register_numbers : ℕ → ℕ → ℕ → ℕ → List ℕ
register_numbers year n m t = register_layout ∷ year ∷ n ∷ m ∷ t ∷ sources_at ∷ lines_at n ∷ names_at n m ∷ whole_length n m t ∷ []

module _ (year : ℕ) (ss : List Source) (v : Encodable year ss) where
  abbrev bytes : List ℕ
  bytes = encode year ss

  abbrev n : ℕ
  n = length ss

  abbrev m : ℕ
  m = length (lines_of ss)

  abbrev t : ℕ
  t = length (names_of ss)

  abbrev header : List ℕ
  header = register_header year n m t

  abbrev entries : List ℕ
  entries = source_entries 0 0 ss

  abbrev rows : List ℕ
  rows = rows_of (lines_of ss)

  header_fits : Fits register_widths (register_numbers year n m t)
  header_fits = omega (arith, v.in_range, v.sources, v.lines, v.names)

  room_whole : Room 0 0 ss
  room_whole = record { lines = omega (arith, v.lines); names = omega (arith, v.names); each = v.each }

  length_header : length header ≡ sources_at
  unfolding register_header sum
  length_header = rw (length-append register_tag, length-packed register_widths (register_numbers year n m t) refl)

  to_lines : length (header ++ entries) ≡ lines_at n
  to_lines = rw (length-append, length_header, length-entries 0 0 ss room_whole)

  to_names : length (header ++ entries ++ rows) ≡ names_at n m
  to_names = rw (length-append, to_lines, length-lines (lines_of ss) (each_line ss v.each))

  whole-at : StandAt bytes 0 (header ++ entries ++ rows ++ names_of ss)
  unfolding encode
  whole-at = ([], sym (append-nil bytes))

  rows_at : StandAt bytes 0 (header ++ entries ++ rows)
  rows_at = stand-first bytes 0 (header ++ entries ++ rows) (names_of ss) whole-at

  entries_at : StandAt bytes 0 (header ++ entries)
  entries_at = stand-first bytes 0 (header ++ entries) rows rows_at

  header_at : StandAt bytes 0 header
  header_at = stand-first bytes 0 header entries entries_at

  in_header : (i : ℕ) → i < 9 → number_at (get_or register_widths i 0) bytes (4 + sum (take i register_widths)) ≡ get_or (register_numbers year n m t) i 0
  unfolding register_header
  in_header i l =
      let N = packed register_widths (register_numbers year n m t) in
      sym (number_at-drop (get_or register_widths i 0) bytes 4 (sum (take i register_widths)))
      ∙ numbers-at bytes 4 register_widths (register_numbers year n m t) (stand_next bytes 0 4 register_tag N (omega arith) header_at) header_fits i l

  pub encode-year : year_of (encode year ss) ≡ year
  unfolding sum
  encode-year = in_header 1 (omega arith)

  sources_in_lem : source_count bytes ≡ n
  unfolding sum
  sources_in_lem = in_header 2 (omega arith)

  lines_in_lem : line_count bytes ≡ m
  unfolding sum
  lines_in_lem = in_header 3 (omega arith)

  names_in : name_bytes bytes ≡ t
  unfolding sum
  names_in = in_header 4 (omega arith)

  ahead_whole : Ahead bytes 0 0 0 ss
  unfolding line_start name_start
  ahead_whole =
      let p : 0 + length header ≡ sources_at = omega (arith, length_header) in
      let q : 0 + length (header ++ entries) ≡ lines_at (source_count bytes) + line_length * 0 = rw sources_in_lem (omega (arith, to_lines)) in
      let r : 0 + length (header ++ entries ++ rows) ≡ names_at (source_count bytes) (line_count bytes) + 0 = rw (sources_in_lem, lines_in_lem) (omega (arith, to_names)) in
      record {
        entries = stand_next bytes 0 _ header entries p entries_at;
        lines = stand_next bytes 0 _ (header ++ entries) rows q rows_at;
        names = stand_next bytes 0 _ (header ++ entries ++ rows) (names_of ss) r whole-at;
        at_line = refl;
        at_name = refl;
        last_line = zero-add m ∙ sym lines_in_lem;
        last_name = zero-add t ∙ sym names_in;
        room = room_whole;
      }

  told_whole : Told bytes 0 ss
  told_whole = told bytes 0 0 0 ss ahead_whole

  pub encode-sources : sources_of (encode year ss) ≡ ss
  unfolding sources_of
  encode-sources = rw sources_in_lem told_whole.sources

  pub encode-bytes : Bytes (encode year ss)
  unfolding encode register_header
  encode-bytes =
      let N = packed register_widths (register_numbers year n m t) in
      append_bytes (header ++ entries ++ rows) (names_of ss)
      (append_bytes (header ++ entries) rows
      (append_bytes header entries (append_bytes register_tag N (each-bytes register_tag (omega arith)) (packed-bytes register_widths (register_numbers year n m t)))
      (entries-bytes 0 0 ss))
      (joined_bytes line_bytes line-bytes (lines_of ss)))
      (names-bytes ss v.each)

  length_whole : length bytes ≡ whole_length n m t
  unfolding encode
  length_whole = rw (length-append, to_names)

  tagged : take 4 bytes ≡ register_tag
  unfolding encode register_header
  tagged = refl

  pub encode-laid : LaidRight (encode year ss)
  unfolding sum
  encode-laid =
      let r = told_whole in
      let last : source_count bytes ≡ 0 + n = sources_in_lem ∙ sym (zero-add n) in
      record {
        long = omega (arith, length_whole);
        tag = tagged;
        layout = in_header 0 (omega arith);
        year = rw encode-year v.in_range;
        sources = rw sources_in_lem v.sources;
        lines = rw lines_in_lem v.lines;
        names = rw names_in v.names;
        at_sources = in_header 5 (omega arith);
        at_lines = rw sources_in_lem (in_header 6 (omega arith));
        at_names = rw (sources_in_lem, lines_in_lem) (in_header 7 (omega arith));
        whole = rw (sources_in_lem, lines_in_lem, names_in) (in_header 8 (omega arith));
        filled = rw (sources_in_lem, lines_in_lem, names_in) length_whole;
        placed = λ i l. standing_placed bytes i (standing bytes i (counted_none (misplaced bytes) n 0 r.placed i (omega arith) (omega (arith, sources_in_lem))));
        last_line = sym (lines_before_lem bytes (source_count bytes)) ∙ ap (line_start bytes) last ∙ r.last_line;
        last_name = sym (names_before_lem bytes (source_count bytes)) ∙ ap (name_start bytes) last ∙ r.last_name;
      }
