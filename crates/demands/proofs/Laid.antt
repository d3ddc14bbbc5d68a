-- A register that is laid right is the encoding of its year and its sources, and a register has room for these. Assumes nothing.
use mathlib.Core.List.{List, [], ◌∷◌, ◌++◌, map, map-map}
use mathlib.Core.Path.{◌≡◌, refl, sym, ap, ap₂, ◌∙◌}
use Prim.Native.Nat.{ℕ, zero, suc, ◌+◌, ◌*◌, ◌^◌, ◌≤◌, ◌<◌}
use native.Mathlib.Nat.{add-zero, zero-add, add_assoc}
use native.Mathlib.Numerals.{add-one}
use native.Mathlib.Omega.{arith}
use lib.ListN.{length, take, drop, length-drop}
use lib.Seq.{drop-drop, take-add, take_all, length-take-le}
use Rattle.basis.specs.Bytes.{number_at, packed, Bytes}
use Rattle.basis.specs.Lists.{Each, sum, count_up, joined}
use Rattle.meaning.specs.declared.RawLine.{RawLine}
use Rattle.meaning.specs.Register.{year_of, source_count, line_count, name_bytes, source_length, line_length, sources_at, lines_at, names_at, whole_length, line_of, line_at, source_entry, first_line_in, line_count_in, name_length_in, name_place, source_at, sources_of, line_start, name_start, line_bytes, source_entries, register_header, encode}
use Rattle.meaning.proofs.Sources.{length-sources}
use Rattle.demands.specs.Valid.{LaidRight, LineFits, SourceFits, Encodable}
use Rattle.basis.proofs.Rows.{number_at-drop, number_at-fits, unpacked, packed_unpacked, bytes_drop, bytes_take, write_rows}
use Rattle.basis.proofs.Counting.{length_counted, counted_append}
use Rattle.demands.proofs.Calculation.{standing, last_line_lem, last_name_lem, following}
use Rattle.meaning.proofs.Lines.{next_line}
use Rattle.demands.proofs.EncodedEntries.{line_widths, line_numbers, rows_of, lines_of, names_of, entry_widths, entry_numbers}
use Rattle.demands.proofs.Encoded.{register_widths, register_numbers}

each_map : {A B : Type 0} (P : B → Type 0) (f : A → B) → ((x : A) → P (f x)) → (xs : List A) → Each P (map f xs)
each_map P f h [] = tt
each_map P f h (x ∷ xs) = (h x, each_map P f h xs)

-- pieces that follow one another without gap are one piece
module _ {A : Type 0} (piece : ℕ → ℕ → List A) (none : (x : ℕ) → piece x 0 ≡ []) (more : (x p q : ℕ) → piece x (p + q) ≡ piece x p ++ piece (x + p) q) where
  pieces_join : (f : ℕ → List A) (s c : ℕ → ℕ) (k a : ℕ)
      → ((i : ℕ) → a ≤ i → i < a + k → (f i ≡ piece (s i) (c i)) × (s (i + 1) ≡ s i + c i))
      → (n : ℕ) × (s a + n ≡ s (a + k)) × (joined (map f (count_up a k)) ≡ piece (s a) n)
  unfolding count_up joined
  pieces_join f s c zero a h = (0, add-zero (s a) ∙ ap s (sym (add-zero a)), sym (none (s a)))
  pieces_join f s c (suc k) a h =
      let r = pieces_join f s c k (a + 1) (λ i l m. h i (omega arith) (omega arith)) in
      let q = h a (omega arith) (omega arith) in
      let e : a + 1 + k ≡ a + suc k = omega arith in (
        c a + r.0,
        sym (add_assoc (s a) (c a) r.0) ∙ ap (λ (x : ℕ). x + r.0) (sym q.1) ∙ r.1 ∙ ap s e,
        ap₂ ◌++◌ q.0 (r.2 ∙ ap (λ (x : ℕ). piece x r.0) q.1) ∙ sym (more (s a) (c a) r.0),
      )

  pieces_whole : (f : ℕ → List A) (s c : ℕ → ℕ) (k n : ℕ) → s 0 ≡ 0 → s k ≡ n → ((i : ℕ) → i < k → (f i ≡ piece (s i) (c i)) × (s (i + 1) ≡ s i + c i))
      → joined (map f (count_up 0 k)) ≡ piece 0 n
  pieces_whole f s c k n start end h =
      let r = pieces_join f s c k 0 (λ i l m. h i (omega arith)) in
      r.2 ∙ ap₂ piece start (omega (arith, r.1, ap s (zero-add k)))

-- a line that is read and written again is what stood there
numbers-line : (r : List ℕ) → unpacked line_widths r ≡ line_numbers (line_of r)
unfolding unpacked
numbers-line r = simp number_at-drop

line-again : (r : List ℕ) → Bytes r → line_length ≤ length r → line_bytes (line_of r) ≡ take line_length r
unfolding line_bytes sum
line-again r h l = rw (← numbers-line r) (packed_unpacked line_widths r h l)

-- A register that is laid right, and what it is the encoding of.
module _ (b : List ℕ) (h : Bytes b) (v : LaidRight b) where
  long : whole_length (source_count b) (line_count b) (name_bytes b) ≡ length b
  long = sym v.filled

  length-lines-at : (i : ℕ) → length (source_at b i).lines ≡ line_count_in (source_entry b i)
  unfolding source_at
  length-lines-at i = let r = source_entry b i in length_counted (line_at b) (first_line_in r) (line_count_in r)

  length-name-at : (i : ℕ) → i < source_count b → length (source_at b i).name ≡ name_length_in (source_entry b i)
  unfolding source_at
  length-name-at i l =
      let m : name_length_in (source_entry b i) ≤ length (drop (name_place b i) b) = rw length-drop (omega (arith, long, (standing b v i l).names)) in
      length-take-le (name_length_in (source_entry b i)) (drop (name_place b i) b) m

  next_name : (i : ℕ) → i < source_count b → name_start b (i + 1) ≡ name_start b i + name_length_in (source_entry b i)
  unfolding name_start
  next_name i l = rw (add-one i) (ap (λ (x : ℕ). x + name_length_in (source_entry b i)) (standing b v i l).name)

  -- its entries
  numbers-entry : (i : ℕ) → i < source_count b → unpacked entry_widths (source_entry b i) ≡ entry_numbers (line_start b i) (name_start b i) (source_at b i)
  unfolding unpacked source_at
  numbers-entry i l = rw (length-lines-at i, length-name-at i l, ← (standing b v i l).line, ← (standing b v i l).name) (simp number_at-drop)

  entry-again : (i : ℕ) → i < source_count b → packed entry_widths (entry_numbers (line_start b i) (name_start b i) (source_at b i)) ≡ take source_length (source_entry b i)
  unfolding sum
  entry-again i l =
      let p = sources_at + source_length * i in
      let m : source_length ≤ length (drop p b) = rw length-drop (omega (arith, long)) in
      rw (← numbers-entry i l) (packed_unpacked entry_widths (drop p b) (bytes_drop p b h) m)

  entries-again : (k j : ℕ) → j + k ≤ source_count b
      → source_entries (line_start b j) (name_start b j) (map (source_at b) (count_up j k)) ≡ take (source_length * k) (source_entry b j)
  unfolding source_entries count_up
  entries-again zero j l = refl
  entries-again (suc k) j l =
      let m : j < source_count b = omega arith in
      let line : line_start b j + length (source_at b j).lines ≡ line_start b (j + 1) = rw (length-lines-at j) (sym (next_line b (following b v) j m)) in
      let name : name_start b j + length (source_at b j).name ≡ name_start b (j + 1) = rw (length-name-at j m) (sym (next_name j m)) in
      let q : sources_at + source_length * (j + 1) ≡ sources_at + source_length * j + source_length = omega arith in
      let w : source_length * suc k ≡ source_length + source_length * k = omega arith in
      rw (entry-again j m, line, name, entries-again k (j + 1) (omega arith), q, ← drop-drop source_length (sources_at + source_length * j) b, w)
      (sym (take-add source_length (source_length * k) (source_entry b j)))

  -- its lines and its names
  line_piece : ℕ → ℕ → List RawLine
  line_piece x n = map (line_at b) (count_up x n)

  lines_of_lem : lines_of (sources_of b) ≡ map (line_at b) (count_up 0 (line_count b))
  unfolding sources_of source_at line_start count_up line_piece
  lines_of_lem =
      let count : ℕ → ℕ = λ i. line_count_in (source_entry b i) in
      ap joined (map-map (λ s. s.lines) (source_at b) (count_up 0 (source_count b)))
      ∙ pieces_whole line_piece (λ x. refl) (counted_append (line_at b)) (λ i. (source_at b i).lines) (line_start b) count (source_count b) (line_count b) refl (last_line_lem b v)
      (λ i l. (ap (λ (x : ℕ). line_piece x (count i)) (standing b v i l).line, next_line b (following b v) i l))

  name_piece : ℕ → ℕ → List ℕ
  name_piece x n = take n (drop (names_at (source_count b) (line_count b) + x) b)

  pieces_names : (x p q : ℕ) → name_piece x (p + q) ≡ name_piece x p ++ name_piece (x + p) q
  unfolding name_piece
  pieces_names x p q =
      let P = names_at (source_count b) (line_count b) in
      rw (← add_assoc P x p, ← drop-drop p (P + x) b) (take-add p q (drop (P + x) b))

  names_of_lem : names_of (sources_of b) ≡ take (name_bytes b) (drop (names_at (source_count b) (line_count b)) b)
  unfolding sources_of source_at name_start name_piece
  names_of_lem =
      let count : ℕ → ℕ = λ i. name_length_in (source_entry b i) in
      ap joined (map-map (λ s. s.name) (source_at b) (count_up 0 (source_count b)))
      ∙ pieces_whole name_piece (λ x. refl) pieces_names (λ i. (source_at b i).name) (name_start b) count (source_count b) (name_bytes b) refl (last_name_lem b v)
      (λ i l. (ap (λ (x : ℕ). name_piece x (count i)) (standing b v i l).name, next_name i l))
      ∙ ap (λ (x : ℕ). take (name_bytes b) (drop x b)) (add-zero (names_at (source_count b) (line_count b)))

  length-lines : length (lines_of (sources_of b)) ≡ line_count b
  length-lines = ap length lines_of_lem ∙ length_counted (line_at b) 0 (line_count b)

  length-names : length (names_of (sources_of b)) ≡ name_bytes b
  length-names =
      let P = names_at (source_count b) (line_count b) in
      let l : name_bytes b ≤ length (drop P b) = rw length-drop (omega (arith, long)) in
      ap length names_of_lem ∙ length-take-le (name_bytes b) (drop P b) l

  row-again : (j : ℕ) → j < line_count b → line_bytes (line_at b j) ≡ take line_length (drop (lines_at (source_count b) + line_length * j) b)
  row-again j l =
      let p = lines_at (source_count b) + line_length * j in
      line-again (drop p b) (bytes_drop p b h) (rw length-drop (omega (arith, long)))

  rows-again : rows_of (lines_of (sources_of b)) ≡ take (line_length * line_count b) (drop (lines_at (source_count b)) b)
  rows-again =
      let P = lines_at (source_count b) in
      rw lines_of_lem
      (write_rows line_bytes line_of line_length P b (line_count b) 0 (λ j l m. row-again j (omega arith))
      ∙ ap (λ (x : ℕ). take (line_length * line_count b) (drop x b)) (add-zero P))

  -- its header
  numbers_header : unpacked register_widths (drop 4 b) ≡ register_numbers (year_of b) (source_count b) (line_count b) (name_bytes b)
  unfolding unpacked
  numbers_header = simp (number_at-drop, v.layout, v.at_sources, v.at_lines, v.at_names, v.whole)

  numbers-again : packed register_widths (register_numbers (year_of b) (source_count b) (line_count b) (name_bytes b)) ≡ take 28 (drop 4 b)
  unfolding sum
  numbers-again =
      let p : 28 ≤ length (drop 4 b) = rw length-drop (omega (arith, long)) in
      rw (← numbers_header) (packed_unpacked register_widths (drop 4 b) (bytes_drop 4 b h) p)

  header_again : register_header (year_of b) (source_count b) (line_count b) (name_bytes b) ≡ take sources_at b
  unfolding register_header
  header_again = ap₂ ◌++◌ (sym v.tag) numbers-again ∙ sym (take-add 4 28 b)

  pub encode-again : encode (year_of b) (sources_of b) ≡ b
  unfolding encode sources_of line_start name_start
  encode-again =
      let n = source_count b in
      let m = line_count b in
      let t = name_bytes b in
      rw (
        length-sources b,
        length-lines,
        length-names,
        header_again,
        entries-again n 0 (omega arith),
        rows-again,
        names_of_lem,
        ← take-add sources_at (source_length * n) b,
        ← take-add (lines_at n) (line_length * m) b,
        ← take-add (names_at n m) t b,
      )
      (take_all (whole_length n m t) b (omega (arith, long)))

  -- its numbers fit, for they are read from bytes
  line-fits : (j : ℕ) → LineFits (line_at b j)
  line-fits j =
      let p = lines_at (source_count b) + line_length * j in
      let fits : (k x : ℕ) → number_at k (drop p b) x < 256 ^ k = λ k x. number_at-fits k (drop p b) x (bytes_drop p b h) in
      record { kind = fits 1 0; unit = fits 1 1; code = fits 2 2; a = fits 4 4; b = fits 4 8; q = fits 8 12 }

  source_fits : (i : ℕ) → SourceFits (source_at b i)
  unfolding source_at
  source_fits i =
      let p = sources_at + source_length * i in
      let fits : (k x : ℕ) → number_at k (drop p b) x < 256 ^ k = λ k x. number_at-fits k (drop p b) x (bytes_drop p b h) in
      record {
        number = fits 4 0;
        method = fits 1 4;
        parameter = fits 1 5;
        name = bytes_take (name_length_in (source_entry b i)) (drop (name_place b i) b) (bytes_drop (name_place b i) b h);
        lines = each_map LineFits (line_at b) line-fits (count_up (first_line_in (source_entry b i)) (line_count_in (source_entry b i)));
      }

  pub laid-encodable : Encodable (year_of b) (sources_of b)
  unfolding sources_of
  laid-encodable =
      record {
        in_range = v.year;
        sources = rw (length-sources b) v.sources;
        lines = rw length-lines v.lines;
        names = rw length-names v.names;
        each = each_map SourceFits (source_at b) source_fits (count_up 0 (source_count b));
      }
