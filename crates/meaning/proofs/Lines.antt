-- The lines of all sources, one behind another: line j of the table is a line of the source whose block holds it. Assumes nothing.
use mathlib.Core.List.{List, map, map-map}
use mathlib.Core.Bool.{Bool}
use mathlib.Core.Path.{◌≡◌, refl, sym, ap, ◌∙◌}
use Prim.Native.Nat.{ℕ, ◌+◌, ◌≤◌, ◌<◌}
use native.Mathlib.Nat.{add-zero, zero-add, sub-zero}
use native.Mathlib.Numerals.{add-one}
use native.Mathlib.Omega.{arith}
use lib.ListN.{length, get_or}
use Rattle.basis.specs.Lists.{count_up, joined}
use Rattle.basis.specs.Answers.{refuse_if, refuse_at_first, first_refusal}
use Rattle.basis.proofs.Answers.{refuse_each}
use Rattle.basis.proofs.ByIndex.{same-by_index}
use Rattle.basis.proofs.Blocks.{Blocks, blocks_length, blocks_find, blocks_at}
use Rattle.meaning.specs.Methods.{Decoded, decoded, is_bad, refusal_of}
use Rattle.std.specs.Prelude.{Some, None}
use Rattle.meaning.specs.Register.{Source, source_count, line_count, line_at, source_entry, method_in, parameter_in, first_line_in, line_count_in, source_at, sources_of, line_start, decoded_lines}
use Rattle.meaning.specs.Calls.{line_test}

-- "5 over all lines" is a test at the first line that is bad
abbrev pub bad_line : List Decoded → ℕ → Bool
bad_line ls j = is_bad (get_or ls j None)

refusal_if : (d : Decoded) (j : ℕ) → refuse_if (is_bad d) 5 j ≡ refusal_of d j
refusal_if (Some l) j = refl
refusal_if None j = refl

pub line_test_lem : (ss : List Source) → (let ls = joined (map decoded_lines ss) in line_test ss ≡ refuse_at_first 5 (bad_line ls) (length ls))
unfolding line_test
line_test_lem ss =
    let ls = joined (map decoded_lines ss) in
    sym (refuse_each 5 (bad_line ls) (length ls) ∙ ap first_refusal (same-by_index _ _ (length ls) 0 (λ j l g. refusal_if (get_or ls j None) j)))

-- each source's lines begin where those before it ended, and the last ends at m
pub record Following (b : List ℕ) : Type 0 where
  pub each : (i : ℕ) → i < source_count b → first_line_in (source_entry b i) ≡ line_start b i
  pub last : line_start b (source_count b) ≡ line_count b

-- line j, read by the method and parameter of source i
abbrev pub read_as : List ℕ → ℕ → ℕ → Decoded
read_as b i j = decoded (method_in (source_entry b i)) (parameter_in (source_entry b i)) (line_at b j)

-- the lines of all sources, in the order of the table
abbrev pub all_lines : List ℕ → List Decoded
all_lines b = joined (map decoded_lines (sources_of b))

module _ (b : List ℕ) (f : Following b) where
  pub next_line : (i : ℕ) → i < source_count b → line_start b (i + 1) ≡ line_start b i + line_count_in (source_entry b i)
  unfolding line_start
  next_line i m = rw (add-one i) (ap (λ (x : ℕ). x + line_count_in (source_entry b i)) (f.each i m))

  line_blocks : Blocks (λ i. decoded_lines (source_at b i)) (line_start b) (λ i. line_count_in (source_entry b i)) (read_as b) 0 (source_count b)
  unfolding decoded_lines source_at
  line_blocks i p m =
      let r = source_entry b i in
      record {
        is =
            map-map (decoded (method_in r) (parameter_in r)) (line_at b) (count_up (first_line_in r) (line_count_in r))
            ∙ ap (λ (x : ℕ). map (read_as b i) (count_up x (line_count_in r))) (f.each i (omega arith));
        next = next_line i (omega arith);
      }

  lines_are : all_lines b ≡ joined (map (λ i. decoded_lines (source_at b i)) (count_up 0 (source_count b)))
  unfolding sources_of
  lines_are = ap joined (map-map decoded_lines (source_at b) (count_up 0 (source_count b)))

  pub length-lines : length (all_lines b) ≡ line_count b
  unfolding line_start
  length-lines =
      ap length lines_are
      ∙ sym (add-zero _)
      ∙ blocks_length (λ i. decoded_lines (source_at b i)) (line_start b) (λ i. line_count_in (source_entry b i)) (read_as b) (source_count b) 0 line_blocks
      ∙ ap (line_start b) (zero-add (source_count b))
      ∙ f.last

  pub line-is : (i j : ℕ) → i < source_count b → first_line_in (source_entry b i) ≤ j → j < first_line_in (source_entry b i) + line_count_in (source_entry b i)
      → get_or (all_lines b) j None ≡ read_as b i j
  unfolding line_start
  line-is i j m p q =
      let e = f.each i m in
      ap (λ (xs : List Decoded). get_or xs j None) lines_are
      ∙ ap (λ (x : ℕ). get_or (joined (map (λ i. decoded_lines (source_at b i)) (count_up 0 (source_count b)))) x None) (sym (sub-zero j))
      ∙ blocks_at (λ i. decoded_lines (source_at b i)) (line_start b) (λ i. line_count_in (source_entry b i)) (read_as b) None (source_count b) 0 i j line_blocks
      (omega arith) (omega arith) (omega arith) (omega arith)

  pub line_of : (j : ℕ) → j < line_count b
      → (i : ℕ) × (i < source_count b) × (first_line_in (source_entry b i) ≤ j) × (j < first_line_in (source_entry b i) + line_count_in (source_entry b i))
  unfolding line_start
  line_of j m =
      let t : line_start b (0 + source_count b) ≡ line_count b = ap (line_start b) (zero-add (source_count b)) ∙ f.last in
      let r = blocks_find (λ i. decoded_lines (source_at b i)) (line_start b) (λ i. line_count_in (source_entry b i)) (read_as b) (source_count b) 0 j line_blocks (omega arith) (omega arith) in
      let n : r.0 < source_count b = omega (arith, r.2) in
      let e = f.each r.0 n in
      (r.0, n, omega (arith, r.3), omega (arith, r.4))
