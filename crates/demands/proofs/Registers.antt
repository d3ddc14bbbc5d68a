-- A register that passes 1 to 4 is laid right, its sources are sound, and no number stands twice; and the other way round. Assumes nothing.
use mathlib.Core.Bool.{false, not}
use mathlib.Core.List.{List, [], ◌∷◌, map}
use mathlib.Core.Logic.{◌≢◌}
use mathlib.Core.Path.{◌≡◌, sym, ap, ◌∙◌}
use Prim.Native.Nat.{ℕ, zero, suc, ◌<◌, zero-le, suc-le-suc}
use native.Mathlib.Nat.{not-suc-le-zero, le_of_suc-le-suc}
use native.Mathlib.Omega.{arith}
use lib.Dec.{leb}
use lib.ListN.{length, get_or, length-map, get_or-map}
use borrow.Author.Tests.{le-leb}
use Rattle.basis.proofs.Lists.{◌&◌, each_at, at_each}
use Rattle.basis.specs.Answers.{Passes, first_refusal}
use Rattle.basis.specs.Bytes.{number_at, starts_with}
use Rattle.basis.proofs.Answers.{passed-at-all, passes-each, if_passed}
use Rattle.basis.proofs.Bools.{clash, true-and, or_false, false_or, not_both}
use Rattle.meaning.specs.Register.{Source, register_tag, register_layout, year_of, is_year, source_count, most_sources, line_count, most_lines, name_bytes, most_name_bytes, sources_at, lines_at, names_at, whole_length, header_tests, source_at, sources_of, line_start, name_start, misplaced, unsound, wrong_source, source_test, rest_test, repeats, repeat_test, register_tests}
use Rattle.meaning.proofs.Registers.{right-register}
use Rattle.meaning.proofs.Sources.{placed as standing, no_source, source_number, repeats-some, some-repeats}
use Rattle.demands.specs.Valid.{Distinct, LaidRight}
use Rattle.basis.proofs.Rows.{starts_tag, taken_starts}
use Rattle.demands.proofs.Compared.{equal_passes, within-passes, both_equal_pass}
use Rattle.demands.proofs.Figures.{lines_before_lem, names_before_lem, standing_placed, placed_standing, not-misplaced}

-- different keys, by index
pub distinct_lt : {A : Type 0} (key : A → ℕ) (d : A) (xs : List A) → Distinct key xs → (i j : ℕ) → j < i → i < length xs → key (get_or xs j d) ≢ key (get_or xs i d)
distinct_lt key d [] h i j l m = absurd (not-suc-le-zero m)
distinct_lt key d (x ∷ xs) h zero j l m = absurd (not-suc-le-zero l)
distinct_lt key d (x ∷ xs) h (suc i) zero l m = each_at (λ y. key x ≢ key y) xs d h.0 i (le_of_suc-le-suc m)
distinct_lt key d (x ∷ xs) h (suc i) (suc j) l m = distinct_lt key d xs h.1 i j (le_of_suc-le-suc l) (le_of_suc-le-suc m)

pub lt_distinct : {A : Type 0} (key : A → ℕ) (d : A) (xs : List A) → ((i j : ℕ) → j < i → i < length xs → key (get_or xs j d) ≢ key (get_or xs i d)) → Distinct key xs
lt_distinct key d [] h = tt
lt_distinct key d (x ∷ xs) h = (
  at_each (λ y. key x ≢ key y) xs d (λ i l. h (suc i) 0 (suc-le-suc zero-le) (suc-le-suc l)),
  lt_distinct key d xs (λ i j l m. h (suc i) (suc j) (suc-le-suc l) (suc-le-suc m)),
)

-- no number is repeated exactly if the numbers are different
not_repeated : (ss : List Source) → repeat_test ss ≡ Passes → Distinct source_number ss
unfolding repeat_test
not_repeated ss e =
    let ns = map source_number ss in
    let q : length ns ≡ length ss = length-map ss source_number in
    let f = (passed-at-all 4 (repeats ns) (length ns)).0 e in
    lt_distinct source_number no_source ss
    (λ i j l m r. clash (some-repeats ns i j (omega arith) l (get_or-map source_number ss j no_source ∙ r ∙ sym (get_or-map source_number ss i no_source))) (f i (omega arith)))

repeated_not : (ss : List Source) → Distinct source_number ss → repeat_test ss ≡ Passes
unfolding repeat_test
repeated_not ss d =
    let ns = map source_number ss in
    let q : length ns ≡ length ss = length-map ss source_number in
    (passed-at-all 4 (repeats ns) (length ns)).1
    (λ i l. not_both (repeats ns i) (λ t. let r = repeats-some ns i l t in
    distinct_lt source_number no_source ss d i r.0 r.1 (omega arith) (sym (get_or-map source_number ss r.0 no_source) ∙ r.2 ∙ get_or-map source_number ss i no_source)))

-- what passing 1 to 4 says
pub record Passed (b : List ℕ) : Type 0 where
  pub laid : LaidRight b
  pub sound : (i : ℕ) → i < source_count b → unsound (source_at b i) ≡ false
  pub once : Distinct source_number (sources_of b)

pub passed : (b : List ℕ) → first_refusal (register_tests b) ≡ Passes → Passed b
unfolding wrong_source
passed b e =
    let r = right-register b e in
    let h = r.header in
    record {
      laid =
          record {
            long = r.long;
            tag = starts_tag register_tag b (omega arith) h.tag;
            layout = h.layout;
            year = h.year;
            sources = h.sources;
            lines = h.lines;
            names = h.names;
            at_sources = h.at_sources;
            at_lines = h.at_lines;
            at_names = h.at_names;
            whole = h.whole;
            filled = h.filled;
            placed = λ i l. standing_placed b i (standing b i (or_false (misplaced b i) (unsound (source_at b i)) (r.each i l)).0);
            last_line = sym (lines_before_lem b (source_count b)) ∙ r.last_line;
            last_name = sym (names_before_lem b (source_count b)) ∙ r.last_name;
          };
      sound = λ i l. (or_false (misplaced b i) (unsound (source_at b i)) (r.each i l)).1;
      once = not_repeated (sources_of b) r.once;
    }

-- and what makes it pass
pub passing : (b : List ℕ) → Passed b → first_refusal (register_tests b) ≡ Passes
unfolding register_tests header_tests source_test rest_test wrong_source
passing b h =
    let l = h.laid in
    let n = source_count b in
    let whole = whole_length n (line_count b) (name_bytes b) in
    passes-each (register_tests b)
    (within-passes (length b) sources_at 1 0 l.long
    & if_passed (not (starts_with register_tag b)) 2 0 (ap not (taken_starts register_tag b l.tag))
    & equal_passes (number_at 2 b 4) register_layout 2 4 l.layout
    & if_passed (not (is_year (year_of b))) 2 6 (ap not (true-and (leb 1990 (year_of b)) (leb (year_of b) 2100) (le-leb _ _ l.year.0) (le-leb _ _ l.year.1)))
    & within-passes most_sources n 2 8 l.sources
    & within-passes most_lines (line_count b) 2 10 l.lines
    & within-passes most_name_bytes (name_bytes b) 2 12 l.names
    & equal_passes (number_at 4 b 16) sources_at 2 16 l.at_sources
    & equal_passes (number_at 4 b 20) (lines_at n) 2 20 l.at_lines
    & equal_passes (number_at 4 b 24) (names_at n (line_count b)) 2 24 l.at_names
    & both_equal_pass (number_at 4 b 28) whole (length b) whole 2 28 l.whole l.filled
    & (passed-at-all 3 (wrong_source b) n).1
    (λ i m. false_or (misplaced b i) (unsound (source_at b i)) (not-misplaced b i (placed_standing b i (l.placed i m))) (h.sound i m))
    & both_equal_pass (line_start b n) (line_count b) (name_start b n) (name_bytes b) 3 n (lines_before_lem b n ∙ l.last_line) (names_before_lem b n ∙ l.last_name)
    & repeated_not (sources_of b) h.once
    & tt)
