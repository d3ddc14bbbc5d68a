-- What a register that passes says: its header, field by field, and tests 1 to 4 together. Assumes nothing.
use mathlib.Core.Bool.{true, false, not}
use mathlib.Core.List.{List, [], ◌∷◌}
use mathlib.Core.Path.{◌≡◌}
use Prim.Native.Nat.{ℕ, ◌≤◌, ◌<◌}
use lib.Dec.{eqb}
use lib.ListN.{length}
use borrow.Author.Tests.{ltb-false, leb-true, eqb-true, not-false}
use Rattle.basis.specs.Answers.{Passes, refuse_if, first_refusal}
use Rattle.basis.specs.Bytes.{number_at, starts_with}
use Rattle.basis.proofs.Answers.{each-passes, passed_append, passed_if, passed-at-all}
use Rattle.basis.proofs.Bools.{and-true, or_false}
use Rattle.meaning.specs.Register.{register_tag, register_layout, year_of, source_count, most_sources, line_count, most_lines, name_bytes, most_name_bytes, sources_at, lines_at, names_at, whole_length, length_test, header_tests, sources_of, line_start, name_start, wrong_source, source_test, rest_test, repeat_test, register_tests}

-- a header that passes
pub record RightHeader (b : List ℕ) : Type 0 where
  pub tag : starts_with register_tag b ≡ true
  pub layout : number_at 2 b 4 ≡ register_layout
  pub year : (1990 ≤ year_of b) × (year_of b ≤ 2100)
  pub sources : source_count b ≤ most_sources
  pub lines : line_count b ≤ most_lines
  pub names : name_bytes b ≤ most_name_bytes
  pub at_sources : number_at 4 b 16 ≡ sources_at
  pub at_lines : number_at 4 b 20 ≡ lines_at (source_count b)
  pub at_names : number_at 4 b 24 ≡ names_at (source_count b) (line_count b)
  pub whole : number_at 4 b 28 ≡ whole_length (source_count b) (line_count b) (name_bytes b)
  pub filled : length b ≡ whole_length (source_count b) (line_count b) (name_bytes b)

same : (a b n p : ℕ) → refuse_if (not (eqb a b)) n p ≡ Passes → a ≡ b
same a b n p e = eqb-true a b (not-false (eqb a b) (passed_if (not (eqb a b)) n p e))

pub right_header : (b : List ℕ) → first_refusal (header_tests b) ≡ Passes → RightHeader b
unfolding header_tests
right_header b e =
    let h = each-passes (header_tests b) e in
    let y = and-true _ _ (not-false _ (passed_if _ 2 6 h.1.1.0)) in
    let w = or_false _ _ (passed_if _ 2 28 h.1.1.1.1.1.1.1.1.1.0) in
    record {
      tag = not-false _ (passed_if _ 2 0 h.0);
      layout = same _ _ 2 4 h.1.0;
      year = (leb-true _ _ y.0, leb-true _ _ y.1);
      sources = ltb-false _ _ (passed_if _ 2 8 h.1.1.1.0);
      lines = ltb-false _ _ (passed_if _ 2 10 h.1.1.1.1.0);
      names = ltb-false _ _ (passed_if _ 2 12 h.1.1.1.1.1.0);
      at_sources = same _ _ 2 16 h.1.1.1.1.1.1.0;
      at_lines = same _ _ 2 20 h.1.1.1.1.1.1.1.0;
      at_names = same _ _ 2 24 h.1.1.1.1.1.1.1.1.0;
      whole = eqb-true _ _ (not-false _ w.0);
      filled = eqb-true _ _ (not-false _ w.1);
    }

-- a register that passes 1 to 4
pub record RightRegister (b : List ℕ) : Type 0 where
  pub long : sources_at ≤ length b
  pub header : RightHeader b
  pub each : (i : ℕ) → i < source_count b → wrong_source b i ≡ false
  pub last_line : line_start b (source_count b) ≡ line_count b
  pub last_name : name_start b (source_count b) ≡ name_bytes b
  pub once : repeat_test (sources_of b) ≡ Passes

pub right-register : (b : List ℕ) → first_refusal (register_tests b) ≡ Passes → RightRegister b
unfolding register_tests source_test rest_test
right-register b e =
    let back = source_test b ∷ rest_test b ∷ repeat_test (sources_of b) ∷ [] in
    let p = passed_append (length_test b ∷ header_tests b) back e in
    let q = passed_append (length_test b ∷ []) (header_tests b) p.0 in
    let t = each-passes back p.1 in
    let r = or_false _ _ (passed_if _ 3 (source_count b) t.1.0) in
    record {
      long = ltb-false _ _ (passed_if _ 1 0 (each-passes (length_test b ∷ []) q.0).0);
      header = right_header b q.1;
      each = (passed-at-all 3 (wrong_source b) (source_count b)).0 t.0;
      last_line = eqb-true _ _ (not-false _ r.0);
      last_name = eqb-true _ _ (not-false _ r.1);
      once = t.1.1.0;
    }
