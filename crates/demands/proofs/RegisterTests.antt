-- The tests 1 to 4 of a register decide their rows. Assumes nothing.
use mathlib.Core.Bool.{Bool, true, false, ◌&&◌, not}
use mathlib.Core.List.{List, [], ◌∷◌}
use mathlib.Core.Logic.{◌⊎◌, inl, inr, ⊎_elim, ◌≢◌}
use mathlib.Core.Path.{◌≡◌, refl, sym, ◌∙◌}
use Prim.Native.Nat.{ℕ, ◌<◌}
use native.Mathlib.Omega.{arith}
use lib.Dec.{ltb, leb}
use lib.ListN.{length, take}
use borrow.Author.Tests.{ltb-true, leb-false, lt-ltb, lt-leb, not-true, not-false}
use Rattle.basis.specs.Bytes.{number_at, ascii, starts_with}
use Rattle.basis.specs.Answers.{refuse_if, refuse_at_first}
use Rattle.basis.proofs.Bools.{clash, and-true}
use Rattle.meaning.specs.Register.{register_tag, register_layout, year_of, is_year, source_count, most_sources, line_count, most_lines, name_bytes, most_name_bytes, sources_at, lines_at, names_at, whole_length, header_tests, sources_of, wrong_source, source_test, rest_test, repeats, repeat_test, register_tests}
use Rattle.meaning.proofs.Registers.{right_header}
use Rattle.meaning.proofs.Sources.{source_numbers, length-numbers, number-at, repeats-some, some-repeats}
use Rattle.demands.specs.Exactly.{at, at_smallest, with_number}
use Rattle.demands.specs.Refusals.{header_rows, WrongSource, Repeated, register_rows}
use Rattle.basis.proofs.Rows.{starts_tag, taken_starts}
use Rattle.demands.specs.Fields.{lines_before, names_before}
use Rattle.demands.proofs.Figures.{lines_before_lem, names_before_lem}
use Rattle.demands.proofs.WrongSource.{wrong_then, then_wrong}
use Rattle.demands.proofs.Compared.{decide_is, decide_above, decide_either}
use Rattle.demands.proofs.Exactly.{◌then◌, Decides, DecideAll, decide_if, decide_first, decide_append}

year_decides : (y : ℕ) → Decides (refuse_if (not (is_year y)) 2 6) (at 2 6 ((y < 1990) ⊎ (2100 < y)))
year_decides y =
    decide_if (not (is_year y)) 2 6 ((y < 1990) ⊎ (2100 < y))
    (λ e. out (leb 1990 y) refl (leb y 2100) refl (not-true (is_year y) e))
    (λ e. let h = and-true (leb 1990 y) (leb y 2100) (not-false (is_year y) e) in
    ⊎_elim (λ l. clash h.0 (lt-leb 1990 y l)) (λ l. clash h.1 (lt-leb y 2100 l)))
  where
    out : (a : Bool) → leb 1990 y ≡ a → (b : Bool) → leb y 2100 ≡ b → a && b ≡ false → (y < 1990) ⊎ (2100 < y)
    out true p true q e = absurd (clash refl e)
    out true p false q e = inr (leb-false y 2100 q)
    out false p b q e = inl (leb-false 1990 y p)

pub header_decides : (b : List ℕ) → DecideAll (header_tests b) (header_rows b)
unfolding header_tests
header_decides b =
    let n = source_count b in
    let m = line_count b in
    let whole = whole_length n m (name_bytes b) in
    decide_if (not (starts_with register_tag b)) 2 0 (take 4 b ≢ ascii "GREG")
    (λ e f. clash (taken_starts register_tag b f) (not-true (starts_with register_tag b) e))
    (λ e f. f (starts_tag register_tag b (omega arith) (not-false (starts_with register_tag b) e)))
    then decide_is (number_at 2 b 4) register_layout 2 4
    then year_decides (year_of b)
    then decide_above most_sources n 2 8
    then decide_above most_lines m 2 10
    then decide_above most_name_bytes (name_bytes b) 2 12
    then decide_is (number_at 4 b 16) sources_at 2 16
    then decide_is (number_at 4 b 20) (lines_at n) 2 20
    then decide_is (number_at 4 b 24) (names_at n m) 2 24
    then decide_either (number_at 4 b 28) whole (length b) whole 2 28
    then tt

-- a test that refuses with one number at the first index that is wrong
pub decide_at-first : (number : ℕ) (test : ℕ → Bool) (count : ℕ) (W : ℕ → Type 0) → ((i : ℕ) → i < count → test i ≡ true → W i)
    → ((i : ℕ) → i < count → W i → test i ≡ true)
    → Decides (refuse_at_first number test count) (at_smallest count (with_number number W))
unfolding refuse_at_first
decide_at-first number test count W right only =
    decide_first test count (λ i. number) (with_number number W) (λ i l e. (refl, right i l e)) (λ i n l w. (only i l w.1, w.0))

source_decides : (b : List ℕ) → length b ≡ whole_length (source_count b) (line_count b) (name_bytes b)
    → Decides (source_test b) (at_smallest (source_count b) (with_number 3 (WrongSource b)))
unfolding source_test
source_decides b long =
    decide_at-first 3 (wrong_source b) (source_count b) (WrongSource b) (λ i l. wrong_then b i long) (λ i l. then_wrong b i long)

rest_decides : (b : List ℕ)
    → Decides (rest_test b) (at 3 (source_count b) ((lines_before b (source_count b) ≢ line_count b) ⊎ (names_before b (source_count b) ≢ name_bytes b)))
unfolding rest_test
rest_decides b =
    rw (lines_before_lem b (source_count b), names_before_lem b (source_count b))
    (decide_either (lines_before b (source_count b)) (line_count b) (names_before b (source_count b)) (name_bytes b) 3 (source_count b))

repeat_decides : (b : List ℕ) → Decides (repeat_test (sources_of b)) (at_smallest (source_count b) (with_number 4 (Repeated b)))
unfolding repeat_test
repeat_decides b =
    let ns = source_numbers b in
    let e = length-numbers b in
    rw e
    (decide_at-first 4 (repeats ns) (source_count b) (Repeated b)
    (λ i l t. let r = repeats-some ns i (omega arith) t in
    (r.0, r.1, sym (number-at b r.0 (omega (arith, r.1))) ∙ r.2 ∙ number-at b i l))
    (λ i l r. some-repeats ns i r.0 (omega arith) r.1 (number-at b r.0 (omega (arith, r.1)) ∙ r.2 ∙ sym (number-at b i l))))

pub register_decides : (b : List ℕ) → DecideAll (register_tests b) (register_rows b)
unfolding register_tests
register_decides b =
    decide_if (ltb (length b) sources_at) 1 0 (length b < sources_at) (ltb-true (length b) sources_at) (λ e l. clash (lt-ltb (length b) sources_at l) e)
    then decide_append (header_tests b) (source_test b ∷ rest_test b ∷ repeat_test (sources_of b) ∷ []) (header_rows b) _ (header_decides b)
    (λ h. source_decides b (right_header b h).filled then rest_decides b then repeat_decides b then tt)
