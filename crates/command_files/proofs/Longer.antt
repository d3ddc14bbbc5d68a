-- No register is so long as the room for it, so bytes behind that many do not change what calculation answers. Assumes nothing.
use Rattle.std.specs.Prelude.{Result, Err, Ok}
use mathlib.Core.Bool.{not, ◌||◌}
use mathlib.Core.List.{List, [], ◌∷◌, ◌++◌}
use mathlib.Core.Path.{◌≡◌, refl, sym, ap, ◌∙◌}
use Prim.Native.Nat.{ℕ, ◌+◌, ◌≤◌}
use native.Mathlib.Omega.{arith}
use borrow.Author.Tests.{ltb-false, le-ltb, ne_eqb}
use lib.Dec.{eqb, ltb}
use lib.ListN.{length, take, length-append}
use Rattle.basis.specs.declared.Answer.{Answer}
use Rattle.basis.specs.declared.Refusal.{Refusal}
use Rattle.basis.specs.Answers.{Verdict, Passes, Refuses, Outcome, refuse_if, first_refusal, Gives}
use Rattle.basis.specs.Bytes.{number_at, starts_with}
use Rattle.basis.proofs.Answers.{each-passes, passed_if, if_passed, refused_then}
use Rattle.basis.proofs.Bools.{or_true}
use Rattle.meaning.specs.Register.{register_tag, sources_at, most_sources, most_lines, most_name_bytes, sources_of, source_count, line_count, name_bytes, whole_length, length_test, header_tests, source_test, rest_test, repeat_test, register_tests}
use Rattle.meaning.specs.Calls.{written, line_test, mass_test, calculation_tests, calculated_report, calculated}
use Rattle.meaning.proofs.Calls.{refused-gives}
use Rattle.meaning.proofs.Registers.{right_header}
use Rattle.input_stock_cards.proofs.Parts.{number_in_front}

-- one byte more than the longest register
abbrev pub register_room : ℕ
register_room = whole_length most_sources most_lines most_name_bytes + 1

starts_front : (t xs ys : List ℕ) → length t ≤ length xs → starts_with t (xs ++ ys) ≡ starts_with t xs
unfolding starts_with
starts_front [] xs ys l = refl
starts_front (t ∷ ts) [] ys l = absurd (omega arith)
starts_front (t ∷ ts) (x ∷ xs) ys l = rw (starts_front ts xs ys (omega arith))

-- tests behind equal tests tell only where those pass
same_behind : (ts us vs : List Verdict) → (first_refusal ts ≡ Passes → first_refusal us ≡ first_refusal vs) → first_refusal (ts ++ us) ≡ first_refusal (ts ++ vs)
unfolding first_refusal
same_behind [] us vs h = h refl
same_behind (Ok done ∷ ts) us vs h = same_behind ts us vs h
same_behind (Err refusal ∷ ts) us vs h = refl

-- a header's tests but for that of the whole length, which no such bytes pass
abbrev field_tests : List ℕ → List Verdict
field_tests b = take 9 (header_tests b)

abbrev whole : List ℕ → ℕ
whole b = whole_length (source_count b) (line_count b) (name_bytes b)

abbrev last_test : List ℕ → Verdict
last_test b = refuse_if (not (eqb (number_at 4 b 28) (whole b)) || not (eqb (length b) (whole b))) 2 28

header_parts : (b : List ℕ) → header_tests b ≡ field_tests b ++ (last_test b ∷ [])
unfolding header_tests
header_parts b = refl

last-refused : (b : List ℕ) → register_room ≤ length b → first_refusal (field_tests b) ≡ Passes → last_test b ≡ Refuses 2 28
unfolding header_tests
last-refused b l e =
    let h = each-passes (field_tests b) e in
    let n : source_count b ≤ most_sources = ltb-false _ _ (passed_if _ 2 8 h.1.1.1.0) in
    let m : line_count b ≤ most_lines = ltb-false _ _ (passed_if _ 2 10 h.1.1.1.1.0) in
    let t : name_bytes b ≤ most_name_bytes = ltb-false _ _ (passed_if _ 2 12 h.1.1.1.1.1.0) in
    rw (ne_eqb (length b) (whole b) (λ q. omega arith), or_true (not (eqb (number_at 4 b 28) (whole b))))

refused-tests : (b : List ℕ) {n p : ℕ} → register_room ≤ length b → first_refusal (header_tests b) ≡ Refuses n p → first_refusal (calculation_tests b) ≡ Refuses n p
unfolding register_tests first_refusal
refused-tests b {n} {p} l e =
    let long : length_test b ≡ Passes = if_passed (ltb (length b) sources_at) 1 0 (le-ltb (length b) sources_at (omega arith)) in
    let h : first_refusal (length_test b ∷ header_tests b) ≡ Refuses n p = rw long e in
    refused_then (register_tests b) (line_test (sources_of b) ∷ mass_test (sources_of b) ∷ [])
    (refused_then (length_test b ∷ header_tests b) (source_test b ∷ rest_test b ∷ repeat_test (sources_of b) ∷ []) h)

same_outcome : {o q : Outcome} {a : Answer} {bytes : List ℕ} → Gives o a bytes → Gives q a bytes → o ≡ q
same_outcome g h = λ i. record { answer = (sym g.answers ∙ h.answers) i; left = (sym g.leaves ∙ h.leaves) i }

pub refused_alike : (tests others : List Verdict) (made other buffer : List ℕ) {n p : ℕ} → first_refusal tests ≡ Refuses n p → first_refusal others ≡ Refuses n p
    → written tests made buffer ≡ written others other buffer
refused_alike tests others made other buffer {n} {p} e f =
    let w : Result ℕ Refusal = Err (record { number = n; place = p }) in
    same_outcome (refused-gives tests made buffer w e refl refl) (refused-gives others other buffer w f refl refl)

module _ (xs ys : List ℕ) (l : register_room ≤ length xs) where
  fields_same : field_tests (xs ++ ys) ≡ field_tests xs
  unfolding header_tests
  fields_same =
      let at : (k p : ℕ) → p + k ≤ register_room → number_at k (xs ++ ys) p ≡ number_at k xs p = λ k p q. number_in_front k xs ys p (omega arith) in
      rw (starts_front register_tag xs ys (omega arith), at 2 4 (omega arith), at 2 6 (omega arith), at 2 8 (omega arith), at 2 10 (omega arith), at 4 12 (omega arith), at 4 16 (omega arith), at 4 20 (omega arith), at 4 24 (omega arith))

  passed-same : first_refusal (field_tests xs) ≡ Passes → first_refusal (last_test (xs ++ ys) ∷ []) ≡ first_refusal (last_test xs ∷ [])
  passed-same e =
      let m : register_room ≤ length (xs ++ ys) = omega (arith, length-append xs ys) in
      rw (last-refused xs l e, last-refused (xs ++ ys) m (ap first_refusal fields_same ∙ e))

  header_same : first_refusal (header_tests (xs ++ ys)) ≡ first_refusal (header_tests xs)
  header_same =
      rw (header_parts (xs ++ ys), header_parts xs, fields_same)
      (same_behind (field_tests xs) (last_test (xs ++ ys) ∷ []) (last_test xs ∷ []) passed-same)

  refused-by : (v : Verdict) → first_refusal (header_tests xs) ≡ v → (report : List ℕ) → calculated (xs ++ ys) report ≡ calculated xs report
  unfolding calculated
  refused-by (Ok done) e report = let h = right_header xs e in absurd (omega (arith, h.sources, h.lines, h.names, h.filled))
  refused-by (Err refusal) e report =
      let m : register_room ≤ length (xs ++ ys) = omega (arith, length-append xs ys) in
      refused_alike (calculation_tests (xs ++ ys)) (calculation_tests xs) (calculated_report (xs ++ ys)) (calculated_report xs) report
      (refused-tests (xs ++ ys) m (header_same ∙ e)) (refused-tests xs l e)

  pub calculated-same : (report : List ℕ) → calculated (xs ++ ys) report ≡ calculated xs report
  calculated-same = refused-by (first_refusal (header_tests xs)) refl
