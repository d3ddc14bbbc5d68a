-- What the sources of a register come to, one by one. Assumes nothing.
use Rattle.std.specs.Prelude.{Result, Err, Ok, Bool, cond, not, List, [], ◌∷◌, map, ◌≡◌, ℕ, ◌+◌, ◌*◌, ◌<◌, eqb, length, take, drop}
use Rattle.basis.specs.declared.Refusal.{Refusal}
use Rattle.basis.specs.Answers.{Passes, Refuses, Verdict, first_refusal, passes}
use Rattle.basis.specs.Bytes.{Written}
use Rattle.basis.specs.Lists.{count_up, joined}
use Rattle.basis.specs.First.{first}
use Rattle.register_header.specs.Header.{Headed}
use Rattle.meaning.specs.Register.{Source, lines_at, source_entry, method_in, parameter_in, first_line_in, line_count_in, source_at, source_count, sources_of, register_tests, decoded_lines}
use Rattle.meaning.specs.Report.{entry_of, figures, figure_count}
use Rattle.meaning.specs.Calls.{line_test, mass_test}
use Rattle.mass_sums.specs.Lines.{verdict_from}
use Rattle.mass_source.specs.Source.{Judged, verdict_of, fault_with, figures_with, fault_after, figures_after}

-- a register that tests 1 to 4 have passed
pub record Judgeable (b : List ℕ) : Type 0 where
  pub tests : first_refusal (register_tests b) ≡ Passes
  pub head : Headed b

-- where all lines stand in the bytes, and from which line up to which those of source i go
pub record LinesSpan (b : List ℕ) (base i first end : ℕ) : Type 0 where
  pub stand : base ≡ lines_at (source_count b)
  pub from : first ≡ first_line_in (source_entry b i)
  pub up_to : end ≡ first + line_count_in (source_entry b i)

-- what the lines of source i are answered, by its method and parameter, and whether they are refused
abbrev pub verdict_at : List ℕ → ℕ → Verdict
verdict_at b i = let e = source_entry b i in verdict_from b (method_in e) (parameter_in e) (first_line_in e) (line_count_in e)

abbrev pub refused_at : List ℕ → ℕ → Bool
refused_at b i = not (passes (verdict_at b i))

-- source i: its lines are answered, and where they pass its fault and its figures are those of its sums
pub record ComesAt (b : List ℕ) (i : ℕ) (r : Result Judged Refusal) : Type 0 where
  pub size : length (figures_with r) ≡ figure_count
  pub verdict : verdict_of r ≡ verdict_at b i
  pub fault : fault_with r ≡ fault_after (verdict_of r) (decoded_lines (source_at b i))
  pub figures : figures_with r ≡ figures_after (verdict_of r) (decoded_lines (source_at b i))

-- the first fault waits, with the index of its source
unfoldable pub waited : Verdict → ℕ → ℕ → Verdict
waited (Ok done) fault i = cond (eqb fault 0) Passes (Refuses fault i)
waited (Err refusal) fault i = Err refusal

-- the figures of a source, among those of all sources in the order of the table
abbrev pub Stored : List ℕ → List ℕ → ℕ → Type 0
Stored b kept i = take figure_count (drop (figure_count * i) kept) ≡ figures (entry_of (source_at b i))

-- what is kept of a source whose lines are good, and of the first n sources; a source with a fault has zeros
unfoldable pub kept_of : Source → List ℕ
kept_of s = figures_after Passes (decoded_lines s)

unfoldable pub kept_to : List ℕ → ℕ → List ℕ
kept_to b n = joined (map (λ i. kept_of (source_at b i)) (count_up 0 n))

-- tests 5 to 7; what is kept of the sources before the first whose lines are refused, and behind it what stood there; where the tests pass, the figures of all
pub record AllJudged (b kept₀ : List ℕ) (v : Verdict) (kept : List ℕ) : Type 0 where
  pub verdict : v ≡ first_refusal (line_test (sources_of b) ∷ mass_test (sources_of b) ∷ [])
  pub left : Written kept₀ 0 (kept_to b (first (refused_at b) (source_count b))) kept
  pub stored : v ≡ Passes → (i : ℕ) → i < source_count b → Stored b kept i
