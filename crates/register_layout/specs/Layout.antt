-- How a register is laid out: its tests 1 to 3, and what is known of an entry once the header has passed. Assumes nothing.
use Rattle.std.specs.Prelude.{List, [], ◌∷◌, ◌++◌, ◌≡◌, ℕ, ◌+◌, ◌≤◌, length, drop}
use Rattle.basis.specs.Answers.{Verdict}
use Rattle.meaning.specs.Register.{source_count, line_count, names_at, length_test, header_tests, source_test, rest_test, source_entry, name_length_in, name_place, line_start, name_start}
use Rattle.register_header.specs.Header.{HasEntry}

-- the tests 1 to 3, which ask how the register is laid out and what is wrong with a source by itself
unfoldable pub layout_tests : List ℕ → List Verdict
layout_tests b = length_test b ∷ header_tests b ++ (source_test b ∷ rest_test b ∷ [])

-- the name of entry i stands in the bytes lent, as the entry does
pub record HasName (b : List ℕ) (i : ℕ) : Type 0 where
  pub entry : HasEntry b i
  pub within : name_place b i + name_length_in (source_entry b i) ≤ length b

-- the line and the name byte at which entry i has to begin
pub record StartsAt (b : List ℕ) (i line byte : ℕ) : Type 0 where
  pub at_line : line ≡ line_start b i
  pub at_byte : byte ≡ name_start b i

-- the names of all sources, which end the register
abbrev pub all_names : List ℕ → List ℕ
all_names b = drop (names_at (source_count b) (line_count b)) b
