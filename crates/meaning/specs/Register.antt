-- Document 01, "The register": its header, its sources, its lines, its names. Assumes nothing.
use Rattle.std.specs.Prelude.{Bool, not, ◌||◌, List, [], ◌∷◌, ◌++◌, map, ℕ, zero, suc, ◌+◌, ◌*◌, eqb, ltb, length, get_or, take, drop}
use Rattle.basis.specs.Answers.{Verdict, refuse_if, refuse_at_first}
use Rattle.basis.specs.Bytes.{number_at, packed, ascii, starts_with}
use Rattle.basis.specs.Lists.{count_up, any, stands, joined}
use Rattle.meaning.specs.declared.RawLine.{RawLine}
use Rattle.meaning.specs.Methods.{Decoded, within, listed, decoded}

-- a source: "a source is its register number", with its method, its parameter, its name and its lines as they are stated
pub record Source : Type 0 where
  pub number : ℕ
  pub method : ℕ
  pub parameter : ℕ
  pub name : List ℕ
  pub lines : List RawLine

-- The header. "0-3 | tag | GREG"; "4-5 | layout | 1"
abbrev pub register_tag : List ℕ
register_tag = ascii "GREG"

abbrev pub register_layout : ℕ
register_layout = 1

-- "6-7 | year | 1990 to 2100"
abbrev pub year_of : List ℕ → ℕ
year_of b = number_at 2 b 6

abbrev pub is_year : ℕ → Bool
is_year y = within 1990 2100 y

-- "8-9 | sources n | 0 to 512"; "10-11 | lines m | 0 to 1,024"; "12-15 | name bytes t | 0 to 16,384"
abbrev pub source_count : List ℕ → ℕ
source_count b = number_at 2 b 8

abbrev pub most_sources : ℕ
most_sources = 512

abbrev pub line_count : List ℕ → ℕ
line_count b = number_at 2 b 10

abbrev pub most_lines : ℕ
most_lines = 1024

abbrev pub name_bytes : List ℕ → ℕ
name_bytes b = number_at 4 b 12

abbrev pub most_name_bytes : ℕ
most_name_bytes = 16384

-- "Source entry, 16 bytes"; "Line, 20 bytes"
abbrev pub source_length : ℕ
source_length = 16

abbrev pub line_length : ℕ
line_length = 20

-- where the sources, the lines and the names begin, and the whole length, of n sources, m lines and t name bytes: "32"; "32 + 16n";
-- "32 + 16n + 20m"; "32 + 16n + 20m + t"
abbrev pub sources_at : ℕ
sources_at = 32

abbrev pub lines_at : ℕ → ℕ
lines_at n = sources_at + source_length * n

abbrev pub names_at : ℕ → ℕ → ℕ
names_at n m = lines_at n + line_length * m

abbrev pub whole_length : ℕ → ℕ → ℕ → ℕ
whole_length n m t = names_at n m + t

-- "1 | register under 32 bytes | 0"
abbrev pub length_test : List ℕ → Verdict
length_test b = refuse_if (ltb (length b) sources_at) 1 0

-- "2 | a header field is wrong | its first byte", field by field, in the header's order
unfoldable pub header_tests : List ℕ → List Verdict
header_tests b =
    let n = source_count b in
    let m = line_count b in
    let t = name_bytes b in
    refuse_if (not (starts_with register_tag b)) 2 0
    ∷ refuse_if (not (eqb (number_at 2 b 4) register_layout)) 2 4
    ∷ refuse_if (not (is_year (year_of b))) 2 6
    ∷ refuse_if (ltb most_sources n) 2 8
    ∷ refuse_if (ltb most_lines m) 2 10
    ∷ refuse_if (ltb most_name_bytes t) 2 12
    ∷ refuse_if (not (eqb (number_at 4 b 16) sources_at)) 2 16
    ∷ refuse_if (not (eqb (number_at 4 b 20) (lines_at n))) 2 20
    ∷ refuse_if (not (eqb (number_at 4 b 24) (names_at n m))) 2 24
    ∷ refuse_if (not (eqb (number_at 4 b 28) (whole_length n m t)) || not (eqb (length b) (whole_length n m t))) 2 28
    ∷ []

-- a line: "kind (1), unit (1), code (2), A (4), B (4), quantity Q (8)", read off the front of bytes
abbrev pub line_of : List ℕ → RawLine
line_of r =
    record { kind = number_at 1 r 0; unit = number_at 1 r 1; code = number_at 2 r 2; a = number_at 4 r 4; b = number_at 4 r 8; q = number_at 8 r 12 }

abbrev pub line_at : List ℕ → ℕ → RawLine
line_at b j = line_of (drop (lines_at (source_count b) + line_length * j) b)

-- a source entry: "number (4 ..), method and parameter (1 each ..), line count (2 ..), first line (2), name length (2 ..), name offset
-- in the names (4)", each read off the front of an entry
abbrev pub source_entry : List ℕ → ℕ → List ℕ
source_entry b i = drop (sources_at + source_length * i) b

abbrev pub number_in : List ℕ → ℕ
number_in r = number_at 4 r 0

abbrev pub method_in : List ℕ → ℕ
method_in r = number_at 1 r 4

abbrev pub parameter_in : List ℕ → ℕ
parameter_in r = number_at 1 r 5

abbrev pub line_count_in : List ℕ → ℕ
line_count_in r = number_at 2 r 6

abbrev pub first_line_in : List ℕ → ℕ
first_line_in r = number_at 2 r 8

abbrev pub name_length_in : List ℕ → ℕ
name_length_in r = number_at 2 r 10

abbrev pub name_offset_in : List ℕ → ℕ
name_offset_in r = number_at 4 r 12

-- where an entry's name begins in the register
abbrev pub name_place : List ℕ → ℕ → ℕ
name_place b i = names_at (source_count b) (line_count b) + name_offset_in (source_entry b i)

-- the source of entry i, with its name and its lines
unfoldable pub source_at : List ℕ → ℕ → Source
source_at b i =
    let r = source_entry b i in
    record {
      number = number_in r;
      method = method_in r;
      parameter = parameter_in r;
      name = take (name_length_in r) (drop (name_place b i) b);
      lines = map (line_at b) (count_up (first_line_in r) (line_count_in r));
    }

unfoldable pub sources_of : List ℕ → List Source
sources_of b = map (source_at b) (count_up 0 (source_count b))

-- "the first source begins at line 0 and name byte 0, each next where the one before ended"
unfoldable pub line_start : List ℕ → ℕ → ℕ
line_start b zero = 0
line_start b (suc i) = first_line_in (source_entry b i) + line_count_in (source_entry b i)

unfoldable pub name_start : List ℕ → ℕ → ℕ
name_start b zero = 0
name_start b (suc i) = name_offset_in (source_entry b i) + name_length_in (source_entry b i)

-- an entry whose lines or name begin elsewhere, or "run past m or t"
unfoldable pub misplaced : List ℕ → ℕ → Bool
misplaced b i =
    let r = source_entry b i in
    not (eqb (first_line_in r) (line_start b i))
    || not (eqb (name_offset_in r) (name_start b i))
    || ltb (line_count b) (first_line_in r + line_count_in r)
    || ltb (name_bytes b) (name_offset_in r + name_length_in r)

-- "A name byte is none below 32 and not 127"
abbrev pub bad_name_byte : ℕ → Bool
bad_name_byte c = ltb c 32 || eqb c 127

-- what is asked of a source itself: number "not zero", "a pair listed", line count "at least 1", name length "1 to 64", its name's bytes
unfoldable pub unsound : Source → Bool
unsound s =
    eqb s.number 0
    || not (listed s.method s.parameter)
    || eqb (length s.lines) 0
    || not (within 1 64 (length s.name))
    || any bad_name_byte s.name

-- "3 | a source entry or its name is wrong .. | first such index"
unfoldable pub wrong_source : List ℕ → ℕ → Bool
wrong_source b i = misplaced b i || unsound (source_at b i)

unfoldable pub source_test : List ℕ → Verdict
source_test b = refuse_at_first 3 (wrong_source b) (source_count b)

-- "3 | .. lines or name bytes left over | .. n": "the last ends at m and t"
unfoldable pub rest_test : List ℕ → Verdict
rest_test b =
    let n = source_count b in
    refuse_if (not (eqb (line_start b n) (line_count b)) || not (eqb (name_start b n) (name_bytes b))) 3 n

-- "4 | a number stood earlier in the table | index of the first such later entry"
unfoldable pub repeats : List ℕ → ℕ → Bool
repeats ns i = stands (get_or ns i 0) (take i ns)

unfoldable pub repeat_test : List Source → Verdict
repeat_test ss = let ns = map (λ s. s.number) ss in refuse_at_first 4 (repeats ns) (length ns)

-- the tests 1 to 4, which calculation and both lookups share
unfoldable pub register_tests : List ℕ → List Verdict
register_tests b = length_test b ∷ header_tests b ++ (source_test b ∷ rest_test b ∷ repeat_test (sources_of b) ∷ [])

-- a source's lines, each read by its method and parameter
unfoldable pub decoded_lines : Source → List Decoded
decoded_lines s = map (decoded s.method s.parameter) s.lines

-- The bytes of a year and a list of sources
unfoldable pub line_bytes : RawLine → List ℕ
line_bytes l = packed (1 ∷ 1 ∷ 2 ∷ 4 ∷ 4 ∷ 8 ∷ []) (l.kind ∷ l.unit ∷ l.code ∷ l.a ∷ l.b ∷ l.q ∷ [])

-- the entries of sources whose lines and names begin at a line and at a name byte
unfoldable pub source_entries : ℕ → ℕ → List Source → List ℕ
source_entries line byte [] = []
source_entries line byte (s ∷ ss) =
    let m = length s.lines in
    let t = length s.name in
    packed (4 ∷ 1 ∷ 1 ∷ 2 ∷ 2 ∷ 2 ∷ 4 ∷ []) (s.number ∷ s.method ∷ s.parameter ∷ m ∷ line ∷ t ∷ byte ∷ [])
    ++ source_entries (line + m) (byte + t) ss

unfoldable pub register_header : ℕ → ℕ → ℕ → ℕ → List ℕ
register_header year n m t =
    register_tag
    ++ packed (2 ∷ 2 ∷ 2 ∷ 2 ∷ 4 ∷ 4 ∷ 4 ∷ 4 ∷ 4 ∷ [])
    (register_layout ∷ year ∷ n ∷ m ∷ t ∷ sources_at ∷ lines_at n ∷ names_at n m ∷ whole_length n m t ∷ [])

unfoldable pub encode : ℕ → List Source → List ℕ
encode year ss =
    let lines = joined (map (λ s. s.lines) ss) in
    let names = joined (map (λ s. s.name) ss) in
    register_header year (length ss) (length lines) (length names) ++ source_entries 0 0 ss ++ joined (map line_bytes lines) ++ names
