-- Where document 01 lays the fields of a register and of a report, and document 02 those of a stock card: first byte and width of each, in their own
-- figures. Assumes nothing.
use Rattle.std.specs.Prelude.{List, map, ℕ, zero, suc, ◌+◌, ◌*◌, ◌/◌, length, get_or, drop}
use Rattle.basis.specs.Bytes.{number_at}
use Rattle.basis.specs.Lists.{count_up}
use Rattle.meaning.specs.declared.RawLine.{RawLine}

-- The register's header: year, sources n, lines m, name bytes t
abbrev pub year_in : List ℕ → ℕ
year_in b = number_at 2 b 6

abbrev pub sources_in : List ℕ → ℕ
sources_in b = number_at 2 b 8

abbrev pub lines_in : List ℕ → ℕ
lines_in b = number_at 2 b 10

abbrev pub name_bytes_in : List ℕ → ℕ
name_bytes_in b = number_at 4 b 12

-- "Source entry, 16 bytes: number (4 ..), method and parameter (1 each ..), line count (2 ..), first line (2), name length (2 ..), name offset in
-- the names (4)", of entry i
abbrev pub entry : List ℕ → ℕ → List ℕ
entry b i = drop (32 + 16 * i) b

abbrev pub number : List ℕ → ℕ → ℕ
number b i = number_at 4 (entry b i) 0

abbrev pub method : List ℕ → ℕ → ℕ
method b i = number_at 1 (entry b i) 4

abbrev pub parameter : List ℕ → ℕ → ℕ
parameter b i = number_at 1 (entry b i) 5

abbrev pub line_count : List ℕ → ℕ → ℕ
line_count b i = number_at 2 (entry b i) 6

abbrev pub first_line : List ℕ → ℕ → ℕ
first_line b i = number_at 2 (entry b i) 8

abbrev pub name_length : List ℕ → ℕ → ℕ
name_length b i = number_at 2 (entry b i) 10

abbrev pub name_offset : List ℕ → ℕ → ℕ
name_offset b i = number_at 4 (entry b i) 12

-- where the lines and the names of the entries before entry i end
abbrev pub lines_before : List ℕ → ℕ → ℕ
lines_before b zero = 0
lines_before b (suc i) = first_line b i + line_count b i

abbrev pub names_before : List ℕ → ℕ → ℕ
names_before b zero = 0
names_before b (suc i) = name_offset b i + name_length b i

-- where the name of entry i begins in the register, and its byte k
abbrev pub name_at : List ℕ → ℕ → ℕ
name_at b i = 32 + 16 * sources_in b + 20 * lines_in b + name_offset b i

abbrev pub name_byte : List ℕ → ℕ → ℕ → ℕ
name_byte b i k = get_or b (name_at b i + k) 0

-- "Line, 20 bytes: kind (1), unit (1), code (2), A (4), B (4), quantity Q (8)", line j of the table, and the lines of entry i
abbrev pub line_at : List ℕ → ℕ → RawLine
line_at b j =
    let r = drop (32 + 16 * sources_in b + 20 * j) b in
    record { kind = number_at 1 r 0; unit = number_at 1 r 1; code = number_at 2 r 2; a = number_at 4 r 4; b = number_at 4 r 8; q = number_at 8 r 12 }

abbrev pub lines_of : List ℕ → ℕ → List RawLine
lines_of b i = map (line_at b) (count_up (first_line b i) (line_count b i))

-- The report's header: year and count; and the number of its entry i, which has 40 bytes
abbrev pub report_year : List ℕ → ℕ
report_year b = number_at 2 b 6

abbrev pub entries_in : List ℕ → ℕ
entries_in b = number_at 2 b 8

abbrev pub report_entry : List ℕ → ℕ → List ℕ
report_entry b i = drop (56 + 40 * i) b

abbrev pub report_number : List ℕ → ℕ → ℕ
report_number b i = number_at 4 (report_entry b i) 0

-- Stock cards of 32 bytes: "received less dispatched, plus opening, less closing stock. Entries are 8-byte numbers in that order", of card i
abbrev pub cards_in : List ℕ → ℕ
cards_in b = length b / 32

abbrev pub received : List ℕ → ℕ → ℕ
received b i = number_at 8 b (32 * i)

abbrev pub dispatched : List ℕ → ℕ → ℕ
dispatched b i = number_at 8 b (32 * i + 8)

abbrev pub opening : List ℕ → ℕ → ℕ
opening b i = number_at 8 b (32 * i + 16)

abbrev pub closing : List ℕ → ℕ → ℕ
closing b i = number_at 8 b (32 * i + 24)
