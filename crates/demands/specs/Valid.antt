-- What a report and a register must be, field by field, in document 01's own figures. Assumes nothing.
use Rattle.std.specs.Prelude.{List, [], ◌∷◌, map, ◌≢◌, ◌≡◌, ℕ, ◌+◌, ◌*◌, ◌≤◌, ◌<◌, ◌^◌, length, get_or, take}
use Rattle.basis.specs.Bytes.{number_at, Bytes}
use Rattle.basis.specs.Lists.{Each, sum, joined}
use Rattle.meaning.specs.declared.RawLine.{RawLine}
use Rattle.meaning.specs.Register.{Source}
use Rattle.meaning.specs.Report.{Entry}
use Rattle.demands.specs.Table.{CO2, CH4, N2O}
use Rattle.demands.specs.Fields.{year_in, sources_in, lines_in, name_bytes_in, line_count, first_line, name_length, name_offset, lines_before, names_before, report_entry}

-- keys that ascend strictly, all above a number
abbrev pub Ascending : {A : Type 0} → (A → ℕ) → ℕ → List A → Type 0
Ascending key n [] = Unit {0}
Ascending key n (x ∷ xs) = (n < key x) × Ascending key (key x) xs

-- no key stands twice
abbrev pub Distinct : {A : Type 0} → (A → ℕ) → List A → Type 0
Distinct key [] = Unit {0}
Distinct key (x ∷ xs) = Each (λ y. key x ≢ key y) xs × Distinct key xs

abbrev pub entry_number : Entry → ℕ
entry_number e = e.number

-- an entry's mass of a gas; "CO2-equivalent is CO2 + 25 CH4 + 298 N2O of the rounded masses"
abbrev pub mass_of : ℕ → Entry → ℕ
mass_of gas e = get_or e.masses gas 0

abbrev pub equivalent_of : Entry → ℕ
equivalent_of e = mass_of CO2 e + 25 * mass_of CH4 e + 298 * mass_of N2O e

-- an entry that a report may have: "number (4)", "methods 1 to 6", three masses, an equivalent "at most 10^15"
pub record Entered (e : Entry) : Type 0 where
  pub number : e.number < 2 ^ 32
  pub method : (1 ≤ e.method) × (e.method ≤ 6)
  pub gases : length e.masses ≡ 3
  pub within : equivalent_of e ≤ 10 ^ 15

-- a year and entries that make a report: "a year in range, n at most 512, strictly ascending numbers that are not zero"
pub record Reportable (year : ℕ) (es : List Entry) : Type 0 where
  pub in_range : (1990 ≤ year) × (year ≤ 2100)
  pub count : length es ≤ 512
  pub order : Ascending entry_number 0 es
  pub each : Each Entered es

-- "number (4), method (1), zero (3), CO2, CH4, N2O, CO2-equivalent (8 each)": an entry at the front of bytes
pub record HoldsEntry (r : List ℕ) (e : Entry) : Type 0 where
  pub number : number_at 4 r 0 ≡ e.number
  pub method : number_at 1 r 4 ≡ e.method
  pub zeros : number_at 3 r 5 ≡ 0
  pub co2 : number_at 8 r 8 ≡ mass_of CO2 e
  pub ch4 : number_at 8 r 16 ≡ mass_of CH4 e
  pub n2o : number_at 8 r 24 ≡ mass_of N2O e
  pub equivalent : number_at 8 r 32 ≡ equivalent_of e

abbrev pub no_entry : Entry
no_entry = record { number = 0; method = 0; masses = [] }

-- "Every report starts with the four bytes GREP. Then: layout 1 (2), year (2), count n (2), zero (2), offset of entries 56 (4), whole length
-- 56 + 40n (4), zero (4), and the totals of CO2, CH4, N2O and CO2-equivalent (8 each). Entries are 40 bytes"; it "fills its lent bytes exactly"
pub record Holds (b : List ℕ) (year : ℕ) (es : List Entry) : Type 0 where
  pub tag : take 4 b ≡ 71 ∷ 82 ∷ 69 ∷ 80 ∷ []
  pub layout : number_at 2 b 4 ≡ 1
  pub of_year : number_at 2 b 6 ≡ year
  pub count : number_at 2 b 8 ≡ length es
  pub zero : number_at 2 b 10 ≡ 0
  pub offset : number_at 4 b 12 ≡ 56
  pub size : number_at 4 b 16 ≡ 56 + 40 * length es
  pub zeros : number_at 4 b 20 ≡ 0
  pub co2 : number_at 8 b 24 ≡ sum (map (mass_of CO2) es)
  pub ch4 : number_at 8 b 32 ≡ sum (map (mass_of CH4) es)
  pub n2o : number_at 8 b 40 ≡ sum (map (mass_of N2O) es)
  pub equivalent : number_at 8 b 48 ≡ sum (map equivalent_of es)
  pub entry : (i : ℕ) → i < length es → HoldsEntry (report_entry b i) (get_or es i no_entry)
  pub filled : length b ≡ 56 + 40 * length es

-- bytes that are the report of a year and entries: there is no other list of bytes with these fields
pub record IsReport (b : List ℕ) (year : ℕ) (es : List Entry) : Type 0 where
  pub bytes : Bytes b
  pub makes : Reportable year es
  pub holds : Holds b year es

-- entry i stands where the entries before it end, and within m and t
pub record Placed (b : List ℕ) (i : ℕ) : Type 0 where
  pub line : first_line b i ≡ lines_before b i
  pub name : name_offset b i ≡ names_before b i
  pub lines : first_line b i + line_count b i ≤ lines_in b
  pub names : name_offset b i + name_length b i ≤ name_bytes_in b

-- A register that is laid right: 1 and 2 have nothing to say, and of 3 nothing that goes by where entries, lines and names stand
pub record LaidRight (b : List ℕ) : Type 0 where
  pub long : 32 ≤ length b
  pub tag : take 4 b ≡ 71 ∷ 82 ∷ 69 ∷ 71 ∷ []
  pub layout : number_at 2 b 4 ≡ 1
  pub year : (1990 ≤ year_in b) × (year_in b ≤ 2100)
  pub sources : sources_in b ≤ 512
  pub lines : lines_in b ≤ 1024
  pub names : name_bytes_in b ≤ 16384
  pub at_sources : number_at 4 b 16 ≡ 32
  pub at_lines : number_at 4 b 20 ≡ 32 + 16 * sources_in b
  pub at_names : number_at 4 b 24 ≡ 32 + 16 * sources_in b + 20 * lines_in b
  pub whole : number_at 4 b 28 ≡ 32 + 16 * sources_in b + 20 * lines_in b + name_bytes_in b
  pub filled : length b ≡ 32 + 16 * sources_in b + 20 * lines_in b + name_bytes_in b
  pub placed : (i : ℕ) → i < sources_in b → Placed b i
  pub last_line : lines_before b (sources_in b) ≡ lines_in b
  pub last_name : names_before b (sources_in b) ≡ name_bytes_in b

-- a line, and a source, whose numbers fit the bytes that a register has for them
pub record LineFits (l : RawLine) : Type 0 where
  pub kind : l.kind < 2 ^ 8
  pub unit : l.unit < 2 ^ 8
  pub code : l.code < 2 ^ 16
  pub a : l.a < 2 ^ 32
  pub b : l.b < 2 ^ 32
  pub q : l.q < 2 ^ 64

pub record SourceFits (s : Source) : Type 0 where
  pub number : s.number < 2 ^ 32
  pub method : s.method < 2 ^ 8
  pub parameter : s.parameter < 2 ^ 8
  pub name : Bytes s.name
  pub lines : Each LineFits s.lines

-- a year and sources that a register has room for
pub record Encodable (year : ℕ) (ss : List Source) : Type 0 where
  pub in_range : (1990 ≤ year) × (year ≤ 2100)
  pub sources : length ss ≤ 512
  pub lines : length (joined (map (λ s. s.lines) ss)) ≤ 1024
  pub names : length (joined (map (λ s. s.name) ss)) ≤ 16384
  pub each : Each SourceFits ss
