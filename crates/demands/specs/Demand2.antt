-- "2. An accepted register gives the masses that TKP 17.09-06-2022, order 371 and, for flares, our own rule define, as document 01 condenses
-- them, to the nearest gram. Report, combination and removal are fixed to the byte. Each refusal is given exactly when the table says."
-- Assumes nothing.
use Rattle.std.specs.Prelude.{true, ◌↔◌, ◌≢◌, ◌≡◌, ℕ, ◌+◌, ◌*◌, ◌-◌, ◌^◌, ◌≤◌, ◌<◌, length, get_or, take, drop}
use mathlib.Core.List.{List, [], ◌∷◌, ◌++◌, map, Perm}
use Rattle.basis.specs.Bytes.{number_at, Bytes}
use Rattle.basis.specs.Lists.{sum}
use Rattle.meaning.specs.declared.Part.{Part}
use Rattle.meaning.specs.declared.Found.{Found}
use Rattle.meaning.specs.Masses.{rounded}
use Rattle.meaning.specs.Register.{Source, sources_of, encode}
use Rattle.meaning.specs.Report.{Entry, entry_of, report_bytes, entries_of, well_formed}
use Rattle.meaning.specs.Calls.{calculated}
use Rattle.demands.specs.Table.{CO2, CH4, N2O, adds, takes, FitAll, total, Nearest}
use Rattle.demands.specs.Fields.{year_in, sources_in, number, method, parameter, name_length, name_at, lines_of, report_year, entries_in, cards_in, received, dispatched, opening, closing}
use Rattle.demands.specs.Valid.{mass_of, equivalent_of, Entered, Reportable, IsReport, LaidRight, Encodable}
use Rattle.demands.specs.Exactly.{FirstOf}
use Rattle.demands.specs.Refusals.{register_rows}
use Rattle.demands.specs.Trees.{Accepted}

-- The entry that document 01 defines for a source: its number and method; rows of the method table that fit its lines; and the nearest whole
-- grams of what the rows add less what they take, over 10^10 for CO2, 10^7 for CH4 and 10^4 for N2O. No more is taken than is added.
pub record Defined (s : Source) (e : Entry) : Type 0 where
  pub number : e.number ≡ s.number
  pub method : e.method ≡ s.method
  pub rows : List ℕ
  pub fit : FitAll s.method s.parameter rows s.lines
  pub not_below : (gas : ℕ) → total takes gas s.parameter rows s.lines ≤ total adds gas s.parameter rows s.lines
  pub only_cO2 : (gas : ℕ) → gas ≢ CO2 → total takes gas s.parameter rows s.lines ≡ 0
  pub co2 : Nearest (total adds CO2 s.parameter rows s.lines - total takes CO2 s.parameter rows s.lines) (10 ^ 10) (mass_of CO2 e)
  pub ch4 : Nearest (total adds CH4 s.parameter rows s.lines) (10 ^ 7) (mass_of CH4 e)
  pub n2o : Nearest (total adds N2O s.parameter rows s.lines) (10 ^ 4) (mass_of N2O e)
  pub entered : Entered e

-- entries that it defines for sources, one for each, in the order of the sources
abbrev pub DefinedAll : List Source → List Entry → Type 0
DefinedAll [] [] = Unit {0}
DefinedAll [] (e ∷ es) = ⊥
DefinedAll (s ∷ ss) [] = ⊥
DefinedAll (s ∷ ss) (e ∷ es) = Defined s e × DefinedAll ss es

-- a source is what entry i of a register states
pub record States (b : List ℕ) (i : ℕ) (s : Source) : Type 0 where
  pub of_number : s.number ≡ number b i
  pub of_method : s.method ≡ method b i
  pub of_parameter : s.parameter ≡ parameter b i
  pub name : s.name ≡ take (name_length b i) (drop (name_at b i) b)
  pub lines : s.lines ≡ lines_of b i

-- sources are what the entries of a register state
pub record Stated (b : List ℕ) (ss : List Source) : Type 0 where
  pub count : length ss ≡ sources_in b
  pub each : (i : ℕ) (s : Source) → i < sources_in b → States b i (get_or ss i s)

-- bytes are the report of a register: it has one entry for each source that the register states, and no other; what is summed over the entries is
-- summed over the sources, and fits 64 bits
pub record ReportOf (register bytes : List ℕ) : Type 0 where
  pub sources : List Source
  pub stated : Stated register sources
  pub entries : List Entry
  pub defined : DefinedAll sources entries
  pub es : List Entry
  pub one_each : Perm es entries
  pub is_report : IsReport bytes (year_in register) es
  pub size : length bytes ≡ 56 + 40 * sources_in register
  pub sums : (figure : Entry → ℕ) → sum (map figure es) ≡ sum (map figure entries)
  pub fits : (sum (map (mass_of CO2) es) < 2 ^ 64) × (sum (map (mass_of CH4) es) < 2 ^ 64) × (sum (map (mass_of N2O) es) < 2 ^ 64) × (sum (map equivalent_of es) < 2 ^ 64)

-- "Combining writes the well-formed report of all entries of both"
pub record ReportOfBoth (one other bytes : List ℕ) : Type 0 where
  pub first : List Entry
  pub second : List Entry
  pub es : List Entry
  pub of_first : IsReport one (report_year one) first
  pub of_second : IsReport other (report_year one) second
  pub all : Perm es (first ++ second)
  pub is_report : IsReport bytes (report_year one) es
  pub size : length bytes ≡ 56 + 40 * (entries_in one + entries_in other)

-- "Removal writes the report without that entry"
pub record ReportWithout (report : List ℕ) (number : ℕ) (bytes : List ℕ) : Type 0 where
  pub whole : List Entry
  pub gone : Entry
  pub es : List Entry
  pub of_report : IsReport report (report_year report) whole
  pub numbered : gone.number ≡ number
  pub all : Perm (gone ∷ es) whole
  pub is_report : IsReport bytes (report_year report) es
  pub size : length bytes ≡ 56 + 40 * (entries_in report - 1)

-- Document 02: "Work out consumption by formula 1 of source document 000: received less dispatched, plus opening, less closing stock." Numbers that are
-- the amounts of cards, one for each in card order: an amount and what goes out come to what comes in. They are "to become quantities of lines",
-- which are at most 10^10.
pub record Consumed (cards ns : List ℕ) : Type 0 where
  pub one_each : length ns ≡ cards_in cards
  pub balance : (i : ℕ) → i < cards_in cards → get_or ns i 0 + (dispatched cards i + closing cards i) ≡ received cards i + opening cards i
  pub quantity : (i : ℕ) → i < cards_in cards → get_or ns i 0 ≤ 10 ^ 10

-- "amounts written in card order, 8 bytes each"
pub record AmountsOf (cards bytes : List ℕ) : Type 0 where
  pub amounts : List ℕ
  pub consumed : Consumed cards amounts
  pub are_bytes : Bytes bytes
  pub size : length bytes ≡ 8 * cards_in cards
  pub each : (i : ℕ) → i < cards_in cards → number_at 8 bytes (8 * i) ≡ get_or amounts i 0

pub record Masses : Type 0 where
  -- rounding: the nearest, and the only such number
  pub rounds : (n d r : ℕ) → 0 < d → (rounded n d ≡ r) ↔ Nearest n d r
  -- each source of an accepted register has the entry that document 01 defines
  pub entries : (register report : List ℕ) → Bytes register → Accepted (calculated register report) → DefinedAll (sources_of register) (map entry_of (sources_of register))
  -- twins, equal in method, parameter and lines, have equal masses, whatever their names; by `ReportOf` both count
  pub twins : (s t : Source) → s.method ≡ t.method → s.parameter ≡ t.parameter → s.lines ≡ t.lines → (entry_of s).masses ≡ (entry_of t).masses

-- The sources of a register are what its entries state; a register that is laid right is the encoding of its year and sources, and what a register
-- has room for is encoded and read back. A report is well-formed exactly if it is the report of some year and entries, and those are read off it.
pub record Encodings : Type 0 where
  pub sources : (b : List ℕ) → Stated b (sources_of b)
  pub again : (b : List ℕ) → Bytes b → LaidRight b → Encodable (year_in b) (sources_of b) × (encode (year_in b) (sources_of b) ≡ b)
  pub back : (year : ℕ) (ss : List Source) → Encodable year ss
      → Bytes (encode year ss) × LaidRight (encode year ss) × (year_in (encode year ss) ≡ year) × (sources_of (encode year ss) ≡ ss)
  pub formed : (b : List ℕ) → Bytes b → (well_formed b ≡ true) ↔ ((year : ℕ) × (es : List Entry) × IsReport b year es)
  pub report : (b : List ℕ) (year : ℕ) (es : List Entry) → IsReport b year es → (report_bytes year es ≡ b) × (entries_of b ≡ es)
  pub report_back : (year : ℕ) (es : List Entry) → Reportable year es → IsReport (report_bytes year es) year es
  -- "Every report starts with the four bytes GREP"
  pub begins : (year : ℕ) (es : List Entry) → take 4 (report_bytes year es) ≡ 71 ∷ 82 ∷ 69 ∷ 80 ∷ []

-- Names. The tests 1 to 4 refuse a register; an entry of it has a number
abbrev pub Refused : List ℕ → Type 0
Refused b = (n : ℕ) × (p : ℕ) × FirstOf (register_rows b) n p

abbrev pub Numbered : List ℕ → ℕ → ℕ → Type 0
Numbered b x i = (i < sources_in b) × (number b i ≡ x)

abbrev pub Absent : List ℕ → ℕ → Type 0
Absent b x = (i : ℕ) → Numbered b x i → ⊥

-- a part is the name of entry i, where it stands, within the register, and is not empty
abbrev pub IsName : List ℕ → ℕ → Part → Type 0
IsName b i p = (p.offset ≡ name_at b i) × (p.length ≡ name_length b i) × (1 ≤ p.length) × (p.length ≤ 64) × (p.offset + p.length ≤ length b)

abbrev pub part_of : Found → Part
part_of f = record { offset = f.offset; length = f.length }
