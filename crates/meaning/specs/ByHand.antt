-- A register and its report, and stock cards and their amounts, byte by byte, with other bytes in every field: no two fields may change places, but for
-- two of a card that count alike. Assumes nothing.
use Rattle.std.specs.Prelude.{List, [], ◌∷◌, ◌++◌, ◌≡◌, ℕ, replicate}
use Rattle.basis.specs.Bytes.{ascii}
use Rattle.meaning.specs.Register.{Source, sources_of, encode}
use Rattle.meaning.specs.Report.{Entry, report_bytes, entries_of}
use Rattle.meaning.specs.Calls.{calculated, text, amounts}
use Rattle.meaning.specs.Starred.{line}

abbrev pub register_by_hand : List ℕ
register_by_hand =
    -- tag; layout 1, year 2023, 2 sources, 3 lines; 5 name bytes; offsets 32, 64, 124; whole length 129
    71 ∷ 82 ∷ 69 ∷ 71
    ∷ 1 ∷ 0 ∷ 231 ∷ 7 ∷ 2 ∷ 0 ∷ 3 ∷ 0
    ∷ 5 ∷ 0 ∷ 0 ∷ 0
    ∷ 32 ∷ 0 ∷ 0 ∷ 0 ∷ 64 ∷ 0 ∷ 0 ∷ 0 ∷ 124 ∷ 0 ∷ 0 ∷ 0 ∷ 129 ∷ 0 ∷ 0 ∷ 0
    -- number, method, parameter, line count, first line, name length, name offset, twice
    ∷ 5 ∷ 6 ∷ 7 ∷ 8 ∷ 2 ∷ 0 ∷ 2 ∷ 0 ∷ 0 ∷ 0 ∷ 2 ∷ 0 ∷ 0 ∷ 0 ∷ 0 ∷ 0
    ∷ 1 ∷ 2 ∷ 3 ∷ 4 ∷ 6 ∷ 5 ∷ 1 ∷ 0 ∷ 2 ∷ 0 ∷ 3 ∷ 0 ∷ 2 ∷ 0 ∷ 0 ∷ 0
    -- kind, unit, code, A, B, Q, three times
    ∷ 1 ∷ 2 ∷ 0 ∷ 0 ∷ 4 ∷ 3 ∷ 2 ∷ 1 ∷ 5 ∷ 6 ∷ 0 ∷ 0 ∷ 11 ∷ 10 ∷ 9 ∷ 8 ∷ 2 ∷ 0 ∷ 0 ∷ 0
    ∷ 2 ∷ 1 ∷ 0 ∷ 0 ∷ 10 ∷ 11 ∷ 12 ∷ 0 ∷ 7 ∷ 8 ∷ 0 ∷ 0 ∷ 1 ∷ 2 ∷ 3 ∷ 4 ∷ 0 ∷ 0 ∷ 0 ∷ 0
    ∷ 30 ∷ 1 ∷ 0 ∷ 0 ∷ 0 ∷ 0 ∷ 0 ∷ 0 ∷ 0 ∷ 0 ∷ 0 ∷ 0 ∷ 17 ∷ 16 ∷ 15 ∷ 14 ∷ 1 ∷ 0 ∷ 0 ∷ 0
    -- names
    ∷ 65 ∷ 66
    ∷ 120 ∷ 121 ∷ 122
    ∷ []

abbrev pub report_by_hand : List ℕ
report_by_hand =
    -- tag; layout 1, year 2023, 2 entries, zero; offset 56, whole length 136, zero
    71 ∷ 82 ∷ 69 ∷ 80
    ∷ 1 ∷ 0 ∷ 231 ∷ 7 ∷ 2 ∷ 0 ∷ 0 ∷ 0
    ∷ 56 ∷ 0 ∷ 0 ∷ 0 ∷ 136 ∷ 0 ∷ 0 ∷ 0 ∷ 0 ∷ 0 ∷ 0 ∷ 0
    -- totals of CO2, CH4, N2O and equivalent
    ∷ 199 ∷ 250 ∷ 158 ∷ 22 ∷ 220 ∷ 159 ∷ 1 ∷ 0
    ∷ 147 ∷ 252 ∷ 172 ∷ 138 ∷ 2 ∷ 0 ∷ 0 ∷ 0
    ∷ 153 ∷ 144 ∷ 135 ∷ 126 ∷ 9 ∷ 0 ∷ 0 ∷ 0
    ∷ 60 ∷ 247 ∷ 81 ∷ 235 ∷ 40 ∷ 171 ∷ 1 ∷ 0
    -- number, method, zeros; CO2, CH4, N2O, equivalent; the smaller number first
    ∷ 1 ∷ 2 ∷ 3 ∷ 4 ∷ 6 ∷ 0 ∷ 0 ∷ 0
    ∷ 0 ∷ 0 ∷ 0 ∷ 0 ∷ 0 ∷ 0 ∷ 0 ∷ 0
    ∷ 0 ∷ 0 ∷ 0 ∷ 0 ∷ 0 ∷ 0 ∷ 0 ∷ 0
    ∷ 153 ∷ 144 ∷ 135 ∷ 126 ∷ 9 ∷ 0 ∷ 0 ∷ 0
    ∷ 26 ∷ 82 ∷ 206 ∷ 73 ∷ 13 ∷ 11 ∷ 0 ∷ 0
    ∷ 5 ∷ 6 ∷ 7 ∷ 8 ∷ 2 ∷ 0 ∷ 0 ∷ 0
    ∷ 199 ∷ 250 ∷ 158 ∷ 22 ∷ 220 ∷ 159 ∷ 1 ∷ 0
    ∷ 147 ∷ 252 ∷ 172 ∷ 138 ∷ 2 ∷ 0 ∷ 0 ∷ 0
    ∷ 0 ∷ 0 ∷ 0 ∷ 0 ∷ 0 ∷ 0 ∷ 0 ∷ 0
    ∷ 34 ∷ 165 ∷ 131 ∷ 161 ∷ 27 ∷ 160 ∷ 1 ∷ 0
    ∷ []

-- a flare with carbon and methane, and an acid plant
abbrev pub sources_by_hand : List Source
sources_by_hand =
    record {
      number = 134678021;
      method = 2;
      parameter = 0;
      name = ascii "AB";
      lines = line 1 2 0 8724744715 16909060 1541 ∷ line 2 1 0 67305985 789258 2055 ∷ [];
    }
    ∷ record { number = 67305985; method = 6; parameter = 5; name = ascii "xyz"; lines = line 30 1 0 4530835473 0 0 ∷ [] }
    ∷ []

abbrev pub entries_by_hand : List Entry
entries_by_hand =
    record { number = 67305985; method = 6; masses = 0 ∷ 0 ∷ 40777519257 ∷ [] }
    ∷ record { number = 134678021; method = 2; masses = 457242597849799 ∷ 10916527251 ∷ 0 ∷ [] }
    ∷ []

abbrev pub cards_by_hand : List ℕ
cards_by_hand =
    -- received 8691058697, dispatched 4362273281, opening 134678021, closing 218893066
    9 ∷ 8 ∷ 7 ∷ 6 ∷ 2 ∷ 0 ∷ 0 ∷ 0
    ∷ 1 ∷ 2 ∷ 3 ∷ 4 ∷ 1 ∷ 0 ∷ 0 ∷ 0
    ∷ 5 ∷ 6 ∷ 7 ∷ 8 ∷ 0 ∷ 0 ∷ 0 ∷ 0
    ∷ 10 ∷ 11 ∷ 12 ∷ 13 ∷ 0 ∷ 0 ∷ 0 ∷ 0
    -- received 258, dispatched 772, opening 1543, closing 515
    ∷ 2 ∷ 1 ∷ 0 ∷ 0 ∷ 0 ∷ 0 ∷ 0 ∷ 0
    ∷ 4 ∷ 3 ∷ 0 ∷ 0 ∷ 0 ∷ 0 ∷ 0 ∷ 0
    ∷ 7 ∷ 6 ∷ 0 ∷ 0 ∷ 0 ∷ 0 ∷ 0 ∷ 0
    ∷ 3 ∷ 2 ∷ 0 ∷ 0 ∷ 0 ∷ 0 ∷ 0 ∷ 0
    ∷ []

-- 4244570371 and 514
abbrev pub amounts_by_hand : List ℕ
amounts_by_hand = 3 ∷ 1 ∷ 255 ∷ 252 ∷ 0 ∷ 0 ∷ 0 ∷ 0 ∷ 2 ∷ 2 ∷ 0 ∷ 0 ∷ 0 ∷ 0 ∷ 0 ∷ 0 ∷ []

pub record ByHand : Type 0 where
  pub sources : sources_of register_by_hand ≡ sources_by_hand
  pub register : encode 2023 sources_by_hand ≡ register_by_hand
  -- the report stands at the front of the buffer, before what stood behind it
  pub report : calculated register_by_hand (replicate 136 1 ++ (2 ∷ 3 ∷ [])) ≡ record { answer = record { number = 0; place = 0; length = 136 }; left = report_by_hand ++ (2 ∷ 3 ∷ []) }
  pub entries : entries_of report_by_hand ≡ entries_by_hand
  pub written : report_bytes 2023 entries_by_hand ≡ report_by_hand
  pub text : (text report_by_hand (replicate 163 1)).left
      ≡ ascii "2023 2 457242597849799 10916527251 40777519257 469667211769660\n67305985 6 0 0 40777519257 12151700738586\n134678021 2 457242597849799 10916527251 0 457515511031074\n"
  pub amounts : amounts cards_by_hand (replicate 16 1 ++ (2 ∷ 3 ∷ [])) ≡ record { answer = record { number = 0; place = 0; length = 16 }; left = amounts_by_hand ++ (2 ∷ 3 ∷ []) }
