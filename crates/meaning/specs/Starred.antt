-- Document 01, "Sums done by hand", the starred ones: one list under one claim. Assumes nothing.
use Rattle.std.specs.Prelude.{List, [], ◌∷◌, map, ◌≡◌, ℕ, zero, suc, replicate}
use Rattle.basis.specs.Lists.{count_up}
use Rattle.meaning.specs.declared.RawLine.{RawLine}
use Rattle.meaning.specs.Register.{Source, encode}
use Rattle.meaning.specs.Report.{figure_count, report_length, entry_at, figure_in}
use Rattle.meaning.specs.Calls.{calculated}

-- what is asked of calculation: the figures CO2, CH4, N2O and equivalent of the first entry, or a refusal's number and place
pub data Result : Type 0 where
  gives : List ℕ → Result
  refuses : ℕ → ℕ → Result

-- a register of 2023 with one source, and its result
pub record Case : Type 0 where
  pub method : ℕ
  pub parameter : ℕ
  pub lines : List RawLine
  pub result : Result

-- what calculation answers, and the figures that it leaves in the report
unfoldable pub result_of : ℕ → ℕ → List ℕ → Result
result_of zero place left = gives (map (figure_in (entry_at left 0)) (count_up 0 figure_count))
result_of (suc number) place left = refuses (suc number) place

unfoldable pub calculates : Case → Result
calculates c =
    let source : Source = record { number = 7; method = c.method; parameter = c.parameter; name = 75 ∷ []; lines = c.lines } in
    let o = calculated (encode 2023 (source ∷ [])) (replicate (report_length 1) 0) in
    result_of o.answer.number o.answer.place o.left

abbrev pub line : ℕ → ℕ → ℕ → ℕ → ℕ → ℕ → RawLine
line kind unit code q a b = record { kind = kind; unit = unit; code = code; a = a; b = b; q = q }

abbrev pub case : ℕ → ℕ → List RawLine → Result → Case
case method parameter lines result = record { method = method; parameter = parameter; lines = lines; result = result }

abbrev pub cases : List Case
cases =
    -- "Fuel, solid, Q 1,000,000, A 800,000, B 10,000: 2,931,200,000 g"
    case 1 0 (line 1 1 3 1000000 800000 10000 ∷ []) (gives (2931200000 ∷ 0 ∷ 0 ∷ 2931200000 ∷ []))
    -- "Fuel, Q 1, A 31,250, B 10,000: 114.5, so 115 g"; "A 31,249: 114 g"
    ∷ case 1 0 (line 1 1 3 1 31250 10000 ∷ []) (gives (115 ∷ 0 ∷ 0 ∷ 115 ∷ []))
    ∷ case 1 0 (line 1 1 3 1 31249 10000 ∷ []) (gives (114 ∷ 0 ∷ 0 ∷ 114 ∷ []))
    -- "Metals: in 100 t at 0.8, opening 10 t at 0.8, out 20 t at 0.5, closing 15 t at 0.8: 66 t of carbon, 241,824,000 g"
    ∷ case 3 0 (line 10 1 0 100000 800000 10000 ∷ line 12 1 0 10000 800000 10000 ∷ line 11 1 0 20000 500000 10000 ∷ line 13 1 0 15000 800000 10000 ∷ [])
    (gives (241824000 ∷ 0 ∷ 0 ∷ 241824000 ∷ []))
    -- "Metals, in and out 1,000 t at 0.9: 0 g"; "Out at 0.900001: refusal 6"
    ∷ case 3 0 (line 10 1 0 1000000 900000 10000 ∷ line 11 1 0 1000000 900000 10000 ∷ []) (gives (0 ∷ 0 ∷ 0 ∷ 0 ∷ []))
    ∷ case 3 0 (line 10 1 0 1000000 900000 10000 ∷ line 11 1 0 1000000 900001 10000 ∷ []) (refuses 6 0)
    -- "Cement: 1,000 t of CaCO3, A 1,000,000, B 10,000; dust 10 t, A 900,000, B 6,000: 438,416,000 g"
    ∷ case 5 0 (line 20 1 1 1000000 1000000 10000 ∷ line 21 1 1 10000 900000 6000 ∷ []) (gives (438416000 ∷ 0 ∷ 0 ∷ 438416000 ∷ []))
    -- "Nitric acid, parameter 5, 1,000 t: 9,000,000 g N2O, equivalent 2,682,000,000"; "Parameter 6, Q 1,000: 0.5, so 1 g; Q 999: 0"
    ∷ case 6 5 (line 30 1 0 1000000 0 0 ∷ []) (gives (0 ∷ 0 ∷ 9000000 ∷ 2682000000 ∷ []))
    ∷ case 6 6 (line 30 1 0 1000 0 0 ∷ []) (gives (0 ∷ 0 ∷ 1 ∷ 298 ∷ []))
    ∷ case 6 6 (line 30 1 0 999 0 0 ∷ []) (gives (0 ∷ 0 ∷ 0 ∷ 0 ∷ []))
    -- "Flare, 100 thousand m3, A 1,200,000, B 50; kind 2, A 500,000, B 50: CO2 437,481,600, CH4 250,000, equivalent 443,731,600"
    ∷ case 2 0 (line 1 2 0 100000 1200000 50 ∷ line 2 2 0 100000 500000 50 ∷ []) (gives (437481600 ∷ 250000 ∷ 0 ∷ 443731600 ∷ []))
    -- "Flare with only kind 2, unit 2, Q 10^10, B 10,000, A 4,000,000: equivalent 10^15, accepted"; "A 4,000,001: refusal 7"
    ∷ case 2 0 (line 2 2 0 10000000000 4000000 10000 ∷ []) (gives (0 ∷ 40000000000000 ∷ 0 ∷ 1000000000000000 ∷ []))
    ∷ case 2 0 (line 2 2 0 10000000000 4000001 10000 ∷ []) (refuses 7 0)
    ∷ []

-- the claim: calculation gives each its result
pub record Starred : Type 0 where
  pub each : map calculates cases ≡ map (λ c. c.result) cases
