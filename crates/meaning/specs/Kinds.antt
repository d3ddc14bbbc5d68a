-- Cases for each kind, unit, code and factor of the method table, and for both ends of each range: what document 01's columns give. Assumes nothing.
use Rattle.std.specs.Prelude.{List, [], ◌∷◌, map, ◌≡◌}
use Rattle.meaning.specs.Starred.{gives, refuses, Case, calculates, line, case}

abbrev pub kind_cases : List Case
kind_cases =
    -- method 4: feed less product less by-product, which only parameters 2 and 5 have; no stocks
    case 4 2 (line 10 1 0 100000 800000 10000 ∷ line 11 1 0 50000 500000 10000 ∷ line 14 1 0 10000 400000 10000 ∷ []) (gives (186864000 ∷ 0 ∷ 0 ∷ 186864000 ∷ []))
    ∷ case 4 5 (line 10 1 0 100000 800000 10000 ∷ line 14 1 0 10000 400000 10000 ∷ []) (gives (278464000 ∷ 0 ∷ 0 ∷ 278464000 ∷ []))
    ∷ case 4 1 (line 10 1 0 100000 800000 10000 ∷ line 14 1 0 10000 400000 10000 ∷ []) (refuses 5 1)
    ∷ case 4 3 (line 10 1 0 100000 800000 10000 ∷ line 14 1 0 10000 400000 10000 ∷ []) (refuses 5 1)
    ∷ case 4 4 (line 10 1 0 100000 800000 10000 ∷ line 14 1 0 10000 400000 10000 ∷ []) (refuses 5 1)
    ∷ case 4 6 (line 10 1 0 100000 800000 10000 ∷ line 14 1 0 10000 400000 10000 ∷ []) (refuses 5 1)
    ∷ case 4 1 (line 10 1 0 100000 800000 10000 ∷ line 11 1 0 50000 500000 10000 ∷ []) (gives (201520000 ∷ 0 ∷ 0 ∷ 201520000 ∷ []))
    ∷ case 4 6 (line 10 1 0 100000 800000 10000 ∷ []) (gives (293120000 ∷ 0 ∷ 0 ∷ 293120000 ∷ []))
    ∷ case 4 2 (line 10 1 0 100000 800000 10000 ∷ line 12 1 0 1 0 10000 ∷ []) (refuses 5 1)
    ∷ case 4 2 (line 13 1 0 1 0 10000 ∷ []) (refuses 5 0)
    -- a by-product, a flare's methane, an acid line: each of another method's kinds
    ∷ case 3 0 (line 14 1 0 10000 400000 10000 ∷ []) (refuses 5 0)
    ∷ case 1 0 (line 2 2 0 1 0 0 ∷ []) (refuses 5 0)
    ∷ case 5 0 (line 30 1 0 1 0 0 ∷ []) (refuses 5 0)
    ∷ case 6 1 (line 20 1 1 1 0 0 ∷ []) (refuses 5 0)
    ∷ case 2 0 (line 3 2 0 1 0 0 ∷ []) (refuses 5 0)
    -- kind 22 adds; each carbonate charged; each in the dust beside CaCO3, whose calcined share is 4,000
    ∷ case 5 0 (line 22 1 0 10000 250000 10000 ∷ []) (gives (9160000 ∷ 0 ∷ 0 ∷ 9160000 ∷ []))
    ∷ case 5 0 (line 20 1 2 1000 1000000 10000 ∷ []) (gives (522000 ∷ 0 ∷ 0 ∷ 522000 ∷ []))
    ∷ case 5 0 (line 20 1 3 1000 1000000 10000 ∷ []) (gives (477000 ∷ 0 ∷ 0 ∷ 477000 ∷ []))
    ∷ case 5 0 (line 20 1 4 1000 1000000 10000 ∷ []) (gives (380000 ∷ 0 ∷ 0 ∷ 380000 ∷ []))
    ∷ case 5 0 (line 20 1 1 1000 1000000 10000 ∷ line 21 1 1 100 1000000 4000 ∷ []) (gives (413600 ∷ 0 ∷ 0 ∷ 413600 ∷ []))
    ∷ case 5 0 (line 20 1 1 1000 1000000 10000 ∷ line 21 1 2 100 1000000 4000 ∷ []) (gives (408680 ∷ 0 ∷ 0 ∷ 408680 ∷ []))
    ∷ case 5 0 (line 20 1 1 1000 1000000 10000 ∷ line 21 1 3 100 1000000 4000 ∷ []) (gives (411380 ∷ 0 ∷ 0 ∷ 411380 ∷ []))
    ∷ case 5 0 (line 20 1 1 1000 1000000 10000 ∷ line 21 1 4 100 1000000 4000 ∷ []) (gives (417200 ∷ 0 ∷ 0 ∷ 417200 ∷ []))
    -- nitric acid, parameters 1 to 4
    ∷ case 6 1 (line 30 1 0 10000000 0 0 ∷ []) (gives (0 ∷ 0 ∷ 20000000 ∷ 5960000000 ∷ []))
    ∷ case 6 2 (line 30 1 0 10000000 0 0 ∷ []) (gives (0 ∷ 0 ∷ 25000000 ∷ 7450000000 ∷ []))
    ∷ case 6 3 (line 30 1 0 10000000 0 0 ∷ []) (gives (0 ∷ 0 ∷ 50000000 ∷ 14900000000 ∷ []))
    ∷ case 6 4 (line 30 1 0 10000000 0 0 ∷ []) (gives (0 ∷ 0 ∷ 75000000 ∷ 22350000000 ∷ []))
    -- B below 10,000: solid fuel, and a carbonate
    ∷ case 1 0 (line 1 1 3 1000000 800000 9800 ∷ []) (gives (2872576000 ∷ 0 ∷ 0 ∷ 2872576000 ∷ []))
    ∷ case 5 0 (line 20 1 1 1000 1000000 9500 ∷ []) (gives (418000 ∷ 0 ∷ 0 ∷ 418000 ∷ []))
    -- gas and liquid, whose B is 10,000 and nothing else; codes that are none
    ∷ case 1 0 (line 1 2 1 1000 500000 10000 ∷ []) (gives (1832000 ∷ 0 ∷ 0 ∷ 1832000 ∷ []))
    ∷ case 1 0 (line 1 1 2 1000 860000 10000 ∷ []) (gives (3151040 ∷ 0 ∷ 0 ∷ 3151040 ∷ []))
    ∷ case 1 0 (line 1 2 1 1000 500000 9999 ∷ []) (refuses 5 0)
    ∷ case 1 0 (line 1 1 2 1000 860000 9999 ∷ []) (refuses 5 0)
    ∷ case 1 0 (line 1 1 0 1 1 10000 ∷ []) (refuses 5 0)
    ∷ case 1 0 (line 1 1 4 1 1 10000 ∷ []) (refuses 5 0)
    -- units 3 and 4, with the largest A; units that are none
    ∷ case 1 0 (line 1 3 3 1 99999999 10000 ∷ []) (gives (366400 ∷ 0 ∷ 0 ∷ 366400 ∷ []))
    ∷ case 1 0 (line 1 4 3 1000 71000000 10000 ∷ []) (gives (260144000 ∷ 0 ∷ 0 ∷ 260144000 ∷ []))
    ∷ case 3 0 (line 10 4 0 1000 71000000 10000 ∷ line 11 3 0 1000 1000000 10000 ∷ []) (gives (256480000 ∷ 0 ∷ 0 ∷ 256480000 ∷ []))
    ∷ case 1 0 (line 1 0 3 1 1 1 ∷ []) (refuses 5 0)
    ∷ case 1 0 (line 1 5 3 1 1 1 ∷ []) (refuses 5 0)
    ∷ case 3 0 (line 10 5 0 1 1 10000 ∷ []) (refuses 5 0)
    ∷ case 2 0 (line 1 3 0 1 1 1 ∷ []) (refuses 5 0)
    ∷ case 2 0 (line 2 3 0 1 1 1 ∷ []) (refuses 5 0)
    ∷ case 5 0 (line 20 2 1 1 1 1 ∷ []) (refuses 5 0)
    ∷ case 5 0 (line 22 2 0 1 1 10000 ∷ []) (refuses 5 0)
    ∷ case 6 1 (line 30 2 0 1 0 0 ∷ []) (refuses 5 0)
    -- both ends of A, by the unit, of B and of Q, and an ordinary Q
    ∷ case 1 0 (line 1 1 3 1 1000000 10000 ∷ []) (gives (3664 ∷ 0 ∷ 0 ∷ 3664 ∷ []))
    ∷ case 1 0 (line 1 1 3 1 1000001 10000 ∷ []) (refuses 5 0)
    ∷ case 1 0 (line 1 2 3 1 100000000 10000 ∷ []) (refuses 5 0)
    ∷ case 5 0 (line 20 1 1 1 1000001 10000 ∷ []) (refuses 5 0)
    ∷ case 2 0 (line 2 1 0 1 1000001 0 ∷ []) (refuses 5 0)
    ∷ case 1 0 (line 1 1 3 1000000 800000 0 ∷ []) (gives (0 ∷ 0 ∷ 0 ∷ 0 ∷ []))
    ∷ case 1 0 (line 1 1 3 1 1 10001 ∷ []) (refuses 5 0)
    ∷ case 5 0 (line 21 1 1 1 1 10001 ∷ []) (refuses 5 0)
    ∷ case 2 0 (line 1 2 0 1 1 10001 ∷ []) (refuses 5 0)
    ∷ case 1 0 (line 1 1 3 0 0 0 ∷ []) (gives (0 ∷ 0 ∷ 0 ∷ 0 ∷ []))
    ∷ case 1 0 (line 1 1 3 10000000000 1 10000 ∷ []) (gives (36640000 ∷ 0 ∷ 0 ∷ 36640000 ∷ []))
    ∷ case 1 0 (line 1 1 3 10000000001 1 10000 ∷ []) (refuses 5 0)
    ∷ case 6 6 (line 30 1 0 10000000001 0 0 ∷ []) (refuses 5 0)
    ∷ case 1 0 (line 1 1 3 77 1000000 10000 ∷ []) (gives (282128 ∷ 0 ∷ 0 ∷ 282128 ∷ []))
    -- an equivalent at the limit, less than half a gram beside it; one gram above it
    ∷ case 2 0 (line 2 2 0 10000000000 4000000 10000 ∷ line 1 2 0 1 136 0 ∷ []) (gives (0 ∷ 40000000000000 ∷ 0 ∷ 1000000000000000 ∷ []))
    ∷ case 2 0 (line 2 2 0 10000000000 4000000 10000 ∷ line 1 2 0 1 273 0 ∷ []) (refuses 7 0)
    -- what a kind fixes: B of the balances and of kind 22; code 0; the carbonates' codes; A and B of the acid
    ∷ case 3 0 (line 10 1 0 1 1 9999 ∷ []) (refuses 5 0)
    ∷ case 4 1 (line 11 1 0 1 1 9999 ∷ []) (refuses 5 0)
    ∷ case 5 0 (line 22 1 0 1 1 9999 ∷ []) (refuses 5 0)
    ∷ case 3 0 (line 10 1 1 1 1 10000 ∷ []) (refuses 5 0)
    ∷ case 2 0 (line 1 2 1 1 1 1 ∷ []) (refuses 5 0)
    ∷ case 2 0 (line 2 2 1 1 1 1 ∷ []) (refuses 5 0)
    ∷ case 5 0 (line 22 1 1 1 1 10000 ∷ []) (refuses 5 0)
    ∷ case 5 0 (line 20 1 0 1 1 1 ∷ []) (refuses 5 0)
    ∷ case 5 0 (line 20 1 5 1 1 1 ∷ []) (refuses 5 0)
    ∷ case 5 0 (line 21 1 0 1 1 1 ∷ []) (refuses 5 0)
    ∷ case 5 0 (line 21 1 5 1 1 1 ∷ []) (refuses 5 0)
    ∷ case 6 1 (line 30 1 1 1 0 0 ∷ []) (refuses 5 0)
    ∷ case 6 1 (line 30 1 0 1 1 0 ∷ []) (refuses 5 0)
    ∷ case 6 1 (line 30 1 0 1 0 1 ∷ []) (refuses 5 0)
    ∷ []

pub record Kinds : Type 0 where
  pub each : map calculates kind_cases ≡ map (λ c. c.result) kind_cases
