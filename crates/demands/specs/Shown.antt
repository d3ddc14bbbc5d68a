-- The premises of the statements, all met: two boilers of equal name and lines, an acid plant, and stock cards. Assumes nothing.
use mathlib.Core.List.{List, [], ◌∷◌, map, Perm}
use Rattle.std.specs.Prelude.{◌≡◌, ℕ, ◌+◌, ◌*◌, replicate}
use Rattle.basis.specs.Bytes.{number_at, Bytes, ascii}
use Rattle.basis.specs.Lists.{Each, count_up, joined}
use Rattle.meaning.specs.Register.{Source, sources_of, encode}
use Rattle.meaning.specs.Report.{Entry, report_bytes, entries_of}
use Rattle.meaning.specs.Calls.{combined, removed, amounts, found_of_two}
use Rattle.meaning.specs.Starred.{line}
use Rattle.meaning.specs.Examples.{boiler, cards, blank}
use Rattle.demands.specs.Table.{Nearest}
use Rattle.demands.specs.Fields.{entries_in}
use Rattle.demands.specs.Valid.{Reportable, Encodable}
use Rattle.demands.specs.Trees.{Tree, report, combine, leaves, wrote, Accepted, result, Room}
use Rattle.demands.specs.Demand2.{Refused, Numbered}
use Rattle.demands.specs.Demand3.{Lent, Dealt, calculation, GoodReport}
use Rattle.demands.specs.Algebra.{refusal}

abbrev pub acid : Source
acid = record { number = 9; method = 6; parameter = 5; name = ascii "Acid"; lines = line 30 1 0 1000000 0 0 ∷ line 30 1 0 500 0 0 ∷ [] }

-- a boiler that burnt nothing
abbrev pub idle : Source
idle = record { number = 1; method = 1; parameter = 0; name = ascii "Idle"; lines = line 1 1 3 0 0 0 ∷ [] }

-- a boiler that burnt the amount of a card
abbrev pub fed : ℕ → Source
fed amount = record { number = 1; method = 1; parameter = 0; name = ascii "Fed"; lines = line 1 1 3 amount 800000 10000 ∷ [] }

-- entries with so many numbers from one on, and no masses
abbrev pub many : ℕ → ℕ → List Entry
many from count = map (λ n. record { number = n; method = 1; masses = 0 ∷ 0 ∷ 0 ∷ [] }) (count_up from count)

abbrev pub zeros : List ℕ
zeros = replicate 180 0

abbrev pub lent : List Source → Lent
lent ss = record { register = encode 2023 ss; buffer = zeros }

-- a register of three sources, dealt out among three registers, one of them empty
abbrev pub whole : Lent
whole = lent (boiler 8 ∷ boiler 7 ∷ acid ∷ [])

abbrev pub parts : List Lent
parts = lent (acid ∷ boiler 8 ∷ []) ∷ lent [] ∷ lent (boiler 7 ∷ []) ∷ []

abbrev pub written : List Source → List ℕ
written ss = wrote (calculation (lent ss))

-- their reports in another order, and in one of the groupings
abbrev pub tree : Tree
tree = combine (combine (report (written [])) (report (written (boiler 7 ∷ []))) zeros) (report (written (acid ∷ boiler 8 ∷ []))) zeros

abbrev pub again : List ℕ → List ℕ
again r = wrote (combined (wrote (removed r 7 zeros)) (written (boiler 7 ∷ [])) zeros)

pub record Shown : Type 0 where
  -- the premises of the third demand, and its conclusion as it computes
  pub bytes : Each (λ p. Bytes p.register) (whole ∷ parts)
  pub accepted : Accepted (calculation whole)
  pub dealt : Each (Dealt 2023) parts
  pub sources : Perm (joined (map (λ p. sources_of p.register) parts)) (sources_of whole.register)
  pub reports : Perm (leaves tree) (map (λ p. wrote (calculation p)) parts)
  pub room : Room entries_in (λ n. 56 + 40 * n) tree
  pub combines : result combined tree ≡ wrote (calculation whole)
  -- its report is well-formed, has three entries, and both boilers count in its first total
  pub formed : GoodReport (wrote (calculation whole))
  pub entries : entries_in (wrote (calculation whole)) ≡ 3
  pub twice : number_at 8 (wrote (calculation whole)) 24 ≡ 5862400000
  -- a year and sources that a register has room for; a year and entries that make a report; a register that 1 to 4 do not refuse
  pub encodable : Encodable 2023 (boiler 8 ∷ boiler 7 ∷ acid ∷ [])
  pub reportable : Reportable 2023 (entries_of (wrote (calculation whole)))
  pub unrefused : Refused whole.register → ⊥
  -- a source is there, is removed, and is combined again
  pub there : Numbered whole.register 7 1
  pub comes_back : again (wrote (calculation whole)) ≡ wrote (calculation whole)
  -- both groupings of three reports are accepted
  pub left : Accepted (combined (wrote (combined (written (boiler 8 ∷ [])) (written (boiler 7 ∷ [])) zeros)) (written (acid ∷ [])) zeros)
  pub right : Accepted (combined (written (boiler 8 ∷ [])) (wrote (combined (written (boiler 7 ∷ [])) (written (acid ∷ [])) zeros)) zeros)
  -- half a gram goes upward, and is nearest to that only
  pub half : Nearest 5 10 1
  -- order tells where one of the two is no report; grouping tells where numbers are shared
  pub first_order : (combined [] (written []) zeros).answer ≡ refusal 9 1
  pub other_order : (combined (written []) [] zeros).answer ≡ refusal 9 2
  pub first_grouping : (combined (wrote (combined (written (boiler 7 ∷ [])) (written (boiler 8 ∷ [])) zeros)) (written (boiler 7 ∷ boiler 8 ∷ [])) zeros).answer ≡ refusal 11 7
  pub other_grouping : (combined (written (boiler 8 ∷ [])) (written (boiler 7 ∷ boiler 8 ∷ [])) zeros).answer ≡ refusal 11 8
  -- 256 and 257 entries are too many, and 12 has their count
  pub too_many : (combined (report_bytes 2023 (many 1 256)) (report_bytes 2023 (many 257 257)) []).answer ≡ refusal 12 513
  pub many_make : Reportable 2023 (many 1 256) × Reportable 2023 (many 257 257)
  -- a name of the plant's register, and one of its contractor's
  pub of_plant : found_of_two whole.register (lent (boiler 3 ∷ [])).register 7 ≡ record { which = 1; offset = 172; length = 12 }
  pub of_contractor : found_of_two whole.register (lent (boiler 3 ∷ [])).register 3 ≡ record { which = 2; offset = 68; length = 12 }
  -- "Zero is an ordinary value for Q, A and B"
  pub zero : Accepted (calculation (lent (idle ∷ [])))
  -- stock cards are accepted; an amount is a quantity that a line may have, and one that is below zero is none
  pub stocked : Accepted (amounts (cards ((7000 ∷ 500 ∷ 300 ∷ 800 ∷ []) ∷ blank ∷ [])) zeros)
  pub consumed : number_at 8 (wrote (amounts (cards ((7000 ∷ 500 ∷ 300 ∷ 800 ∷ []) ∷ blank ∷ [])) zeros)) 0 ≡ 6000
  pub burnt : Accepted (calculation (lent (fed 6000 ∷ [])))
  pub below_zero : (amounts (cards (blank ∷ (0 ∷ 0 ∷ 300 ∷ 800 ∷ []) ∷ [])) zeros).answer ≡ refusal 15 1
