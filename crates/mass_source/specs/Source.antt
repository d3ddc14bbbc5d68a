-- The masses and the equivalent of sums, and what they are refused for. Assumes nothing.
use Rattle.std.specs.Prelude.{Result, Err, Ok, cond, List, [], ◌∷◌, ◌++◌, map, ◌≡◌, ℕ, zero, suc, ◌-◌, ◌<◌, ltb, length, get_or, replicate}
use Rattle.basis.specs.declared.Refusal.{Refusal}
use Rattle.basis.specs.Answers.{Verdict, Passes}
use Rattle.basis.specs.Lists.{count_up}
use Rattle.meaning.specs.Methods.{Decoded}
use Rattle.meaning.specs.Masses.{gas_count, rounded, masses, equivalent, limit}
use Rattle.meaning.specs.Report.{figure_count}
use Rattle.meaning.specs.Calls.{fault_of}
use Rattle.mass_exact.specs.declared.Amount.{Amount}
use Rattle.mass_exact.specs.Amounts.{gram, value, nothing, Room}
use Rattle.mass_sums.specs.declared.Sums.{Sums}
use Rattle.mass_sums.specs.Lines.{read_from, verdict_from}
use Rattle.mass_source.specs.declared.Fault.{Fault}
use Rattle.mass_source.specs.declared.Fault.TheVariants.{BelowZero, AboveLimit}

-- an amount for each gas, each with room to be rounded
pub record AllRoomy (amounts : List Amount) : Type 0 where
  pub gases : length amounts ≡ gas_count
  pub each : (gas : ℕ) → gas < gas_count → Room 0 (get_or amounts gas nothing)

-- whole grams of each
abbrev pub grams_at : List Amount → ℕ → ℕ
grams_at amounts gas = rounded (value (get_or amounts gas nothing)) gram

unfoldable pub grams_of : List Amount → List ℕ
grams_of amounts = map (grams_at amounts) (count_up 0 gas_count)

-- figures where there are none to state
abbrev pub no_figures : List ℕ
no_figures = replicate figure_count 0

-- "CO2, CH4, N2O, CO2-equivalent", and none beside a fault
abbrev pub figures_beside : ℕ → List ℕ → List ℕ
figures_beside zero masses = masses ++ (equivalent masses ∷ [])
figures_beside (suc fault) masses = no_figures

-- the numbers that the table gives the faults
abbrev pub number_of : Fault → ℕ
number_of BelowZero = 6
number_of AboveLimit = 7

-- what sums come to: figures, or a fault, whose figures are zeros
abbrev pub Judged : Type 0
Judged = Result (List ℕ) Fault

abbrev pub fault_in : Judged → ℕ
fault_in (Ok figures) = 0
fault_in (Err fault) = number_of fault

abbrev pub figures_in : Judged → List ℕ
figures_in (Ok figures) = figures
figures_in (Err fault) = no_figures

-- what masses come to: 7, or 0 with their figures
pub record WeighedBy (masses : List ℕ) (r : Judged) : Type 0 where
  pub size : length (figures_in r) ≡ figure_count
  pub fault : fault_in r ≡ cond (ltb limit (equivalent masses)) 7 0
  pub figures : figures_in r ≡ figures_beside (fault_in r) masses

-- the grams of a gas: of CO2 what is added less what is taken
unfoldable pub net_grams : Sums → ℕ → ℕ
net_grams s zero = rounded (value (get_or s.added 0 nothing) - value s.taken) gram
net_grams s (suc gas) = rounded (value (get_or s.added (suc gas) nothing)) gram

unfoldable pub net_masses : Sums → List ℕ
net_masses s = map (net_grams s) (count_up 0 gas_count)

-- what sums come to: 6, 7, or 0 with their figures
pub record JudgedBy (s : Sums) (r : Judged) : Type 0 where
  pub size : length (figures_in r) ≡ figure_count
  pub fault : fault_in r ≡ cond (ltb (value (get_or s.added 0 nothing)) (value s.taken)) 6 (cond (ltb limit (equivalent (net_masses s))) 7 0)
  pub figures : figures_in r ≡ figures_beside (fault_in r) (net_masses s)

-- the fault and the figures of lines once they are answered: neither where they are refused
abbrev pub fault_after : Verdict → List Decoded → ℕ
fault_after (Ok done) ls = fault_of ls
fault_after (Err refusal) ls = 0

abbrev pub figures_after : Verdict → List Decoded → List ℕ
figures_after (Ok done) ls = figures_beside (fault_of ls) (masses ls)
figures_after (Err refusal) ls = no_figures

-- what the lines of a source are answered; what they come to where they pass, and neither fault nor figures where they do not
abbrev pub verdict_of : Result Judged Refusal → Verdict
verdict_of (Ok judged) = Passes
verdict_of (Err refusal) = Err refusal

abbrev pub fault_with : Result Judged Refusal → ℕ
fault_with (Ok judged) = fault_in judged
fault_with (Err refusal) = 0

abbrev pub figures_with : Result Judged Refusal → List ℕ
figures_with (Ok judged) = figures_in judged
figures_with (Err refusal) = no_figures

-- a source's lines are answered; where they pass, its fault and its figures are those of its lines
pub record Comes (b : List ℕ) (m p first end : ℕ) (r : Result Judged Refusal) : Type 0 where
  pub size : length (figures_with r) ≡ figure_count
  pub verdict : verdict_of r ≡ verdict_from b m p first (end - first)
  pub fault : fault_with r ≡ fault_after (verdict_of r) (read_from b m p first (end - first))
  pub figures : figures_with r ≡ figures_after (verdict_of r) (read_from b m p first (end - first))
