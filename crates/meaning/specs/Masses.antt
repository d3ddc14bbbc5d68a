-- Document 01, "Methods and their lines" and "Rounding and equivalence": a source's masses. Assumes nothing.
use Rattle.std.specs.Prelude.{Bool, cond, List, [], ◌∷◌, map, ℕ, ◌+◌, ◌*◌, ◌-◌, ◌/◌, ◌^◌, eqb, ltb, length, get_or, Some, None}
use Rattle.basis.specs.Lists.{sum, count_up}
use Rattle.meaning.specs.declared.Kind.{Kind}
use Rattle.meaning.specs.declared.Kind.TheVariants.{Fuel, FlareCarbon, FlareMethane, MetalIn, MetalOut, OpeningStock, ClosingStock, Feed, Product, ByProduct, CarbonateCharged, KilnDust, OtherCarbon, NitricAcid}
use Rattle.meaning.specs.Methods.{Decoded, whole}

-- "CO2 1, CH4 25, N2O 298": the gases in the report's order, each by its warming potential
abbrev pub warming : List ℕ
warming = 1 ∷ 25 ∷ 298 ∷ []

abbrev pub carbon_dioxide : ℕ
carbon_dioxide = 0

abbrev pub methane : ℕ
methane = 1

abbrev pub nitrous_oxide : ℕ
nitrous_oxide = 2

abbrev pub gas_count : ℕ
gas_count = length warming

abbrev pub gases : List ℕ
gases = count_up 0 gas_count

-- what a gas's exact sum is divided by to give grams: "For CO2, grams are N / 10^10"; "CH4 .. / 10^7"; "N2O .. / 10^4"
abbrev pub divisors : List ℕ
divisors = 10 ^ 10 ∷ 10 ^ 7 ∷ 10 ^ 4 ∷ []

-- "Tonnes of carbon are kept apart from tonnes of CO2 until 3.664 has been applied": here, and nowhere else
abbrev pub co2_of_carbon : ℕ → ℕ
co2_of_carbon carbon = carbon * 3664

-- what a line's Q and content are multiplied by at most, by gas: B 3664 for CO2, B for CH4, and for N2O, whose content is f, nothing more
abbrev pub most_factor : ℕ
most_factor = co2_of_carbon whole

abbrev pub most_factors : List ℕ
most_factors = most_factor ∷ whole ∷ 1 ∷ []

-- what a line adds to, or takes from, the exact sum of one gas
pub record Contribution : Type 0 where
  pub gas : ℕ
  pub adds : ℕ
  pub takes : ℕ

abbrev pub adding : ℕ → ℕ → Contribution
adding gas n = record { gas = gas; adds = n; takes = 0 }

abbrev pub taking : ℕ → ℕ → Contribution
taking gas n = record { gas = gas; adds = 0; takes = n }

-- the column "Contribution to CO2's N", kind by kind, with the flare's methane and the nitric acid below the table
abbrev pub contribution : ℕ → Kind → Contribution
contribution q (Fuel carbon oxidised) = adding carbon_dioxide (co2_of_carbon (q * carbon * oxidised))
contribution q (FlareCarbon carbon unburned) = adding carbon_dioxide (co2_of_carbon (q * carbon * (whole - unburned)))
contribution q (FlareMethane content unburned) = adding methane (q * content * unburned)
contribution q (MetalIn carbon) = adding carbon_dioxide (co2_of_carbon (q * carbon * whole))
contribution q (MetalOut carbon) = taking carbon_dioxide (co2_of_carbon (q * carbon * whole))
contribution q (OpeningStock carbon) = adding carbon_dioxide (co2_of_carbon (q * carbon * whole))
contribution q (ClosingStock carbon) = taking carbon_dioxide (co2_of_carbon (q * carbon * whole))
contribution q (Feed carbon) = adding carbon_dioxide (co2_of_carbon (q * carbon * whole))
contribution q (Product carbon) = taking carbon_dioxide (co2_of_carbon (q * carbon * whole))
contribution q (ByProduct carbon) = taking carbon_dioxide (co2_of_carbon (q * carbon * whole))
contribution q (CarbonateCharged share factor calcined) = adding carbon_dioxide (q * share * calcined * factor)
contribution q (KilnDust share factor calcined) = taking carbon_dioxide (q * share * (whole - calcined) * factor)
contribution q (OtherCarbon carbon) = adding carbon_dioxide (co2_of_carbon (q * carbon * whole))
contribution q (NitricAcid factor) = adding nitrous_oxide (q * factor)

-- a bad line has no sum: it is refused before sums are taken
abbrev pub contribution_of : Decoded → Contribution
contribution_of (Some l) = contribution l.quantity l.kind
contribution_of None = adding carbon_dioxide 0

-- what a line adds to a gas, and what it takes from it
abbrev pub adds_to : ℕ → Decoded → ℕ
adds_to gas l = cond (eqb (contribution_of l).gas gas) (contribution_of l).adds 0

abbrev pub takes_from : ℕ → Decoded → ℕ
takes_from gas l = cond (eqb (contribution_of l).gas gas) (contribution_of l).takes 0

-- what the lines of a source add to a gas, and what they take from it
unfoldable pub added : ℕ → List Decoded → ℕ
added gas ls = sum (map (adds_to gas) ls)

unfoldable pub taken : ℕ → List Decoded → ℕ
taken gas ls = sum (map (takes_from gas) ls)

-- "An exact CO2 sum below zero is refused; zero is accepted"
unfoldable pub below_zero : List Decoded → Bool
below_zero ls = ltb (added carbon_dioxide ls) (taken carbon_dioxide ls)

-- "rounded once to whole grams, nearest, an exact half upward": n over d
unfoldable pub rounded : ℕ → ℕ → ℕ
rounded n d = (2 * n + d) / (2 * d)

-- "The exact sum of a source's lines for one gas is rounded once"
unfoldable pub mass : List Decoded → ℕ → ℕ
mass ls gas = rounded (added gas ls - taken gas ls) (get_or divisors gas 1)

unfoldable pub masses : List Decoded → List ℕ
masses ls = map (mass ls) gases

-- each mass times its gas's warming potential
unfoldable pub weighed : List ℕ → List ℕ → ℕ
weighed [] ms = 0
weighed (w ∷ ws) [] = 0
weighed (w ∷ ws) (m ∷ ms) = w * m + weighed ws ms

-- "CO2-equivalent is CO2 + 25 CH4 + 298 N2O of the rounded masses"
unfoldable pub equivalent : List ℕ → ℕ
equivalent ms = weighed warming ms

-- "at most 10^15 g a source"
abbrev pub limit : ℕ
limit = 10 ^ 15
