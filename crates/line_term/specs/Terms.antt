-- A kind as one product: what a line of it adds to, or takes from, one gas. Assumes nothing.
use Rattle.std.specs.Prelude.{Bool, true, false, ◌≡◌, ℕ, ◌*◌, ◌-◌, ◌≤◌, ◌<◌, get_or}
use Rattle.line_term.specs.declared.Term.{Term}
use Rattle.meaning.specs.declared.Kind.{Kind}
use Rattle.meaning.specs.declared.Kind.TheVariants.{Fuel, FlareCarbon, FlareMethane, MetalIn, MetalOut, OpeningStock, ClosingStock, Feed, Product, ByProduct, CarbonateCharged, KilnDust, OtherCarbon, NitricAcid}
use Rattle.meaning.specs.Methods.{whole, largest_content}
use Rattle.meaning.specs.Masses.{Contribution, carbon_dioxide, methane, nitrous_oxide, adding, taking, most_factors, gas_count}
use Rattle.line_kind.specs.Ranges.{carbon_factor}

abbrev pub contributed : Bool → ℕ → ℕ → Contribution
contributed false gas n = adding gas n
contributed true gas n = taking gas n

-- a gas that is added: a content times a factor
abbrev pub gas_term : ℕ → ℕ → ℕ → Term
gas_term gas content factor = record { gas = gas; takes = false; content = content; factor = factor }

-- CO2 of a content, of the share of it that counts, and of the factor of CO2
abbrev pub co2_term : Bool → ℕ → ℕ → ℕ → Term
co2_term takes content share factor = record { gas = carbon_dioxide; takes = takes; content = content; factor = share * factor }

abbrev pub carbon_term : Bool → ℕ → ℕ → Term
carbon_term takes carbon share = co2_term takes carbon share carbon_factor

-- each kind as its term
abbrev pub term_of : Kind → Term
term_of (Fuel carbon oxidised) = carbon_term false carbon oxidised
term_of (FlareCarbon carbon unburned) = carbon_term false carbon (whole - unburned)
term_of (FlareMethane content unburned) = gas_term methane content unburned
term_of (MetalIn carbon) = carbon_term false carbon whole
term_of (MetalOut carbon) = carbon_term true carbon whole
term_of (OpeningStock carbon) = carbon_term false carbon whole
term_of (ClosingStock carbon) = carbon_term true carbon whole
term_of (Feed carbon) = carbon_term false carbon whole
term_of (Product carbon) = carbon_term true carbon whole
term_of (ByProduct carbon) = carbon_term true carbon whole
term_of (CarbonateCharged share factor calcined) = co2_term false share calcined factor
term_of (KilnDust share factor calcined) = co2_term true share (whole - calcined) factor
term_of (OtherCarbon carbon) = carbon_term false carbon whole
term_of (NitricAcid factor) = gas_term nitrous_oxide factor 1

-- a term says what a contribution is for every quantity, and its numbers are in their ranges; only CO2 is taken from
pub record Weighs (of : ℕ → Contribution) (t : Term) : Type 0 where
  pub sum : (q : ℕ) → of q ≡ contributed t.takes t.gas (q * t.content * t.factor)
  pub gas : t.gas < gas_count
  pub content : t.content ≤ largest_content
  pub factor : t.factor ≤ get_or most_factors t.gas 0
  pub only : t.takes ≡ true → t.gas ≡ carbon_dioxide
