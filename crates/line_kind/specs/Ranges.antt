-- How large the numbers of a line are. Assumes nothing.
use Rattle.std.specs.Prelude.{◌≡◌, List, ℕ, ◌≤◌, get_or, Some, None}
use Rattle.meaning.specs.declared.RawLine.{RawLine}
use Rattle.meaning.specs.declared.Kind.{Kind}
use Rattle.meaning.specs.declared.Kind.TheVariants.{Fuel, FlareCarbon, FlareMethane, MetalIn, MetalOut, OpeningStock, ClosingStock, Feed, Product, ByProduct, CarbonateCharged, KilnDust, OtherCarbon, NitricAcid}
use Rattle.meaning.specs.Methods.{Decoded, whole, largest_content, most_quantity}
use Rattle.meaning.specs.Masses.{co2_of_carbon}

-- n is the entry of a table at a place, within bounds that hold of every entry
pub record TableEntry (table : List ℕ) (low high at n : ℕ) : Type 0 where
  pub is : n ≡ get_or table at 0
  pub above : low ≤ n
  pub below : n ≤ high

-- carbon's own factor, above which no carbonate's is
abbrev pub carbon_factor : ℕ
carbon_factor = co2_of_carbon 1

abbrev pub most_acid : ℕ
most_acid = 90000

-- what every line keeps, in any unit
pub record InRanges (l : RawLine) : Type 0 where
  pub quantity : l.q ≤ most_quantity
  pub content : l.a ≤ largest_content
  pub share : l.b ≤ whole

-- the factors of a kind are in their ranges
abbrev pub KindFits : Kind → Type 0
KindFits (Fuel carbon oxidised) = (carbon ≤ largest_content) × (oxidised ≤ whole)
KindFits (FlareCarbon carbon unburned) = (carbon ≤ largest_content) × (unburned ≤ whole)
KindFits (FlareMethane methane unburned) = (methane ≤ largest_content) × (unburned ≤ whole)
KindFits (MetalIn carbon) = carbon ≤ largest_content
KindFits (MetalOut carbon) = carbon ≤ largest_content
KindFits (OpeningStock carbon) = carbon ≤ largest_content
KindFits (ClosingStock carbon) = carbon ≤ largest_content
KindFits (Feed carbon) = carbon ≤ largest_content
KindFits (Product carbon) = carbon ≤ largest_content
KindFits (ByProduct carbon) = carbon ≤ largest_content
KindFits (CarbonateCharged share factor calcined) = (share ≤ largest_content) × (factor ≤ carbon_factor) × (calcined ≤ whole)
KindFits (KilnDust share factor calcined) = (share ≤ largest_content) × (factor ≤ carbon_factor) × (calcined ≤ whole)
KindFits (OtherCarbon carbon) = carbon ≤ largest_content
KindFits (NitricAcid factor) = factor ≤ most_acid

-- the numbers of a line that is good are in their ranges
abbrev pub DecodedFits : Decoded → Type 0
DecodedFits (Some l) = (l.quantity ≤ most_quantity) × KindFits l.kind
DecodedFits None = Unit {0}
