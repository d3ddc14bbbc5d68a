-- The term of a kind is what its contribution says, and its numbers are in their ranges. Assumes nothing.
use mathlib.Core.Bool.{Bool, true, false, true≢false}
use mathlib.Core.Path.{◌≡◌, refl, sym, ap}
use Prim.Native.Nat.{ℕ, ◌*◌, ◌≤◌, ◌<◌}
use native.Mathlib.Nat.{mul_assoc, mul-one, mul-le-mul}
use native.Mathlib.Omega.{arith}
use lib.ListN.{get_or}
use Rattle.meaning.specs.declared.Kind.{Kind}
use Rattle.meaning.specs.declared.Kind.TheVariants.{Fuel, FlareCarbon, FlareMethane, MetalIn, MetalOut, OpeningStock, ClosingStock, Feed, Product, ByProduct, CarbonateCharged, KilnDust, OtherCarbon, NitricAcid}
use Rattle.meaning.specs.Methods.{whole, largest_content}
use Rattle.meaning.specs.Masses.{carbon_dioxide, nitrous_oxide, gas_count, co2_of_carbon, most_factor, most_factors, contribution}
use Rattle.line_kind.specs.Ranges.{KindFits, carbon_factor}
use Rattle.line_term.specs.declared.Term.{Term}
use Rattle.line_term.specs.Terms.{contributed, gas_term, co2_term, carbon_term, term_of, Weighs}

share-fits : {share factor : ℕ} → share ≤ whole → factor ≤ carbon_factor → share * factor ≤ most_factor
share-fits s f = mul-le-mul s f

gas_weighs : {gas content factor : ℕ} → gas < gas_count → content ≤ largest_content → factor ≤ get_or most_factors gas 0
    → Weighs (λ q. contributed false gas (q * content * factor)) (gas_term gas content factor)
gas_weighs g c f = record { sum = λ q. refl; gas = g; content = c; factor = f; only = λ e. absurd (true≢false (sym e)) }

-- a share of a content, by a factor, as one product
co2_weighs : {content share factor : ℕ} (takes : Bool) → content ≤ largest_content → share ≤ whole → factor ≤ carbon_factor
    → Weighs (λ q. contributed takes carbon_dioxide (q * content * share * factor)) (co2_term takes content share factor)
co2_weighs {content} {share} {factor} takes c s f =
    record {
      sum = λ q. ap (contributed takes carbon_dioxide) (mul_assoc (q * content) share factor);
      gas = omega arith;
      content = c;
      factor = share-fits s f;
      only = λ e. refl;
    }

carbon_weighs : {carbon share : ℕ} (takes : Bool) → carbon ≤ largest_content → share ≤ whole
    → Weighs (λ q. contributed takes carbon_dioxide (co2_of_carbon (q * carbon * share))) (carbon_term takes carbon share)
carbon_weighs takes c s = co2_weighs takes c s (omega arith)

kind_weighs : (k : Kind) → KindFits k → Weighs (λ q. contribution q k) (term_of k)
kind_weighs (Fuel carbon oxidised) h = carbon_weighs false h.0 h.1
kind_weighs (FlareCarbon carbon unburned) h = carbon_weighs false h.0 (omega arith)
kind_weighs (FlareMethane content unburned) h = gas_weighs (omega arith) h.0 h.1
kind_weighs (MetalIn carbon) h = carbon_weighs false h (omega arith)
kind_weighs (MetalOut carbon) h = carbon_weighs true h (omega arith)
kind_weighs (OpeningStock carbon) h = carbon_weighs false h (omega arith)
kind_weighs (ClosingStock carbon) h = carbon_weighs true h (omega arith)
kind_weighs (Feed carbon) h = carbon_weighs false h (omega arith)
kind_weighs (Product carbon) h = carbon_weighs true h (omega arith)
kind_weighs (ByProduct carbon) h = carbon_weighs true h (omega arith)
kind_weighs (CarbonateCharged share factor calcined) h = co2_weighs false h.0 h.2 h.1
kind_weighs (KilnDust share factor calcined) h = co2_weighs true h.0 (omega arith) h.1
kind_weighs (OtherCarbon carbon) h = carbon_weighs false h (omega arith)
kind_weighs (NitricAcid factor) h = simp mul-one at (gas_weighs {gas = nitrous_oxide} {content = factor} {factor = 1} (omega arith) (omega arith) (omega arith))

module _ (k : Kind) {t : Term} (h : KindFits k) (e : t ≡ term_of k) where
  pub term_weighs : Weighs (λ q. contribution q k) t
  term_weighs = rw e (kind_weighs k h)

  pub term_gas : t.gas < gas_count
  term_gas = term_weighs.gas

  pub term_content : t.content ≤ largest_content
  term_content = term_weighs.content

  pub term_factor : t.factor ≤ get_or most_factors t.gas 0
  term_factor = term_weighs.factor

  pub term_only : t.takes ≡ true → t.gas ≡ carbon_dioxide
  term_only = term_weighs.only

pub ruleset term_ranges = (term_gas, term_content, term_factor, term_only)
