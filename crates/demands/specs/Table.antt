-- Document 01, "Methods and their lines", said a second time: its table as a table, in its own figures. A line of a method and parameter is good
-- exactly if a row fits it; the row says for which gas it counts, whether it adds or takes, and how much. Assumes nothing.
use Rattle.std.specs.Prelude.{Bool, true, false, cond, ◌&&◌, List, [], ◌∷◌, ◌⊎◌, ◌↔◌, ◌≢◌, ◌≡◌, ℕ, ◌+◌, ◌*◌, ◌-◌, ◌≤◌, ◌<◌, eqb, length, get_or, Some, None}
use Rattle.meaning.specs.declared.RawLine.{RawLine}
use Rattle.meaning.specs.declared.Kind.{Kind}
use Rattle.meaning.specs.declared.Kind.TheVariants.{Fuel, FlareCarbon, FlareMethane, MetalIn, MetalOut, OpeningStock, ClosingStock, Feed, Product, ByProduct, CarbonateCharged, KilnDust, OtherCarbon, NitricAcid}
use Rattle.meaning.specs.Methods.{decoded, figures_of}
use Rattle.meaning.specs.Masses.{adds_to, takes_from}

-- a number is one of a list
abbrev pub Among : List ℕ → ℕ → Type 0
Among [] n = ⊥
Among (m ∷ ms) n = (n ≡ m) ⊎ Among ms n

-- the gases, in the report's order
abbrev pub CO2 : ℕ
CO2 = 0

abbrev pub CH4 : ℕ
CH4 = 1

abbrev pub N2O : ℕ
N2O = 2

pub data Sign : Type 0 where
  adds takes : Sign

-- what A or B must be: this number; at most this number; at most the first where the unit is tonne, 1, and else at most the second
pub data Range : Type 0 where
  exactly : ℕ → Range
  up_to : ℕ → Range
  by_unit : ℕ → ℕ → Range

abbrev pub In : Range → ℕ → ℕ → Type 0
In (exactly n) unit x = x ≡ n
In (up_to n) unit x = x ≤ n
In (by_unit tonne other) unit x = ((unit ≡ 1) × (x ≤ tonne)) ⊎ ((unit ≢ 1) × (x ≤ other))

-- what a line's quantity is multiplied by before the factor: A and B, A and what is left of B, or nothing
pub data Times : Type 0 where
  Q·A·B Q·A·[10000-B] Q : Times

-- a factor: one for every line, or one for each code or parameter, those of 1, 2, 3 and so on
pub data Factor : Type 0 where
  always : ℕ → Factor
  by_code : List ℕ → Factor
  by_parameter : List ℕ → Factor

pub record MethodRow : Type 0 where
  pub method : ℕ
  pub parameters : List ℕ
  pub kind : ℕ
  pub units : List ℕ
  pub codes : List ℕ
  pub a : Range
  pub b : Range
  pub gas : ℕ
  pub sign : Sign
  pub product : Times
  pub factor : Factor
  pub is : ℕ → ℕ → ℕ → Kind

abbrev pub row : ℕ → List ℕ → ℕ → List ℕ → List ℕ → Range → Range → ℕ → Sign → Times → Factor → (ℕ → ℕ → ℕ → Kind) → MethodRow
row method parameters kind units codes a b gas sign product factor is =
    record {
      method = method;
      parameters = parameters;
      kind = kind;
      units = units;
      codes = codes;
      a = a;
      b = b;
      gas = gas;
      sign = sign;
      product = product;
      factor = factor;
      is = is;
    }

-- what parameters, units and codes may be
abbrev pub just : ℕ → List ℕ
just n = n ∷ []

abbrev pub 1_or_2 : List ℕ
1_or_2 = 1 ∷ 2 ∷ []

abbrev pub 2_or_5 : List ℕ
2_or_5 = 2 ∷ 5 ∷ []

abbrev pub 1_to_4 : List ℕ
1_to_4 = 1 ∷ 2 ∷ 3 ∷ 4 ∷ []

abbrev pub 1_to_6 : List ℕ
1_to_6 = 1 ∷ 2 ∷ 3 ∷ 4 ∷ 5 ∷ 6 ∷ []

-- "A is in millionths: at most 1,000,000 where the unit is tonne, else at most 99,999,999"; "B is in ten-thousandths, 0 to 10,000"
abbrev pub content : Range
content = by_unit 1000000 99999999

abbrev pub share : Range
share = up_to 10000

-- carbon to CO2, in thousandths: 3.664
abbrev pub carbon : Factor
carbon = always 3664

-- "CaCO3 440, MgCO3 522, CaMg(CO3)2 477, FeCO3 380, codes 1 to 4"
abbrev pub carbonate : Factor
carbonate = by_code (440 ∷ 522 ∷ 477 ∷ 380 ∷ [])

-- "f in tenths of a gram per tonne: 20,000; 25,000; 50,000; 75,000; 90,000; 5", parameters 1 to 6
abbrev pub acid : Factor
acid = by_parameter (20000 ∷ 25000 ∷ 50000 ∷ 75000 ∷ 90000 ∷ 5 ∷ [])

-- Method, parameters, kind, units (1 tonne, 2 thousand m3, 3 tonne of standard fuel, 4 TJ), codes, A, B; then gas, sign, product and factor; then
-- the kind by its name, of A, B and the factor
abbrev pub table : List MethodRow
table =
    -- 1 fuel: gas and liquid; solid
    row 1 (just 0) 1 1_to_4 1_or_2 content (exactly 10000) CO2 adds Q·A·B carbon (λ a b f. Fuel a b)
    ∷ row 1 (just 0) 1 1_to_4 (just 3) content share CO2 adds Q·A·B carbon (λ a b f. Fuel a b)
    -- 2 flare: carbon that burns; methane that does not
    ∷ row 2 (just 0) 1 1_or_2 (just 0) content share CO2 adds Q·A·[10000-B] carbon (λ a b f. FlareCarbon a b)
    ∷ row 2 (just 0) 2 1_or_2 (just 0) content share CH4 adds Q·A·B (always 1) (λ a b f. FlareMethane a b)
    -- 3 metals: in, out, opening stock, closing stock
    ∷ row 3 (just 0) 10 1_to_4 (just 0) content (exactly 10000) CO2 adds Q·A·B carbon (λ a b f. MetalIn a)
    ∷ row 3 (just 0) 11 1_to_4 (just 0) content (exactly 10000) CO2 takes Q·A·B carbon (λ a b f. MetalOut a)
    ∷ row 3 (just 0) 12 1_to_4 (just 0) content (exactly 10000) CO2 adds Q·A·B carbon (λ a b f. OpeningStock a)
    ∷ row 3 (just 0) 13 1_to_4 (just 0) content (exactly 10000) CO2 takes Q·A·B carbon (λ a b f. ClosingStock a)
    -- 4 petrochemical: feed, product, by-product
    ∷ row 4 1_to_6 10 1_to_4 (just 0) content (exactly 10000) CO2 adds Q·A·B carbon (λ a b f. Feed a)
    ∷ row 4 1_to_6 11 1_to_4 (just 0) content (exactly 10000) CO2 takes Q·A·B carbon (λ a b f. Product a)
    ∷ row 4 2_or_5 14 1_to_4 (just 0) content (exactly 10000) CO2 takes Q·A·B carbon (λ a b f. ByProduct a)
    -- 5 cement: carbonate charged, kiln dust not returned, carbon other than fuel
    ∷ row 5 (just 0) 20 (just 1) 1_to_4 content share CO2 adds Q·A·B carbonate (λ a b f. CarbonateCharged a f b)
    ∷ row 5 (just 0) 21 (just 1) 1_to_4 content share CO2 takes Q·A·[10000-B] carbonate (λ a b f. KilnDust a f b)
    ∷ row 5 (just 0) 22 (just 1) (just 0) content (exactly 10000) CO2 adds Q·A·B carbon (λ a b f. OtherCarbon a)
    -- 6 nitric acid
    ∷ row 6 1_to_6 30 (just 1) (just 0) (exactly 0) (exactly 0) N2O adds Q acid (λ a b f. NitricAcid f)
    ∷ []

-- a row fits a line of a method and parameter
pub record Fits (r : MethodRow) (method parameter : ℕ) (l : RawLine) : Type 0 where
  pub of_method : method ≡ r.method
  pub of_parameter : Among r.parameters parameter
  pub of_kind : l.kind ≡ r.kind
  pub in_unit : Among r.units l.unit
  pub coded : Among r.codes l.code
  pub a : In r.a l.unit l.a
  pub b : In r.b l.unit l.b
  -- "Q is 0 to 10,000,000,000 thousandths of the unit"
  pub q : l.q ≤ 10000000000

-- a row of the table, by its index
abbrev pub row_at : ℕ → MethodRow
row_at i = get_or table i (row 0 [] 0 [] [] (exactly 0) (exactly 0) CO2 adds Q (always 0) (λ a b f. NitricAcid f))

abbrev pub FitsAt : ℕ → ℕ → ℕ → RawLine → Type 0
FitsAt i method parameter l = (i < length table) × Fits (row_at i) method parameter l

-- no row of the table fits
abbrev pub NoRow : ℕ → ℕ → RawLine → Type 0
NoRow method parameter l = (i : ℕ) → FitsAt i method parameter l → ⊥

abbrev pub factor_for : Factor → ℕ → RawLine → ℕ
factor_for (always f) parameter l = f
factor_for (by_code fs) parameter l = get_or fs (l.code - 1) 0
factor_for (by_parameter fs) parameter l = get_or fs (parameter - 1) 0

-- the kind of a line that a row fits, with its own figures
abbrev pub kind_of : MethodRow → ℕ → RawLine → Kind
kind_of r parameter l = r.is l.a l.b (factor_for r.factor parameter l)

abbrev pub product_of : Times → RawLine → ℕ
product_of Q·A·B l = l.q * l.a * l.b
product_of Q·A·[10000-B] l = l.q * l.a * (10000 - l.b)
product_of Q l = l.q

abbrev pub same : Sign → Sign → Bool
same adds adds = true
same adds takes = false
same takes adds = false
same takes takes = true

-- what a line that a row fits adds to, or takes from, the sum of a gas: nothing where the row has another sign or another gas
abbrev pub amount : Sign → ℕ → MethodRow → ℕ → RawLine → ℕ
amount sign gas r parameter l =
    cond (same r.sign sign && eqb r.gas gas) (product_of r.product l * factor_for r.factor parameter l) 0

-- rows of the table that fit a source's lines, one for each, and what all of them add to, or take from, the sum of a gas
abbrev pub FitAll : ℕ → ℕ → List ℕ → List RawLine → Type 0
FitAll method parameter [] [] = Unit {0}
FitAll method parameter [] (l ∷ ls) = ⊥
FitAll method parameter (i ∷ rows) [] = ⊥
FitAll method parameter (i ∷ rows) (l ∷ ls) = FitsAt i method parameter l × FitAll method parameter rows ls

abbrev pub total : Sign → ℕ → ℕ → List ℕ → List RawLine → ℕ
total sign gas parameter [] ls = 0
total sign gas parameter (i ∷ rows) [] = 0
total sign gas parameter (i ∷ rows) (l ∷ ls) = amount sign gas (row_at i) parameter l + total sign gas parameter rows ls

-- "rounded once to whole grams, nearest, an exact half upward": r is the nearest whole number to n over d
abbrev pub Nearest : ℕ → ℕ → ℕ → Type 0
Nearest n d r = (2 * n < (2 * r + 1) * d) × (2 * r * d ≤ 2 * n + d)

-- Decoding goes by the table, for every line of every method and parameter: bad exactly if no row fits; no two rows fit; a line that a row fits is
-- of the row's kind, with its own quantity, content and share, and counts as the row says, with its sign, for its gas, and nothing for any other.
pub record Tabled : Type 0 where
  pub bad : (method parameter : ℕ) (l : RawLine) → (decoded method parameter l ≡ None) ↔ NoRow method parameter l
  pub once : (method parameter i j : ℕ) (l : RawLine) → FitsAt i method parameter l → FitsAt j method parameter l → i ≡ j
  pub good : (method parameter i : ℕ) (l : RawLine) → FitsAt i method parameter l
      → decoded method parameter l ≡ Some (record { quantity = l.q; kind = kind_of (row_at i) parameter l })
  pub numbered : (method parameter i : ℕ) (l : RawLine) → FitsAt i method parameter l
      → figures_of (kind_of (row_at i) parameter l) ≡ record { method = method; kind = l.kind; a = l.a; b = l.b }
  pub added : (method parameter i gas : ℕ) (l : RawLine) → FitsAt i method parameter l → adds_to gas (decoded method parameter l) ≡ amount adds gas (row_at i) parameter l
  pub taken : (method parameter i gas : ℕ) (l : RawLine) → FitsAt i method parameter l → takes_from gas (decoded method parameter l) ≡ amount takes gas (row_at i) parameter l
