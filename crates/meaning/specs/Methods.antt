-- Document 01, "Methods and their lines": which lines a method has, and what each is read to. Assumes nothing.
use Rattle.std.specs.Prelude.{Option, Bool, true, false, cond, ◌&&◌, ◌||◌, List, [], ◌∷◌, ℕ, eqb, leb, get_or, Some, None}
use Rattle.basis.specs.Answers.{Verdict, Passes, Refuses}
use Rattle.meaning.specs.declared.RawLine.{RawLine}
use Rattle.meaning.specs.declared.Line.{Line}
use Rattle.meaning.specs.declared.Kind.{Kind}
use Rattle.meaning.specs.declared.Kind.TheVariants.{Fuel, FlareCarbon, FlareMethane, MetalIn, MetalOut, OpeningStock, ClosingStock, Feed, Product, ByProduct, CarbonateCharged, KilnDust, OtherCarbon, NitricAcid}

abbrev pub within : ℕ → ℕ → ℕ → Bool
within low high n = leb low n && leb n high

-- "method and parameter (1 each, a pair listed under the methods)": 1, 2, 3 and 5 with 0, 4 and 6 with 1 to 6
abbrev pub listed : ℕ → ℕ → Bool
listed method parameter =
    (eqb method 1 || eqb method 2 || eqb method 3 || eqb method 5) && eqb parameter 0
    || (eqb method 4 || eqb method 6) && within 1 6 parameter

-- "B is in ten-thousandths, 0 to 10,000": the whole of a share
abbrev pub whole : ℕ
whole = 10000

-- a line's A where it is a carbon content: as the line states it
abbrev pub content_of : RawLine → ℕ
content_of l = l.a

-- "A is in millionths: at most 1,000,000 where the unit is tonne, else at most 99,999,999"
abbrev pub largest_content : ℕ
largest_content = 99999999

abbrev pub most_content : ℕ → ℕ
most_content unit = cond (eqb unit 1) 1000000 largest_content

-- "Q is 0 to 10,000,000,000 thousandths of the unit"
abbrev pub most_quantity : ℕ
most_quantity = 10000000000

-- what every line keeps: the ranges of Q, A and B
abbrev pub in_range : RawLine → Bool
in_range l = leb l.q most_quantity && leb (content_of l) (most_content l.unit) && leb l.b whole

-- "The carbonate factors k, in thousandths, are CaCO3 440, MgCO3 522, CaMg(CO3)2 477, FeCO3 380, codes 1 to 4": source 001, Table 5, which its
-- text calls table 3. No carbonate has code 0.
abbrev pub carbonates : List ℕ
carbonates = 0 ∷ 440 ∷ 522 ∷ 477 ∷ 380 ∷ []

-- "f in tenths of a gram per tonne", by parameter 1 to 6: source 001, Table 8, in its order, 0.0005 kg as printed. No plant has parameter 0.
abbrev pub acids : List ℕ
acids = 0 ∷ 20000 ∷ 25000 ∷ 50000 ∷ 75000 ∷ 90000 ∷ 5 ∷ []

abbrev pub factor_of : List ℕ → ℕ → ℕ
factor_of table code = get_or table code 0

-- A kind in this paper's figures: the method that has it, its number, and what its A and B are
pub record KindFigures : Type 0 where
  pub method : ℕ
  pub kind : ℕ
  pub a : ℕ
  pub b : ℕ

abbrev pub figured : ℕ → ℕ → ℕ → ℕ → KindFigures
figured method kind a b = record { method = method; kind = kind; a = a; b = b }

abbrev pub figures_of : Kind → KindFigures
figures_of (Fuel carbon oxidised) = figured 1 1 carbon oxidised
figures_of (FlareCarbon carbon unburned) = figured 2 1 carbon unburned
figures_of (FlareMethane methane unburned) = figured 2 2 methane unburned
figures_of (MetalIn carbon) = figured 3 10 carbon whole
figures_of (MetalOut carbon) = figured 3 11 carbon whole
figures_of (OpeningStock carbon) = figured 3 12 carbon whole
figures_of (ClosingStock carbon) = figured 3 13 carbon whole
figures_of (Feed carbon) = figured 4 10 carbon whole
figures_of (Product carbon) = figured 4 11 carbon whole
figures_of (ByProduct carbon) = figured 4 14 carbon whole
figures_of (CarbonateCharged share factor calcined) = figured 5 20 share calcined
figures_of (KilnDust share factor calcined) = figured 5 21 share calcined
figures_of (OtherCarbon carbon) = figured 5 22 carbon whole
figures_of (NitricAcid factor) = figured 6 30 0 0

-- what decoding a line yields: the line, or nothing where it is bad
abbrev pub Decoded : Type 0
Decoded = Option Line

-- a line of the kind where the test holds, and else what follows
abbrev pub given : Bool → RawLine → Kind → Decoded → Decoded
given true l kind other = Some (record { quantity = l.q; kind = kind })
given false l kind other = other

abbrev pub is_kind : ℕ → RawLine → Bool
is_kind n l = eqb l.kind n

-- "Units: 1 tonne, 2 thousand m3, 3 tonne of standard fuel, 4 TJ": "any unit"; "units 1 and 2"; "unit 1"
abbrev pub any_unit : RawLine → Bool
any_unit l = within 1 4 l.unit

abbrev pub gas_unit : RawLine → Bool
gas_unit l = within 1 2 l.unit

abbrev pub in_tonnes : RawLine → Bool
in_tonnes l = eqb l.unit 1

abbrev pub code_from : ℕ → ℕ → RawLine → Bool
code_from low high l = within low high l.code

abbrev pub coded : ℕ → RawLine → Bool
coded n l = eqb l.code n

abbrev pub b_whole : RawLine → Bool
b_whole l = eqb l.b whole

-- "1 fuel": "1, any unit; code 1 gas, 2 liquid, 3 solid; B oxidation, 10,000 for gas and liquid"
abbrev pub fuel : RawLine → Decoded
fuel l = given (is_kind 1 l && any_unit l && (coded 3 l || code_from 1 2 l && b_whole l)) l (Fuel (content_of l) l.b) None

-- "2 flare": "1, units 1 and 2, code 0, B share unburned"; "kind 2, unburned methane: units 1 and 2, code 0, A tonnes of CH4 per unit, B share
-- unburned". Source 001 prints formula 8 with a plus where its product is meant.
abbrev pub flare : RawLine → Decoded
flare l =
    given (is_kind 1 l && gas_unit l && coded 0 l) l (FlareCarbon (content_of l) l.b)
    (given (is_kind 2 l && gas_unit l && coded 0 l) l (FlareMethane l.a l.b) None)

-- what the carbon balances of methods 3 and 4 ask of each line: "any unit, code 0, B 10,000"
abbrev pub balanced : RawLine → Bool
balanced l = any_unit l && coded 0 l && b_whole l

-- "3 metals": "10 in, 12 opening stock"; "11 out, 13 closing stock". Source 001, formulas 17 and 18.
abbrev pub metals : RawLine → Decoded
metals l =
    given (is_kind 10 l && balanced l) l (MetalIn (content_of l))
    (given (is_kind 11 l && balanced l) l (MetalOut (content_of l))
    (given (is_kind 12 l && balanced l) l (OpeningStock (content_of l))
    (given (is_kind 13 l && balanced l) l (ClosingStock (content_of l)) None)))

-- "4 petrochemical": "10 feed, as method 3"; "11 product, 14 by-product, likewise; 14 only with parameter 2 or 5". Source 001, formula 50, whose
-- third sum prints the index of the feed's content where its own is meant.
abbrev pub petrochemical : ℕ → RawLine → Decoded
petrochemical parameter l =
    given (is_kind 10 l && balanced l) l (Feed (content_of l))
    (given (is_kind 11 l && balanced l) l (Product (content_of l))
    (given (is_kind 14 l && balanced l && (eqb parameter 2 || eqb parameter 5)) l (ByProduct (content_of l)) None))

-- "5 cement": "20 carbonate charged, unit 1, code 1 to 4, B calcined share"; "21 kiln dust not returned, likewise"; "22 carbon other than fuel,
-- unit 1, code 0, B 10,000". Source 001, formula 42, whose bracket after the dust is missing: the last sum adds.
abbrev pub cement : RawLine → Decoded
cement l =
    given (is_kind 20 l && in_tonnes l && code_from 1 4 l) l (CarbonateCharged l.a (factor_of carbonates l.code) l.b)
    (given (is_kind 21 l && in_tonnes l && code_from 1 4 l) l (KilnDust l.a (factor_of carbonates l.code) l.b)
    (given (is_kind 22 l && in_tonnes l && coded 0 l && b_whole l) l (OtherCarbon (content_of l)) None))

-- "Method 6 is nitric acid: kind 30, unit 1, code 0, A 0, B 0, parameter 1 to 6". Table 8 prints NiO for N2O.
abbrev pub nitric_acid : ℕ → RawLine → Decoded
nitric_acid parameter l = given (is_kind 30 l && in_tonnes l && coded 0 l && eqb l.a 0 && eqb l.b 0) l (NitricAcid (factor_of acids parameter)) None

-- "A line that is not one of its method's kinds is refused"
unfoldable pub by_method : ℕ → ℕ → RawLine → Decoded
by_method method parameter l =
    cond (eqb method 1) (fuel l)
    (cond (eqb method 2) (flare l)
    (cond (eqb method 3) (metals l)
    (cond (eqb method 4) (petrochemical parameter l)
    (cond (eqb method 5) (cement l)
    (cond (eqb method 6) (nitric_acid parameter l) None)))))

-- a raw line of a method and parameter, read to its kind, or bad; a pair that is not listed has no lines
unfoldable pub decoded : ℕ → ℕ → RawLine → Decoded
decoded method parameter l = cond (listed method parameter && in_range l) (by_method method parameter l) None

abbrev pub is_bad : Decoded → Bool
is_bad (Some l) = false
is_bad None = true

-- what decoding yields, as this paper answers it of line j: a good line passes, a bad one is refusal 5 at its place
abbrev pub refusal_of : Decoded → ℕ → Verdict
refusal_of (Some l) j = Passes
refusal_of None j = Refuses 5 j
