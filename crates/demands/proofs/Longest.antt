-- No report has a text of more than 38,994 bytes. Assumes nothing.
use mathlib.Core.List.{List, [], ◌∷◌, map}
use mathlib.Core.Path.{◌≡◌}
use Prim.Native.Nat.{ℕ, ◌+◌, ◌*◌, ◌≤◌}
use native.Mathlib.Omega.{arith}
use lib.ListN.{length, length-append}
use Rattle.basis.specs.Lists.{Each, sum, joined}
use Rattle.basis.proofs.Counting.{sum_bounded}
use Rattle.meaning.specs.Report.{Entry}
use Rattle.meaning.specs.Text.{decimal, text_line}
use Rattle.meaning.proofs.Decimals.{decimal-few}
use Rattle.demands.specs.Table.{CO2, CH4, N2O}
use Rattle.demands.specs.Valid.{mass_of, equivalent_of, Entered}
use Rattle.demands.specs.Text.{Longest}
use Rattle.demands.proofs.Texts.{text-is}

-- a line of six numbers: their digits, and a byte behind each
six_long : (a b c d e f : ℕ)
    → length (text_line (a ∷ b ∷ c ∷ d ∷ e ∷ f ∷ []))
    ≡ length (decimal a) + length (decimal b) + length (decimal c) + length (decimal d) + length (decimal e) + length (decimal f) + 6
unfolding text_line
six_long a b c d e f = simp length-append (omega arith)

abbrev entry_line : Entry → List ℕ
entry_line e = e.number ∷ e.method ∷ mass_of CO2 e ∷ mass_of CH4 e ∷ mass_of N2O e ∷ equivalent_of e ∷ []

-- "at most 10^15 g a source" leaves CH4 14 digits and N2O 13
entry-long : (e : Entry) → Entered e → length (text_line (entry_line e)) ≤ 76
entry-long e v =
    omega (
      arith,
      six_long e.number e.method (mass_of CO2 e) (mass_of CH4 e) (mass_of N2O e) (equivalent_of e),
      decimal-few 9 e.number (omega (arith, v.number)),
      decimal-few 0 e.method (omega (arith, v.method)),
      decimal-few 15 (mass_of CO2 e) (omega (arith, v.within)),
      decimal-few 13 (mass_of CH4 e) (omega (arith, v.within)),
      decimal-few 12 (mass_of N2O e) (omega (arith, v.within)),
      decimal-few 15 (equivalent_of e) (omega (arith, v.within)),
    )

entries-long : (es : List Entry) → Each Entered es → length (joined (map text_line (map entry_line es))) ≤ 76 * length es
unfolding joined
entries-long [] v = omega arith
entries-long (e ∷ es) v = rw length-append (omega (arith, entry-long e v.0, entries-long es v.1))

pub longest : Longest
unfolding joined
longest year es r =
    let v = r.each in
    let co2 : sum (map (mass_of CO2) es) ≤ 1000000000000000 * length es = sum_bounded (mass_of CO2) Entered 1000000000000000 (λ e h. omega (arith, h.within)) es v in
    let ch4 : sum (map (mass_of CH4) es) ≤ 40000000000000 * length es = sum_bounded (mass_of CH4) Entered 40000000000000 (λ e h. omega (arith, h.within)) es v in
    let n2o : sum (map (mass_of N2O) es) ≤ 3355704697986 * length es = sum_bounded (mass_of N2O) Entered 3355704697986 (λ e h. omega (arith, h.within)) es v in
    let eq : sum (map equivalent_of es) ≤ 1000000000000000 * length es = sum_bounded equivalent_of Entered 1000000000000000 (λ e h. omega (arith, h.within)) es v in
    rw (← text-is year es v, length-append)
    (omega (
      arith,
      entries-long es v,
      six_long year (length es) (sum (map (mass_of CO2) es)) (sum (map (mass_of CH4) es)) (sum (map (mass_of N2O) es)) (sum (map equivalent_of es)),
      decimal-few 3 year (omega (arith, r.in_range)),
      decimal-few 2 (length es) (omega (arith, r.count)),
      decimal-few 17 (sum (map (mass_of CO2) es)) (omega (arith, r.count, co2)),
      decimal-few 16 (sum (map (mass_of CH4) es)) (omega (arith, r.count, ch4)),
      decimal-few 15 (sum (map (mass_of N2O) es)) (omega (arith, r.count, n2o)),
      decimal-few 17 (sum (map equivalent_of es)) (omega (arith, r.count, eq)),
      r.count,
    ))
