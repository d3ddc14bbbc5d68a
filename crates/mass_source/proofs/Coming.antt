-- What a source comes to, from the sums of its lines. Assumes nothing.
use Rattle.std.specs.Prelude.{Ok}
use mathlib.Core.List.{List}
use mathlib.Core.Path.{◌≡◌, sym, ◌∙◌}
use Prim.Native.Nat.{ℕ, zero, suc, ◌*◌, ◌-◌, ◌<◌}
use native.Mathlib.Nat.{zero-mul, sub-zero}
use native.Mathlib.Omega.{arith}
use lib.Dec.{ltb}
use lib.ListN.{get_or}
use Rattle.basis.specs.Lists.{count_up}
use Rattle.meaning.specs.Methods.{Decoded}
use Rattle.meaning.specs.Masses.{gas_count, added, taken, below_zero, mass, masses}
use Rattle.meaning.specs.Calls.{fault_of}
use Rattle.meaning.proofs.Masses.{only-co2}
use Rattle.mass_exact.specs.Amounts.{value, scale, nothing}
use Rattle.mass_exact.proofs.Scales.{mass_scaled, below-zero_scaled}
use Rattle.mass_sums.specs.declared.Sums.{Sums}
use Rattle.mass_sums.specs.Lines.{read_from, SumsOf, Reads}
use Rattle.mass_source.specs.Source.{Judged, fault_in, figures_in, figures_beside, net_grams, net_masses, JudgedBy, Comes}

module _ (ls : List Decoded) (s : Sums) (h : SumsOf ls s) where
  net_mass : (gas : ℕ) → gas < gas_count → net_grams s gas ≡ mass ls gas
  unfolding net_grams
  net_mass zero l = rw (h.added 0 l, h.taken) (mass_scaled 0 l ls)
  net_mass (suc gas) l =
      let z : added (suc gas) ls * scale (suc gas) - taken (suc gas) ls * scale (suc gas) ≡ added (suc gas) ls * scale (suc gas) =
      rw (only-co2 gas ls, zero-mul (scale (suc gas))) (sub-zero _) in
      rw (h.added (suc gas) l, ← z) (mass_scaled (suc gas) l ls)

  net_masses_lem : net_masses s ≡ masses ls
  unfolding net_masses masses count_up
  net_masses_lem = rw (net_mass 0 (omega arith), net_mass 1 (omega arith), net_mass 2 (omega arith))

  below-is : ltb (value (get_or s.added 0 nothing)) (value s.taken) ≡ below_zero ls
  below-is = rw (h.added 0 (omega arith), h.taken) (below-zero_scaled ls)

  fault-is : {r : Judged} → JudgedBy s r → fault_in r ≡ fault_of ls
  unfolding fault_of
  fault-is j = j.fault ∙ rw (below-is, net_masses_lem)

  figures_are : {r : Judged} → JudgedBy s r → figures_in r ≡ figures_beside (fault_of ls) (masses ls)
  figures_are j = j.figures ∙ rw (fault-is j, net_masses_lem)

pub comes_all : {b : List ℕ} {m p first end : ℕ} {s : Sums} {j : Judged} → Reads b m p first end (Ok s) → JudgedBy s j → Comes b m p first end (Ok j)
comes_all {b} {m} {p} {first} {end} {s} {j} h w =
    let ls = read_from b m p first (end - first) in
    record { size = w.size; verdict = sym h.0; fault = fault-is ls s h.1 w; figures = figures_are ls s h.1 w }
