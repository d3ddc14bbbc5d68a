-- The sources of a register: where an entry stands, its number by index, the numbers that stand twice, and what a source that nothing refuses keeps. Assumes nothing.
use mathlib.Core.List.{List, [], map}
use mathlib.Core.Bool.{Bool, true, false, cond}
use mathlib.Core.Path.{◌≡◌, refl, sym, ap, ◌∙◌}
use Prim.Native.Nat.{ℕ, ◌+◌, ◌≤◌, ◌<◌}
use native.Mathlib.Omega.{arith}
use lib.Dec.{eqb, ltb}
use lib.ListN.{length, get_or, take, length-map, get_or-map, length-take}
use lib.Seq.{get_or-take}
use borrow.Author.Tests.{ltb-false, leb-true, eqb-true, eqb-false, eq-eqb, not-false}
use Rattle.basis.specs.Lists.{stands}
use Rattle.basis.proofs.Bools.{and-true, or_false}
use Rattle.basis.proofs.Counting.{length_counted, at_counted, any_some, some-any}
use Rattle.meaning.specs.Methods.{listed}
use Rattle.meaning.specs.Masses.{below_zero, masses, equivalent, limit}
use Rattle.meaning.specs.Register.{Source, source_count, line_count, name_bytes, source_entry, number_in, line_count_in, first_line_in, name_length_in, name_offset_in, source_at, sources_of, line_start, name_start, misplaced, unsound, repeats, decoded_lines}
use Rattle.meaning.specs.Calls.{fault_of, mass_fault}

-- an entry that stands where the one before it ended, with its lines and its name within the register's
pub record Placed (b : List ℕ) (i : ℕ) : Type 0 where
  pub line : first_line_in (source_entry b i) ≡ line_start b i
  pub name : name_offset_in (source_entry b i) ≡ name_start b i
  pub lines : first_line_in (source_entry b i) + line_count_in (source_entry b i) ≤ line_count b
  pub names : name_offset_in (source_entry b i) + name_length_in (source_entry b i) ≤ name_bytes b

pub placed : (b : List ℕ) (i : ℕ) → misplaced b i ≡ false → Placed b i
unfolding misplaced
placed b i e =
    let c1 = or_false _ _ e in
    let c2 = or_false _ _ c1.0 in
    let c3 = or_false _ _ c2.0 in
    record {
      line = eqb-true _ _ (not-false _ c3.0);
      name = eqb-true _ _ (not-false _ c3.1);
      lines = ltb-false _ _ c2.1;
      names = ltb-false _ _ c1.1;
    }

-- a register's sources and their numbers, by index
abbrev pub no_source : Source
no_source = record { number = 0; method = 0; parameter = 0; name = []; lines = [] }

abbrev pub source_number : Source → ℕ
source_number s = s.number

abbrev pub source_numbers : List ℕ → List ℕ
source_numbers b = map source_number (sources_of b)

pub length-sources : (b : List ℕ) → length (sources_of b) ≡ source_count b
unfolding sources_of
length-sources b = length_counted (source_at b) 0 (source_count b)

pub length-numbers : (b : List ℕ) → length (source_numbers b) ≡ source_count b
length-numbers b = length-map (sources_of b) source_number ∙ length-sources b

pub source-at : (b : List ℕ) (i : ℕ) → i < source_count b → get_or (sources_of b) i no_source ≡ source_at b i
unfolding sources_of
source-at b i l = at_counted (source_at b) no_source (source_count b) i l

pub number-at : (b : List ℕ) (i : ℕ) → i < source_count b → get_or (source_numbers b) i 0 ≡ number_in (source_entry b i)
unfolding source_at
number-at b i l = get_or-map source_number (sources_of b) i no_source ∙ ap source_number (source-at b i l)

-- a number stands in the front of a list exactly if it stands at a smaller index
pub repeats-some : (ns : List ℕ) (i : ℕ) → i < length ns → repeats ns i ≡ true → (j : ℕ) × (j < i) × (get_or ns j 0 ≡ get_or ns i 0)
unfolding repeats stands
repeats-some ns i l e =
    let r = any_some (λ m. eqb m (get_or ns i 0)) 0 (take i ns) e in
    let m : r.0 < i = omega (arith, rw length-take at r.1) in
    (r.0, m, sym (get_or-take i ns r.0 0 m) ∙ eqb-true _ _ r.2)

pub some-repeats : (ns : List ℕ) (i j : ℕ) → i < length ns → j < i → get_or ns j 0 ≡ get_or ns i 0 → repeats ns i ≡ true
unfolding repeats stands
some-repeats ns i j l m e =
    let q : j < length (take i ns) = rw length-take (omega arith) in
    some-any (λ m. eqb m (get_or ns i 0)) 0 (take i ns) j q (eq-eqb _ _ (get_or-take i ns j 0 m ∙ e))

-- what is asked of a source itself, where nothing is wrong with it
pub record Sound (s : Source) : Type 0 where
  pub number : 0 < s.number
  pub pair : listed s.method s.parameter ≡ true
  pub name : (1 ≤ length s.name) × (length s.name ≤ 64)

pub sound_parts : (s : Source) → unsound s ≡ false → Sound s
unfolding unsound
sound_parts s e =
    let c1 = or_false _ _ e in
    let c2 = or_false _ _ c1.0 in
    let c3 = or_false _ _ c2.0 in
    let c4 = or_false _ _ c3.0 in
    let z : s.number ≡ 0 → ⊥ = eqb-false s.number 0 c4.0 in
    let n : 0 < s.number = omega arith in
    let w = and-true _ _ (not-false _ c2.1) in
    record { number = n; pair = not-false _ c4.1; name = (leb-true 1 (length s.name) w.0, leb-true (length s.name) 64 w.1) }

-- where nothing refuses a source, its equivalent keeps the limit
pub kept-within : (s : Source) → mass_fault s ≡ 0 → equivalent (masses (decoded_lines s)) ≤ limit
unfolding fault_of
kept-within s e = by (below_zero (decoded_lines s)) (ltb limit (equivalent (masses (decoded_lines s)))) refl e
  where
    by : (c d : Bool) → ltb limit (equivalent (masses (decoded_lines s))) ≡ d → ◌≡◌ {A = ℕ} (cond c 6 (cond d 7 0)) 0 → equivalent (masses (decoded_lines s)) ≤ limit
    by true d q h = absurd (omega arith)
    by false true q h = absurd (omega arith)
    by false false q h = ltb-false _ _ q
