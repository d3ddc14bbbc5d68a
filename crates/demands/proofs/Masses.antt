-- The masses of an accepted register, and what its report holds. Assumes nothing.
use mathlib.Core.Bool.{Bool, true, false, cond}
use mathlib.Core.List.{List, [], ◌∷◌, map}
use mathlib.Core.Path.{◌≡◌, refl}
use Prim.Native.Nat.{ℕ, zero, suc, ◌<◌, ◌≤◌, ◌^◌}
use native.Mathlib.Omega.{arith}
use lib.Dec.{ltb}
use borrow.Author.Tests.{ltb-false}
use Rattle.basis.specs.Bytes.{number_at, Bytes}
use Rattle.basis.specs.Lists.{Each, count_up}
use Rattle.basis.proofs.Lists.{sum_perm, sorted_by_perm}
use Rattle.basis.proofs.Counting.{get_d_either}
use Rattle.basis.proofs.Rows.{number_at-fits}
use Rattle.meaning.specs.Masses.{added, taken, below_zero, masses, equivalent, limit}
use Rattle.meaning.specs.Register.{Source, year_of, source_at, sources_of, decoded_lines}
use Rattle.meaning.specs.Report.{Entry, entry_of, in_order}
use Rattle.meaning.specs.Methods.{decoded}
use Rattle.meaning.specs.Calls.{fault_of, mass_fault, entries_for, calculated_report}
use Rattle.meaning.proofs.Laws.{one-entry-each}
use Rattle.meaning.proofs.Sources.{no_source, length-sources, source-at}
use Rattle.demands.specs.Table.{adds, takes, total}
use Rattle.demands.specs.Valid.{entry_number, IsReport}
use Rattle.demands.specs.Demand2.{Defined, DefinedAll, States, Stated, ReportOf, Masses}
use Rattle.demands.proofs.Sums.{rounds, total-added, total-taken, rows-found, none-taken, co2_nearest, ch4_nearest, n2o_nearest}
use Rattle.demands.proofs.Holds.{is-report}
use Rattle.demands.proofs.Registers.{Passed}
use Rattle.demands.proofs.Calculated.{Calculable, entered, made-length, accepted, register-makes}

not-below : (s : Source) → mass_fault s ≡ 0 → taken 0 (decoded_lines s) ≤ added 0 (decoded_lines s)
unfolding fault_of below_zero
not-below s e = by (below_zero (decoded_lines s)) refl e
  where
    by : (c : Bool) → below_zero (decoded_lines s) ≡ c → ◌≡◌ {A = ℕ} (cond c 6 (cond (ltb limit (equivalent (masses (decoded_lines s)))) 7 0)) 0
        → taken 0 (decoded_lines s) ≤ added 0 (decoded_lines s)
    by true p q = absurd (omega arith)
    by false p q = ltb-false _ _ p

-- the entry of a source that nothing refuses
defined : (s : Source) → Calculable s → Defined s (entry_of s)
unfolding entry_of masses count_up decoded_lines
defined s c =
    let m = s.method in
    let p = s.parameter in
    let ls = s.lines in
    let r = rows-found m p ls c.good in
    record {
      number = refl;
      method = refl;
      rows = r.0;
      fit = r.1;
      not_below = not_more;
      only_cO2 = λ gas n. none-taken m p gas r.0 ls n r.1;
      co2 = co2_nearest m p r.0 ls r.1;
      ch4 = ch4_nearest m p r.0 ls r.1;
      n2o = n2o_nearest m p r.0 ls r.1;
      entered = entered s c;
    }
  where
    rows : List ℕ
    rows = (rows-found s.method s.parameter s.lines c.good).0

    not_more : (gas : ℕ) → total takes gas s.parameter rows s.lines ≤ total adds gas s.parameter rows s.lines
    not_more zero =
        let f = (rows-found s.method s.parameter s.lines c.good).1 in
        rw (total-added s.method s.parameter 0 rows s.lines f, total-taken s.method s.parameter 0 rows s.lines f) (not-below s c.kept)
    not_more (suc gas) =
        let f = (rows-found s.method s.parameter s.lines c.good).1 in
        rw (none-taken s.method s.parameter (suc gas) rows s.lines (omega arith) f) (omega arith)

-- a number that is read from eight bytes is below 2^64
read_fits : {b : List ℕ} {year : ℕ} {es : List Entry} (r : IsReport b year es) (at n : ℕ) → number_at 8 b at ≡ n → n < 2 ^ 64
read_fits {b} r at n e = rw (← e) (number_at-fits 8 b at r.bytes)

defined-all : (ss : List Source) → Each Calculable ss → DefinedAll ss (map entry_of ss)
defined-all [] c = tt
defined-all (s ∷ ss) c = (defined s c.0, defined-all ss c.1)

stated : (b : List ℕ) (i : ℕ) → States b i (source_at b i)
unfolding source_at
stated b i = record { of_number = refl; of_method = refl; of_parameter = refl; name = refl; lines = refl }

pub sources-stated : (b : List ℕ) → Stated b (sources_of b)
sources-stated b =
    record { count = length-sources b; each = λ i s l. rw (get_d_either (sources_of b) i s no_source (rw (length-sources b) l), source-at b i l) (stated b i) }

-- the report of a register whose sources nothing refuses
pub report_of_lem : (register : List ℕ) → Bytes register → Passed register → Each Calculable (sources_of register) → ReportOf register (calculated_report register)
unfolding entries_for in_order
report_of_lem register h p c =
    let ss = sources_of register in
    let r = is-report (year_of register) (entries_for ss) (register-makes register h p c) in
    record {
      sources = ss;
      stated = sources-stated register;
      entries = map entry_of ss;
      defined = defined-all ss c;
      es = entries_for ss;
      one_each = (one-entry-each ss).0;
      is_report = r;
      size = made-length register h p c;
      sums = λ figure. sum_perm figure (sorted_by_perm entry_number (map entry_of ss));
      fits = (read_fits r 24 _ r.holds.co2, read_fits r 32 _ r.holds.ch4, read_fits r 40 _ r.holds.n2o, read_fits r 48 _ r.holds.equivalent);
    }

pub masses-kept : Masses
unfolding entry_of decoded_lines
masses-kept =
    record {
      rounds = rounds;
      entries = λ register report h a. defined-all (sources_of register) (accepted register h report a).1;
      twins = λ s t m p l i. masses (map (decoded (m i) (p i)) (l i));
    }
