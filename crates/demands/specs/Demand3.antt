-- "3. Take any accepted register. Deal its sources out among one or more registers of its year, each source with its name and lines into one
-- of them, in any order. With room for every report, each of these is accepted, and combining all their reports, in any order and any
-- grouping, gives the whole register's report byte for byte. The year's empty report changes nothing when combined. Removing a source and
-- combining its own report again gives the report we had." Assumes nothing.
use Rattle.std.specs.Prelude.{true, ◌≡◌, ℕ, ◌+◌, ◌*◌, ◌-◌, ◌≤◌, ◌<◌, length, get_or}
use mathlib.Core.List.{List, [], ◌∷◌, map, Perm}
use Rattle.basis.specs.Bytes.{Bytes}
use Rattle.basis.specs.Lists.{Each, joined}
use Rattle.basis.specs.Answers.{Outcome}
use Rattle.meaning.specs.Register.{Source, sources_of, encode}
use Rattle.demands.specs.Fields.{year_in, sources_in, report_year, entries_in}
use Rattle.meaning.specs.Report.{Entry, report_bytes, entries_of, well_formed}
use Rattle.meaning.specs.Calls.{calculated, combined, removed}
use Rattle.demands.specs.Valid.{LaidRight}
use Rattle.demands.specs.Trees.{Tree, leaves, wrote, Accepted, result, EachAccepted, Room}

-- a register, and the buffer that is lent to its calculation
pub record Lent : Type 0 where
  pub register : List ℕ
  pub buffer : List ℕ

-- a register of a year that is laid right, with room for its report
pub record Dealt (year : ℕ) (p : Lent) : Type 0 where
  pub bytes : Bytes p.register
  pub laid : LaidRight p.register
  pub same_year : year_in p.register ≡ year
  pub room : 56 + 40 * sources_in p.register ≤ length p.buffer

abbrev pub calculation : Lent → Outcome
calculation p = calculated p.register p.buffer

-- Any accepted register; any registers whose sources together are its sources, in any order: each is accepted. And any tree that has each of
-- their reports once, in any order, with room at every node: each combination is accepted, and the root writes the whole register's report.
abbrev pub Dealing : Type 0
Dealing =
    (whole : Lent) (parts : List Lent)
    → Bytes whole.register
    → Accepted (calculation whole)
    → Each (Dealt (year_in whole.register)) parts
    → Perm (joined (map (λ p. sources_of p.register) parts)) (sources_of whole.register)
    → Each (λ p. Accepted (calculation p)) parts
    × ((t : Tree)
    → Perm (leaves t) (map (λ p. wrote (calculation p)) parts)
    → Room entries_in (λ n. 56 + 40 * n) t
    → EachAccepted combined t × (result combined t ≡ wrote (calculation whole)))

-- For every way to deal the sources of an accepted register out there are such registers.
abbrev pub EveryDealing : Type 0
EveryDealing =
    (whole : Lent) (deals : List (List Source))
    → Bytes whole.register
    → Accepted (calculation whole)
    → Perm (joined deals) (sources_of whole.register)
    → Each (λ ss. let r = encode (year_in whole.register) ss in Bytes r × LaidRight r × (year_in r ≡ year_in whole.register) × (sources_of r ≡ ss)) deals

-- a well-formed report of bytes
pub record GoodReport (b : List ℕ) : Type 0 where
  pub bytes : Bytes b
  pub formed : well_formed b ≡ true

-- the combination of two reports is accepted and writes a third
abbrev pub CombinesTo : List ℕ → List ℕ → List ℕ → List ℕ → Type 0
CombinesTo one other buffer whole = Accepted (combined one other buffer) × (wrote (combined one other buffer) ≡ whole)

-- The empty report of a report's year changes nothing, on either side.
abbrev pub Neutral : Type 0
Neutral =
    (b buffer : List ℕ) → GoodReport b → length b ≤ length buffer
    → CombinesTo b (report_bytes (report_year b) []) buffer b × CombinesTo (report_bytes (report_year b) []) b buffer b

-- Removing an entry of a well-formed report and combining its one-entry report again, on either side, gives the report.
abbrev pub Again : Type 0
Again =
    (b result buffer : List ℕ) (i : ℕ) (e : Entry)
    → GoodReport b
    → i < entries_in b
    → get_or (entries_of b) i e ≡ e
    → 56 + 40 * (entries_in b - 1) ≤ length result
    → length b ≤ length buffer
    → Accepted (removed b e.number result)
    × CombinesTo (wrote (removed b e.number result)) (report_bytes (report_year b) (e ∷ [])) buffer b
    × CombinesTo (report_bytes (report_year b) (e ∷ [])) (wrote (removed b e.number result)) buffer b

-- Removing a source from a register's report and combining the calculated report of that source alone gives the register's report.
abbrev pub SourceAgain : Type 0
SourceAgain =
    (whole alone : Lent) (s : Source) (i : ℕ) (result buffer : List ℕ)
    → Bytes whole.register
    → Accepted (calculation whole)
    → i < sources_in whole.register
    → get_or (sources_of whole.register) i s ≡ s
    → Dealt (year_in whole.register) alone
    → sources_of alone.register ≡ s ∷ []
    → 56 + 40 * (sources_in whole.register - 1) ≤ length result
    → 56 + 40 * sources_in whole.register ≤ length buffer
    → Accepted (removed (wrote (calculation whole)) s.number result)
    × Accepted (calculation alone)
    × CombinesTo (wrote (removed (wrote (calculation whole)) s.number result)) (wrote (calculation alone)) buffer (wrote (calculation whole))
    × CombinesTo (wrote (calculation alone)) (wrote (removed (wrote (calculation whole)) s.number result)) buffer (wrote (calculation whole))
