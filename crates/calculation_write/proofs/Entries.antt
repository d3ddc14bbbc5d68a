-- Entries written one behind another in the order of the keys, and the report that they make with its header. Assumes nothing.
use mathlib.Core.List.{List, [], ◌∷◌, ◌++◌, map}
use mathlib.Core.Path.{◌≡◌, refl, sym, ap, ◌∙◌}
use Prim.Native.Nat.{ℕ, ◌+◌, ◌*◌, ◌-◌, ◌≤◌, ◌<◌}
use native.Mathlib.Numerals.{add-one}
use native.Mathlib.Omega.{arith}
use borrow.Author.Rules.{rules}
use lib.ListN.{length, get_or, take, drop, length-append, length-take, length-map, drop_of_length-le}
use lib.Seq.{get_or-take, drop-cons}
use Rattle.basis.specs.Bytes.{bytes_of, packed, Written}
use Rattle.basis.specs.Lists.{count_up, joined}
use Rattle.basis.proofs.Bytes.{written_then}
use Rattle.basis.proofs.Lists.{length-count_up}
use Rattle.fields.specs.Fields.{Field}
use Rattle.fields.proofs.Laws.{Writing, writing_none, writing_then, writing_all}
use Rattle.meaning.specs.Register.{year_of, sources_at, source_count, most_sources, source_entry, number_in, source_at, sources_of}
use Rattle.meaning.specs.Report.{entry_of, figures, figure_count, entries_at, entry_length, report_length, report_header, entry_bytes, report_bytes}
use Rattle.meaning.specs.Calls.{entries_for, calculated_report}
use Rattle.meaning.proofs.Laws.{one-entry-each}
use Rattle.meaning.proofs.Lengths.{source_massed, length-entry}
use Rattle.meaning.proofs.Registers.{right-register}
use Rattle.register_header.specs.Header.{HasEntry}
use Rattle.register_order.specs.Keys.{key_at, number_of_key, index_of_key, sorted_keys}
use Rattle.register_order.proofs.Tested.{passed_headed}
use Rattle.register_order.proofs.Accepted.{length-sorted_keys, passed-parts, passed_key}
use Rattle.report_write.specs.Parts.{stated_entry, stated_front, stated_header}
use Rattle.report_write.proofs.Writing.{length-figure_bytes, entry-stated, header_stated}
use Rattle.calculation_write.specs.Ready.{Ready, entry_of_key, totals_of}
use Rattle.calculation_write.proofs.Keyed.{keys_in_order}
use Rattle.calculation_write.proofs.Summing.{length-totals_of, summable, totals_are}

-- a key is that of a source of the register
record KeyOf (b : List ℕ) (key : ℕ) : Type 0 where
  below : index_of_key key < source_count b
  number : number_of_key key ≡ number_in (source_entry b (index_of_key key))

module _ {b keys stored : List ℕ} {k : ℕ} (r : Ready b keys stored) (l : k < source_count b) where
  pub key_there : k < length keys
  key_there = omega (arith, length-sorted_keys b, length-take (source_count b) keys, ap length r.order)

  key_is : get_or keys k 0 ≡ get_or (sorted_keys b) k 0
  key_is = sym (get_or-take (source_count b) keys k 0 l) ∙ ap (λ (l : List ℕ). get_or l k 0) r.order

  known : KeyOf b (get_or keys k 0)
  known =
      let s = passed_key b r.passes k l in
      let parts = passed-parts b r.passes s.0 s.1 in
      let e : get_or keys k 0 ≡ key_at b s.0 = key_is ∙ s.2 in
      let i : index_of_key (get_or keys k 0) ≡ s.0 = ap index_of_key e ∙ parts.1 in
      record { below = omega (arith, s.1); number = ap number_of_key e ∙ parts.0 ∙ rw i }

  abbrev index : ℕ
  index = index_of_key (get_or keys k 0)

  pub source-there : HasEntry b index
  source-there = record { head = passed_headed b r.passes; below = known.below }

  pub figures-there : figure_count * index + figure_count ≤ length stored
  figures-there = omega (arith, known.below, r.long)

  -- what is written for a key is its source's entry
  pub entry_put : {method : ℕ} {xs ys : List ℕ} → Field 1 (source_entry b index) 4 method
      → Written xs (report_length k) (stated_entry (number_of_key (get_or keys k 0)) method (take (figure_count * index + figure_count - figure_count * index) (drop (figure_count * index) stored))) ys
      → Written xs (report_length k) (entry_bytes (entry_of_key b (get_or keys k 0))) ys
  unfolding entry_of_key entry_of source_at
  entry_put {method} {xs} {ys} f w =
      let e = entry_of (source_at b index) in
      let q : figure_count * index + figure_count - figure_count * index ≡ figure_count = omega arith in
      let m : method ≡ e.method = f.is in
      let n : number_of_key (get_or keys k 0) ≡ e.number = known.number in
      let s : take (figure_count * index + figure_count - figure_count * index) (drop (figure_count * index) stored) ≡ figures e = rw q (r.stored index known.below) in
      rw (n, m, s, entry-stated e (source_massed (source_at b index))) at w

pub ruleset entering = (rules, key_there, source-there, figures-there)

-- the entries of keys, one behind another
unfoldable pub entries_of_keys : List ℕ → List ℕ → List ℕ
entries_of_keys b ks = joined (map entry_bytes (map (entry_of_key b) ks))

length_keyed : (b : List ℕ) (key : ℕ) → length (entry_bytes (entry_of_key b key)) ≡ entry_length
unfolding entry_of_key
length_keyed b key = length-entry (entry_of (source_at b (index_of_key key))) (source_massed (source_at b (index_of_key key)))

length_entries_of_keys : (b ks : List ℕ) → length (entries_of_keys b ks) ≡ entry_length * length ks
unfolding entries_of_keys joined
length_entries_of_keys b [] = refl
length_entries_of_keys b (key ∷ ks) = rw (length-append, length_keyed b key, length_entries_of_keys b ks) (omega arith)

-- k entries are written, and those of the later keys are left
pub record Placing (b xs : List ℕ) (n : ℕ) (ys : List ℕ) (k : ℕ) : Type 0 where
  pub all : n ≡ source_count b
  pub low : k ≤ n
  pub left : Writing xs entries_at (entries_of_keys b (sorted_keys b)) ys (report_length k) (entries_of_keys b (drop k (sorted_keys b)))

module _ {b keys stored : List ℕ} (r : Ready b keys stored) where
  -- its header can be read
  pub header_there : sources_at ≤ length b
  header_there = (right-register b r.passes).long

  pub placing_none : {xs : List ℕ} {n : ℕ} → report_length (source_count b) ≤ length xs → n ≡ source_count b → Placing b xs n xs 0
  placing_none {xs} h f =
      let l : entries_at + length (entries_of_keys b (sorted_keys b)) ≤ length xs = rw (length_entries_of_keys b (sorted_keys b), length-sorted_keys b) (omega arith) in
      record { all = f; low = omega arith; left = writing_none xs entries_at (entries_of_keys b (sorted_keys b)) l }

  module _ {xs ys : List ℕ} {n k : ℕ} (i : Placing b xs n ys k) where
    pub placing_more : {zs : List ℕ} → k < n → Written ys (report_length k) (entry_bytes (entry_of_key b (get_or keys k 0))) zs → Placing b xs n zs (k + 1)
    unfolding entries_of_keys joined
    placing_more {zs} l w =
        let m : k < source_count b = omega (arith, i.all) in
        let s : k < length (sorted_keys b) = omega (arith, length-sorted_keys b) in
        let e : entries_of_keys b (drop k (sorted_keys b)) ≡ entry_bytes (entry_of_key b (get_or keys k 0)) ++ entries_of_keys b (drop (k + 1) (sorted_keys b)) =
        rw (drop-cons (sorted_keys b) k 0 s, key_is r m, add-one k) in
        let q : report_length (k + 1) ≡ report_length k + length (entry_bytes (entry_of_key b (get_or keys k 0))) = rw (length_keyed b (get_or keys k 0)) (omega arith) in
        record { all = i.all; low = omega arith; left = rw q (writing_then (rw e at i.left) w) }

    pub placing_all : n ≤ k → Written xs entries_at (joined (map entry_bytes (entries_for (sources_of b)))) ys
    unfolding entries_of_keys joined
    placing_all l =
        let s : length (sorted_keys b) ≤ k = omega (arith, i.all, length-sorted_keys b) in
        let w : Written xs entries_at (entries_of_keys b (sorted_keys b)) ys = writing_all (rw (drop_of_length-le (sorted_keys b) s) at i.left) in
        rw (keys_in_order b r.passes) at w

length-entries_for : (b : List ℕ) → length (entries_for (sources_of b)) ≡ source_count b
unfolding sources_of
length-entries_for b = (one-entry-each (sources_of b)).1 ∙ length-map (count_up 0 (source_count b)) (source_at b) ∙ length-count_up 0 (source_count b)

length_header : (year n : ℕ) (ts : List ℕ) → length ts ≡ figure_count → length (stated_header year n ts) ≡ entries_at
unfolding stated_header stated_front packed bytes_of
length_header year n ts e = rw (length-figure_bytes ts, e)

module _ {b keys stored : List ℕ} (r : Ready b keys stored) {n : ℕ} (f : n ≡ source_count b) where
  pub sources-few : n ≤ most_sources
  sources-few = omega (arith, (passed_headed b r.passes).sources)

  pub totals-each : {ts : List ℕ} → ts ≡ totals_of stored n → length ts ≡ figure_count
  totals-each e = ap length e ∙ length-totals_of stored n

  -- the header is that of the entries
  header_is : {year : ℕ} {ts : List ℕ} → year ≡ year_of b → ts ≡ totals_of stored n
      → stated_header year n ts ≡ report_header (year_of b) (entries_for (sources_of b))
  header_is y e =
      let t = e ∙ ap (totals_of stored) f ∙ totals_are r in
      rw (y, f ∙ sym (length-entries_for b), t) (header_stated (year_of b) (entries_for (sources_of b)))

  -- and the entries stand behind it
  pub report_put : {year : ℕ} {ts xs ys zs : List ℕ} → year ≡ year_of b → ts ≡ totals_of stored n → Written xs 0 (stated_header year n ts) ys
      → Written ys entries_at (joined (map entry_bytes (entries_for (sources_of b)))) zs → Written xs 0 (calculated_report b) zs
  unfolding report_bytes
  report_put {year} {ts} y e w v =
      rw (header_is y e) at (written_then w v (omega (arith, length_header year n ts (totals-each e))))

pub ruleset reporting = (rules, header_there, summable, totals-each, sources-few)
