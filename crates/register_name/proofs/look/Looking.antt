-- A number looked up in one register: what one that is accepted keeps, the search for the number, and what is sought there. Assumes nothing.
use Rattle.std.specs.Prelude.{Some, None}
use mathlib.Core.Logic.{◌≢◌}
use mathlib.Core.Bool.{Bool, true, false}
use mathlib.Core.List.{List}
use mathlib.Core.Path.{◌≡◌, sym, ap, ◌∙◌}
use Prim.Native.Nat.{ℕ, ◌+◌, ◌≤◌, ◌<◌}
use borrow.Author.Tests.{lt-ltb, le-ltb, eq-eqb, ne_eqb}
use lib.Dec.{eqb, ltb}
use Rattle.basis.specs.Answers.{Passes, first_refusal}
use Rattle.basis.proofs.Answers.{passes-is}
use Rattle.basis.proofs.Bools.{or_false}
use Rattle.basis.proofs.Scans.{Scanning, scan-none, scan-found, scan_more, scan-all}
use Rattle.fields.specs.Fields.{Field}
use Rattle.meaning.specs.declared.Part.{Part}
use Rattle.meaning.specs.Register.{source_count, source_entry, name_place, source_at, misplaced, unsound, wrong_source, register_tests}
use Rattle.meaning.specs.Calls.{accepted, has_number, index_of, holds, name_at}
use Rattle.meaning.proofs.Registers.{right-register}
use Rattle.meaning.proofs.Sources.{Placed, placed}
use Rattle.register_header.specs.Header.{Headed}
use Rattle.register_order.proofs.Tested.{passed_headed}
use Rattle.register_name.specs.Lookups.{named}

-- what a register that is accepted keeps
module _ (b : List ℕ) (e : accepted b ≡ true) where
  accepted-passes : first_refusal (register_tests b) ≡ Passes
  unfolding accepted
  accepted-passes = passes-is (first_refusal (register_tests b)) e

  pub accepted_headed : Headed b
  accepted_headed = passed_headed b accepted-passes

  pub accepted-placed : (i : ℕ) → i < source_count b → Placed b i
  unfolding wrong_source
  accepted-placed i l = placed b i (or_false (misplaced b i) (unsound (source_at b i)) ((right-register b accepted-passes).each i l)).0

pub accepted-by : {ok : Bool} (b : List ℕ) → ok ≡ accepted b → ok ≡ true → accepted b ≡ true
accepted-by b e f = sym e ∙ f

-- the entries before i have another number
pub record Finding (b : List ℕ) (number n i : ℕ) : Type 0 where
  pub head : Headed b
  pub all : n ≡ source_count b
  pub scanning : Scanning (has_number b number) n i

pub find_none : {b : List ℕ} {number n : ℕ} → Headed b → n ≡ source_count b → Finding b number n 0
find_none h f = record { head = h; all = f; scanning = scan-none }

module _ {b : List ℕ} {number n i : ℕ} (f : Finding b number n i) where
  has : {x : ℕ} {hit : Bool} → Field 4 (source_entry b i) 0 x → eqb x number ≡ hit → has_number b number i ≡ hit
  unfolding has_number
  has g e = rw g.is at e

  pub find_hit : {x : ℕ} → i < n → Field 4 (source_entry b i) 0 x → x ≡ number → i ≡ index_of b number
  unfolding index_of
  find_hit h g e = rw (← f.all) (scan-found f.scanning h (has g (eq-eqb _ _ e)))

  pub find_more : {x : ℕ} → i < n → Field 4 (source_entry b i) 0 x → x ≢ number → Finding b number n (i + 1)
  find_more h g e = record { head = f.head; all = f.all; scanning = scan_more f.scanning h (has g (ne_eqb _ _ e)) }

  pub find_all : n ≤ i → i ≡ index_of b number
  unfolding index_of
  find_all h = rw (← f.all) (scan-all f.scanning h)

module _ {b : List ℕ} {number n i : ℕ} (f : Finding b number n i) where
  pub name-found : {x : ℕ} {p : Part} → i < n → Field 4 (source_entry b i) 0 x → x ≡ number → p ≡ name_at b i → Some p ≡ named b number
  unfolding holds
  name-found h g e q =
      let at = find_hit f h g e in
      let l : ltb (index_of b number) (source_count b) ≡ true = rw (← at, ← f.all) (lt-ltb i n h) in
      rw l (ap Some (rw at at q))

  pub name-absent : n ≤ i → None ≡ named b number
  unfolding holds
  name-absent h =
      let l : ltb (index_of b number) (source_count b) ≡ false = rw (← find_all f h, ← f.all) (le-ltb i n h) in
      rw l

pub name-there : {start size : ℕ} (b : List ℕ) (i : ℕ) → start ≡ name_place b i → Field 2 (source_entry b i) 10 size
    → ◌≡◌ {A = Part} (record { offset = start; length = size }) (name_at b i)
unfolding name_at
name-there b i p f = rw (p, f.is)
