-- Test 3 over all sources. Assumes nothing.
use mathlib.Core.Bool.{Bool, true, false, not, ◌||◌}
use mathlib.Core.List.{List, [], ◌∷◌}
use mathlib.Core.Path.{◌≡◌, refl, sym, ◌∙◌}
use Prim.Native.Nat.{ℕ, ◌+◌, ◌≤◌, ◌<◌}
use native.Mathlib.Omega.{arith}
use borrow.Author.Tests.{lt-ltb, le-ltb}
use lib.Dec.{eqb}
use Rattle.basis.specs.Answers.{Verdict, Refuses, refuse_if, refuse_at_first, first_refusal}
use Rattle.basis.proofs.Answers.{single_test}
use Rattle.basis.specs.First.{first}
use Rattle.meaning.specs.Register.{source_count, line_count, name_bytes, line_start, name_start, wrong_source, source_test, rest_test}
use Rattle.register_header.specs.Header.{Headed}
use Rattle.register_layout.specs.Layout.{StartsAt}
use Rattle.basis.proofs.Scans.{Scanning, scan-none, scan-found, scan_more, scan-all}

-- the entries before i are right, and the next has to begin at a line and a name byte
pub record Passing (b : List ℕ) (n i line byte : ℕ) : Type 0 where
  pub head : Headed b
  pub all : n ≡ source_count b
  pub scanning : Scanning (wrong_source b) n i
  pub begins : StartsAt b i line byte

abbrev pub over_sources : List ℕ → Verdict
over_sources b = first_refusal (source_test b ∷ rest_test b ∷ [])

pub passing_none : {b : List ℕ} {n : ℕ} → Headed b → n ≡ source_count b → Passing b n 0 0 0
unfolding line_start name_start
passing_none h f = record { head = h; all = f; scanning = scan-none; begins = record { at_line = refl; at_byte = refl } }

module _ {b : List ℕ} {n i line byte : ℕ} (p : Passing b n i line byte) where
  pub passing_wrong : {wrong : Bool} → i < n → wrong ≡ wrong_source b i → wrong ≡ true → Refuses 3 i ≡ over_sources b
  unfolding source_test refuse_at_first first_refusal
  passing_wrong h e t =
      let f : i ≡ first (wrong_source b) n = scan-found p.scanning h (sym e ∙ t) in
      rw (← p.all, ← f, lt-ltb i n h)

  pub passing_more : {wrong : Bool} {line' byte' : ℕ} → i < n → wrong ≡ wrong_source b i → wrong ≡ false → line' ≡ line_start b (i + 1)
      → byte' ≡ name_start b (i + 1) → Passing b n (i + 1) line' byte'
  passing_more h e t l m =
      record { head = p.head; all = p.all; scanning = scan_more p.scanning h (sym e ∙ t); begins = record { at_line = l; at_byte = m } }

  pub passing_all : {m t : ℕ} {v : Verdict} → n ≤ i → m ≡ line_count b → t ≡ name_bytes b
      → v ≡ refuse_if (not (eqb line m) || not (eqb byte t)) 3 n → v ≡ over_sources b
  unfolding source_test rest_test refuse_at_first first_refusal
  passing_all h f g e =
      let k : i ≡ n = omega (arith, p.scanning.low) in
      let l : n ≡ first (wrong_source b) n = rw k at (scan-all p.scanning h) in
      e ∙ rw (p.begins.at_line, p.begins.at_byte, k, f, g, ← p.all, ← l, le-ltb n n (omega arith)) (sym (single_test _))
