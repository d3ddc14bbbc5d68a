-- The name lookups: empty exactly where document 01 says, and else the name where it stands. Assumes nothing.
use Rattle.std.specs.Prelude.{Err, Ok}
use mathlib.Core.Bool.{Bool, true, false, ◌&&◌}
use mathlib.Core.List.{List}
use mathlib.Core.Logic.{◌⊎◌, inl, inr}
use mathlib.Core.Path.{◌≡◌, refl, sym, ap, ◌∙◌}
use Prim.Native.Nat.{ℕ, ◌≤◌, ◌<◌}
use native.Mathlib.Decide.{dec_lt}
use native.Mathlib.Omega.{arith}
use lib.Dec.{ltb}
use lib.ListN.{length, get_or, drop, length-drop}
use lib.Seq.{length-take-le}
use borrow.Author.Tests.{ltb-true, eqb-true, lt-ltb, eq-eqb, ne_eqb}
use Rattle.basis.specs.Answers.{Verdict, Passes, first_refusal, passes}
use Rattle.basis.proofs.First.{first_hits, first_misses, first-is}
use Rattle.basis.proofs.Answers.{never, passes-is}
use Rattle.basis.proofs.Bools.{clash, not_both}
use Rattle.meaning.specs.declared.Part.{Part}
use Rattle.meaning.specs.declared.Found.{Found}
use Rattle.meaning.specs.Register.{source_count, source_entry, number_in, name_length_in, name_place, source_at, sources_of, register_tests}
use Rattle.meaning.specs.Calls.{accepted, has_number, index_of, holds, name_at, found, in_register, found_of_two}
use Rattle.meaning.proofs.Sources.{no_source, source_number, length-sources, source-at, sound_parts}
use Rattle.demands.specs.Refusals.{register_rows}
use Rattle.demands.specs.Demand2.{Refused, Numbered, Absent, IsName, part_of}
use Rattle.demands.specs.Calls.{Finds, FindsOfTwo}
use Rattle.demands.proofs.Exactly.{first_decides}
use Rattle.demands.proofs.RegisterTests.{register_decides}
use Rattle.demands.proofs.Registers.{Passed, passed, distinct_lt}
use Rattle.demands.proofs.Calculation.{standing}

-- a register is accepted exactly where no row of 1 to 4 refuses it
accepted-passes : (b : List ℕ) → accepted b ≡ true → first_refusal (register_tests b) ≡ Passes
unfolding accepted
accepted-passes b e = passes-is (first_refusal (register_tests b)) e

pub not-refused : (b : List ℕ) → accepted b ≡ true → Refused b → ⊥
not-refused b e r = never (sym (accepted-passes b e) ∙ (first_decides (register_tests b) (register_rows b) (register_decides b) r.0 r.1).1 r.2)

pub refused : (b : List ℕ) → accepted b ≡ false → Refused b
unfolding accepted
refused b e = by (first_refusal (register_tests b)) refl e
  where
    by : (v : Verdict) → first_refusal (register_tests b) ≡ v → passes v ≡ false → Refused b
    by (Ok done) p q = absurd (clash refl q)
    by (Err refusal) p q = (refusal.number, refusal.place, (first_decides (register_tests b) (register_rows b) (register_decides b) refusal.number refusal.place).0 p)

unrefused : (b : List ℕ) → (Refused b → ⊥) → accepted b ≡ true
unrefused b h = by (accepted b) refl
  where
    by : (c : Bool) → accepted b ≡ c → accepted b ≡ true
    by true e = e
    by false e = absurd (h (refused b e))

-- whether a number stands in a register
holds_it : (b : List ℕ) (x : ℕ) → holds b x ≡ true → Numbered b x (index_of b x)
unfolding holds index_of has_number
holds_it b x e =
    let l = ltb-true (index_of b x) (source_count b) e in
    (l, eqb-true _ x (first_hits (has_number b x) (source_count b) l))

it_holds : (b : List ℕ) (x i : ℕ) → Numbered b x i → holds b x ≡ true
unfolding holds index_of has_number
it_holds b x i n = by (dec_lt (index_of b x) (source_count b))
  where
    by : Dec (index_of b x < source_count b) → ltb (index_of b x) (source_count b) ≡ true
    by (yes l) = lt-ltb (index_of b x) (source_count b) l
    by (no l) = absurd (clash (eq-eqb (number_in (source_entry b i)) x n.1) (first_misses (has_number b x) (source_count b) i (omega (arith, n.0))))

absent : (b : List ℕ) (x : ℕ) → holds b x ≡ false → Absent b x
absent b x e i n = clash (it_holds b x i n) e

absent_holds : (b : List ℕ) (x : ℕ) → Absent b x → holds b x ≡ false
absent_holds b x a = not_both (holds b x) (λ e. a (index_of b x) (holds_it b x e))

-- an accepted register has a number once, and its name there
module _ (b : List ℕ) (e : accepted b ≡ true) where
  passed_it : Passed b
  passed_it = passed b (accepted-passes b e)

  number_is : (i : ℕ) → i < source_count b → source_number (get_or (sources_of b) i no_source) ≡ number_in (source_entry b i)
  unfolding source_at
  number_is i l = ap source_number (source-at b i l)

  index_is : (x i : ℕ) → Numbered b x i → index_of b x ≡ i
  unfolding index_of has_number
  index_is x i n =
      first-is (has_number b x) (source_count b) i n.0
      (λ k l. ne_eqb (number_in (source_entry b k)) x
      (λ q. distinct_lt source_number no_source (sources_of b) passed_it.once i k l (rw (length-sources b) n.0)
      (number_is k (omega (arith, n.0)) ∙ q ∙ sym n.1 ∙ sym (number_is i n.0))))
      (eq-eqb (number_in (source_entry b i)) x n.1)

  name-long : (i : ℕ) → i < source_count b → length (source_at b i).name ≡ name_length_in (source_entry b i)
  unfolding source_at
  name-long i l =
      let p = standing b passed_it.laid i l in
      length-take-le (name_length_in (source_entry b i)) (drop (name_place b i) b) (rw length-drop (omega (arith, p.names, passed_it.laid.filled)))

  name_range : (i : ℕ) → i < source_count b → (1 ≤ name_length_in (source_entry b i)) × (name_length_in (source_entry b i) ≤ 64)
  name_range i l = let r = (sound_parts (source_at b i) (passed_it.sound i l)).name in (rw (name-long i l) at r.0, rw (name-long i l) at r.1)

  is_name : (i : ℕ) → i < source_count b → IsName b i (name_at b i)
  unfolding name_at source_at
  is_name i l =
      let r = name_range i l in
      let p = standing b passed_it.laid i l in
      (refl, refl, r.0, r.1, omega (arith, p.names, passed_it.laid.filled))

-- one register: by whether it is accepted and holds the number
pub data Case (b : List ℕ) (x : ℕ) : Type 0 where
  here : accepted b ≡ true → (i : ℕ) → Numbered b x i → Case b x
  nowhere : accepted b ≡ true → Absent b x → Case b x
  bad : accepted b ≡ false → Case b x

pub case : (b : List ℕ) (x : ℕ) → Case b x
case b x = by (accepted b) refl (holds b x) refl
  where
    by : (c : Bool) → accepted b ≡ c → (d : Bool) → holds b x ≡ d → Case b x
    by false p d q = bad p
    by true p false q = nowhere p (absent b x q)
    by true p true q = here p (index_of b x) (holds_it b x q)

found_here : (b : List ℕ) (x i : ℕ) → accepted b ≡ true → Numbered b x i → found b x ≡ name_at b i
unfolding found
found_here b x i e n = rw (e, it_holds b x i n, index_is b e x i n)

found_name : (b : List ℕ) (x i : ℕ) → accepted b ≡ true → Numbered b x i → IsName b i (found b x)
found_name b x i e n = rw (found_here b x i e n) (is_name b e i n.0)

abbrev nothing : Part
nothing = record { offset = 0; length = 0 }

found-bad : (b : List ℕ) (x : ℕ) → accepted b ≡ false → found b x ≡ nothing
unfolding found
found-bad b x e = rw e

found_absent : (b : List ℕ) (x : ℕ) → accepted b ≡ true → Absent b x → found b x ≡ nothing
unfolding found
found_absent b x e a = rw (e, absent_holds b x a)

-- two registers
abbrev nothing_of_two : Found
nothing_of_two = record { which = 1; offset = 0; length = 0 }

module _ (plant contractor : List ℕ) (x : ℕ) where
  abbrev Neither : Type 0
  Neither = Refused plant ⊎ Refused contractor ⊎ (Absent plant x × Absent contractor x) ⊎ (((i : ℕ) × Numbered plant x i) × ((j : ℕ) × Numbered contractor x j))

  in_plant : (i : ℕ) → accepted plant ≡ true → accepted contractor ≡ true → Numbered plant x i → Absent contractor x
      → found_of_two plant contractor x ≡ in_register 1 (found plant x)
  unfolding found_of_two
  in_plant i p q n a = rw (p, q, it_holds plant x i n, absent_holds contractor x a)

  in_contractor : (j : ℕ) → accepted plant ≡ true → accepted contractor ≡ true → Absent plant x → Numbered contractor x j
      → found_of_two plant contractor x ≡ in_register 2 (found contractor x)
  unfolding found_of_two
  in_contractor j p q a n = rw (p, q, absent_holds plant x a, it_holds contractor x j n)

  in_none : accepted plant && accepted contractor ≡ false → found_of_two plant contractor x ≡ nothing_of_two
  unfolding found_of_two
  in_none e = rw e

  in_both_lem : (i j : ℕ) → accepted plant ≡ true → accepted contractor ≡ true → Numbered plant x i → Numbered contractor x j → found_of_two plant contractor x ≡ nothing_of_two
  unfolding found_of_two
  in_both_lem i j p q n m = rw (p, q, it_holds plant x i n, it_holds contractor x j m)

  in_neither : accepted plant ≡ true → accepted contractor ≡ true → Absent plant x → Absent contractor x → found_of_two plant contractor x ≡ nothing_of_two
  unfolding found_of_two
  in_neither p q a c = rw (p, q, absent_holds plant x a, absent_holds contractor x c)

  data CaseOfTwo : Type 0 where
    plants : (i : ℕ) → accepted plant ≡ true → accepted contractor ≡ true → Numbered plant x i → Absent contractor x → CaseOfTwo
    contractors : (j : ℕ) → accepted plant ≡ true → accepted contractor ≡ true → Absent plant x → Numbered contractor x j → CaseOfTwo
    neither : Neither → found_of_two plant contractor x ≡ nothing_of_two → CaseOfTwo

  case_of_two : Case plant x → Case contractor x → CaseOfTwo
  case_of_two (bad p) c = neither (inl (refused plant p)) (in_none (rw p))
  case_of_two (here p i n) (bad q) = neither (inr (inl (refused contractor q))) (in_none (rw (p, q)))
  case_of_two (here p i n) (nowhere q a) = plants i p q n a
  case_of_two (here p i n) (here q j m) = neither (inr (inr (inr ((i, n), (j, m))))) (in_both_lem i j p q n m)
  case_of_two (nowhere p a) (bad q) = neither (inr (inl (refused contractor q))) (in_none (rw (p, q)))
  case_of_two (nowhere p a) (nowhere q c) = neither (inr (inr (inl (a, c)))) (in_neither p q a c)
  case_of_two (nowhere p a) (here q j m) = contractors j p q a m

  not-one : (b : List ℕ) (i : ℕ) (p : Part) → IsName b i p → p.length ≡ 0 → ⊥
  not-one b i p n e = omega (arith, n.2)

  of_plant_lem : (i : ℕ) → accepted plant ≡ true → accepted contractor ≡ true → Numbered plant x i → Absent contractor x
      → ((found_of_two plant contractor x).which ≡ 1) × IsName plant i (part_of (found_of_two plant contractor x))
  of_plant_lem i p q n a = rw (in_plant i p q n a) (refl, found_name plant x i p n)

  of_contractor_lem : (j : ℕ) → accepted plant ≡ true → accepted contractor ≡ true → Absent plant x → Numbered contractor x j
      → ((found_of_two plant contractor x).which ≡ 2) × IsName contractor j (part_of (found_of_two plant contractor x))
  of_contractor_lem j p q a n = rw (in_contractor j p q a n) (refl, found_name contractor x j q n)

  none_then : CaseOfTwo → (found_of_two plant contractor x).length ≡ 0 → Neither × (found_of_two plant contractor x ≡ nothing_of_two)
  none_then (plants i p q n a) e = absurd (not-one plant i (part_of (found_of_two plant contractor x)) (of_plant_lem i p q n a).1 e)
  none_then (contractors j p q a n) e = absurd (not-one contractor j (part_of (found_of_two plant contractor x)) (of_contractor_lem j p q a n).1 e)
  none_then (neither n f) e = (n, f)

  then_none : CaseOfTwo → Neither → (found_of_two plant contractor x).length ≡ 0
  then_none (neither n f) h = ap (λ (r : Found). r.length) f
  then_none (plants i p q n a) (inl r) = absurd (not-refused plant p r)
  then_none (plants i p q n a) (inr (inl r)) = absurd (not-refused contractor q r)
  then_none (plants i p q n a) (inr (inr (inl r))) = absurd (r.0 i n)
  then_none (plants i p q n a) (inr (inr (inr r))) = absurd (a r.1.0 r.1.1)
  then_none (contractors j p q a n) (inl r) = absurd (not-refused plant p r)
  then_none (contractors j p q a n) (inr (inl r)) = absurd (not-refused contractor q r)
  then_none (contractors j p q a n) (inr (inr (inl r))) = absurd (r.1 j n)
  then_none (contractors j p q a n) (inr (inr (inr r))) = absurd (a r.0.0 r.0.1)

-- one register: empty, and where
empty_then : (b : List ℕ) (x : ℕ) → Case b x → (found b x).length ≡ 0 → (Refused b ⊎ Absent b x) × ((found b x).offset ≡ 0)
empty_then b x (bad p) e = (inl (refused b p), ap (λ (r : Part). r.offset) (found-bad b x p))
empty_then b x (nowhere p a) e = (inr a, ap (λ (r : Part). r.offset) (found_absent b x p a))
empty_then b x (here p i n) e = absurd (omega (arith, (found_name b x i p n).2))

then_empty : (b : List ℕ) (x : ℕ) → Case b x → Refused b ⊎ Absent b x → (found b x).length ≡ 0
then_empty b x (bad p) h = ap (λ (r : Part). r.length) (found-bad b x p)
then_empty b x (nowhere p a) h = ap (λ (r : Part). r.length) (found_absent b x p a)
then_empty b x (here p i n) (inl r) = absurd (not-refused b p r)
then_empty b x (here p i n) (inr a) = absurd (a i n)

pub finds : (b : List ℕ) (x : ℕ) → Finds b x (found b x)
finds b x =
    record {
      none = (λ e. (empty_then b x (case b x) e).0, then_empty b x (case b x));
      front = λ e. (empty_then b x (case b x) e).1;
      name = λ i r n. found_name b x i (unrefused b r) n;
    }

pub finds_of_two : (plant contractor : List ℕ) (x : ℕ) → FindsOfTwo plant contractor x (found_of_two plant contractor x)
finds_of_two p c x =
    let two = case_of_two p c x (case p x) (case c x) in
    record {
      none = (λ e. (none_then p c x two e).0, then_none p c x two);
      front = λ e. (none_then p c x two e).1;
      of_plant = λ i r s n a. of_plant_lem p c x i (unrefused p r) (unrefused c s) n a;
      of_contractor = λ j r s a n. of_contractor_lem p c x j (unrefused p r) (unrefused c s) a n;
    }
