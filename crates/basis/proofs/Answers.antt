-- A call refuses exactly by the first of its tests that refuses; what a promise permits is one. Assumes nothing.
use Rattle.std.specs.Prelude.{Result, IsErrAnd, Err, Ok}
use mathlib.Core.Bool.{Bool, true, false}
use mathlib.Core.List.{List, [], ◌∷◌, ◌++◌, map}
use mathlib.Core.Logic.{◌↔◌}
use mathlib.Core.Path.{◌≡◌, refl, sym, ◌∙◌, ap}
use Prim.Native.Nat.{ℕ, zero, suc, ◌+◌, ◌≤◌, ◌<◌, zero-le, suc-le-suc}
use native.Mathlib.Nat.{zero-add, le_of_suc-le-suc, not-suc-le-zero}
use native.Mathlib.Omega.{arith}
use lib.Dec.{ltb}
use lib.ListN.{length, get_or}
use borrow.Author.Tests.{ltb-true, ltb-false, lt-ltb, le-ltb}
use Rattle.basis.specs.declared.Answer.{Answer}
use Rattle.basis.specs.declared.Refusal.{Refusal}
use Rattle.basis.specs.First.{scan, first, NoneBelow}
use Rattle.basis.specs.Lists.{Each, count_up}
use Rattle.basis.specs.Answers.{Verdict, Passes, Refuses, refuse_if, refuse_at_first, first_refusal, passes, Outcome, Gives, Shows}
use Rattle.basis.proofs.Bools.{clash}
use Rattle.basis.proofs.First.{first_≤, first_hits, first_misses, first-is, first-end}

-- test i of a call refuses with this number and place, and each test before it passes
pub record FirstToRefuse (tests : List Verdict) (number place i : ℕ) : Type 0 where
  pub within : i < length tests
  pub fires : get_or tests i Passes ≡ Refuses number place
  pub earlier : (k : ℕ) → k < i → get_or tests k Passes ≡ Passes

pub never : {n p : ℕ} → Passes ≡ Refuses n p → ⊥
never e = let z : ◌≡◌ {A = ℕ} 0 1 = cc in omega arith

unfoldable refusal_in : Refusal → Verdict → Refusal
refusal_in r (Ok done) = r
refusal_in r (Err refusal) = refusal

same-refusal : {r s : Refusal} → ◌≡◌ {A = Verdict} (Err r) (Err s) → r ≡ s
unfolding refusal_in
same-refusal {r = r} e = ap (refusal_in r) e

pub refuses-number : {m q n p : ℕ} → Refuses m q ≡ Refuses n p → n ≡ m
refuses-number e = sym (ap (λ (r : Refusal). r.number) (same-refusal e))

pub refuses-place : {m q n p : ℕ} → Refuses m q ≡ Refuses n p → p ≡ q
refuses-place e = sym (ap (λ (r : Refusal). r.place) (same-refusal e))

pub refuses_both : {m q n p : ℕ} → n ≡ m → p ≡ q → Refuses m q ≡ Refuses n p
refuses_both e f = cc

pub refused-by : (tests : List Verdict) (number place i : ℕ) → FirstToRefuse tests number place i → first_refusal tests ≡ Refuses number place
unfolding first_refusal
refused-by [] number place i f = absurd (not-suc-le-zero f.within)
refused-by (Ok done ∷ tests) number place zero f = absurd (never f.fires)
refused-by (Ok done ∷ tests) number place (suc i) f =
    refused-by tests number place i
    (record { within = le_of_suc-le-suc f.within; fires = f.fires; earlier = λ k l. f.earlier (suc k) (suc-le-suc l) })
refused-by (Err refusal ∷ tests) number place zero f = f.fires
refused-by (Err refusal ∷ tests) number place (suc i) f = absurd (never (sym (f.earlier 0 (suc-le-suc zero-le))))

behind : {tests : List Verdict} {number place i : ℕ} → FirstToRefuse tests number place i → FirstToRefuse (Passes ∷ tests) number place (suc i)
behind {tests} {i = i} f = record { within = suc-le-suc f.within; fires = f.fires; earlier = passed }
  where
    passed : (k : ℕ) → k < suc i → get_or (Passes ∷ tests) k Passes ≡ Passes
    passed zero l = refl
    passed (suc k) l = f.earlier k (le_of_suc-le-suc l)

pub refused-only : (tests : List Verdict) (number place : ℕ) → first_refusal tests ≡ Refuses number place → (i : ℕ) × FirstToRefuse tests number place i
unfolding first_refusal
refused-only [] number place e = absurd (never e)
refused-only (Ok done ∷ tests) number place e = let r = refused-only tests number place e in (suc r.0, behind r.1)
refused-only (Err refusal ∷ tests) number place e =
    (0, record { within = suc-le-suc zero-le; fires = e; earlier = λ k l. absurd (not-suc-le-zero l) })

-- the first refusal of a list of tests is answered exactly when it fires and no earlier one does
pub refused-exactly : (tests : List Verdict) (number place : ℕ)
    → first_refusal tests ≡ Refuses number place ↔ ((i : ℕ) × FirstToRefuse tests number place i)
refused-exactly tests number place = (refused-only tests number place, λ r. refused-by tests number place r.0 r.1)

-- a single test is answered as it finds
pub single_test : (v : Verdict) → first_refusal (v ∷ []) ≡ v
unfolding first_refusal
single_test (Ok done) = refl
single_test (Err refusal) = refl

-- tests behind tests: the later ones count where the earlier ones pass
pub passed_then : (ts us : List Verdict) → first_refusal ts ≡ Passes → first_refusal (ts ++ us) ≡ first_refusal us
unfolding first_refusal
passed_then [] us e = refl
passed_then (Ok done ∷ ts) us e = passed_then ts us e
passed_then (Err refusal ∷ ts) us e = absurd (never (sym e))

pub refused_then : (ts us : List Verdict) {n p : ℕ} → first_refusal ts ≡ Refuses n p → first_refusal (ts ++ us) ≡ Refuses n p
unfolding first_refusal
refused_then [] us e = absurd (never e)
refused_then (Ok done ∷ ts) us e = refused_then ts us e
refused_then (Err refusal ∷ ts) us e = e

-- what `?` hands on is the refusal that it found
pub passed_up : {T : Type 0} {refusal : Refusal} (w : Result T Refusal) → IsErrAnd w (λ r. r ≡ refusal) → w ≡ Err refusal
passed_up (Ok made) h = absurd h
passed_up (Err found) h = ap Err h

-- the tests of a call one behind another: the later ones are asked where one passes, and where it refuses that is what the call is told
pub asked : {v w : Verdict} {done : Unit {0}} {test : Verdict} (tests : List Verdict) → v ≡ test → v ≡ Ok done → w ≡ first_refusal tests → w ≡ first_refusal (test ∷ tests)
unfolding first_refusal
asked tests e p h = h ∙ rw (sym e ∙ p)

pub told : {v w : Verdict} {refusal : Refusal} {test : Verdict} (tests : List Verdict) → v ≡ test → v ≡ Err refusal → IsErrAnd w (λ r. r ≡ refusal)
    → w ≡ first_refusal (test ∷ tests)
unfolding first_refusal
told {w = w} tests e p h = passed_up w h ∙ rw (sym e ∙ p)

-- likewise where some tests are followed by others
pub asked_behind : {v w : Verdict} {done : Unit {0}} (tests later : List Verdict) → v ≡ first_refusal tests → v ≡ Ok done → w ≡ first_refusal later
    → w ≡ first_refusal (tests ++ later)
asked_behind tests later e p h = h ∙ sym (passed_then tests later (sym e ∙ p))

pub told_before : {v w : Verdict} {refusal : Refusal} (tests later : List Verdict) → v ≡ first_refusal tests → v ≡ Err refusal → IsErrAnd w (λ r. r ≡ refusal)
    → w ≡ first_refusal (tests ++ later)
told_before {w = w} {refusal = refusal} tests later e p h = passed_up w h ∙ sym (refused_then tests later {n = refusal.number} {p = refusal.place} (sym e ∙ p))

-- a test that passes found nothing wrong
pub nothing-wrong : {v : Verdict} {done : Unit {0}} (wrong : Bool) (number place : ℕ) → v ≡ refuse_if wrong number place → v ≡ Ok done → wrong ≡ false
nothing-wrong true number place e p = absurd (never (sym p ∙ e))
nothing-wrong false number place e p = refl

-- one that refuses found something wrong, and its number and place are handed up
pub something-wrong : {v w : Verdict} {refusal : Refusal} (wrong : Bool) (number place : ℕ) → v ≡ refuse_if wrong number place → v ≡ Err refusal
    → IsErrAnd w (λ r. r ≡ refusal) → (wrong ≡ true) × (w ≡ Refuses number place)
something-wrong {w = w} true number place e p h = (refl, passed_up w h ∙ sym p ∙ e)
something-wrong false number place e p h = absurd (never (sym e ∙ p))

pub passes-is : (v : Verdict) → passes v ≡ true → v ≡ Passes
passes-is (Ok done) e = refl
passes-is (Err refusal) e = absurd (clash e refl)

pub refused-is : (v : Verdict) → passes v ≡ false → (refusal : Refusal) × (v ≡ Err refusal)
refused-is (Ok done) e = absurd (clash refl e)
refused-is (Err refusal) e = (refusal, refl)

-- tests that all pass, one by one
pub each-passes : (vs : List Verdict) → first_refusal vs ≡ Passes → Each (λ v. v ≡ Passes) vs
unfolding first_refusal
each-passes [] e = tt
each-passes (Ok done ∷ vs) e = (refl, each-passes vs e)
each-passes (Err refusal ∷ vs) e = absurd (never (sym e))

pub passes-each : (vs : List Verdict) → Each (λ v. v ≡ Passes) vs → first_refusal vs ≡ Passes
unfolding first_refusal
passes-each [] h = refl
passes-each (Ok done ∷ vs) h = passes-each vs h.1
passes-each (Err refusal ∷ vs) h = absurd (never (sym h.0))

pub passed_append : (vs us : List Verdict) → first_refusal (vs ++ us) ≡ Passes → (first_refusal vs ≡ Passes) × (first_refusal us ≡ Passes)
unfolding first_refusal
passed_append [] us e = (refl, e)
passed_append (Ok done ∷ vs) us e = passed_append vs us e
passed_append (Err refusal ∷ vs) us e = absurd (never (sym e))

pub passed_if : (b : Bool) (n p : ℕ) → refuse_if b n p ≡ Passes → b ≡ false
passed_if true n p e = absurd (never (sym e))
passed_if false n p e = refl

-- room that passes its test
pub room-there : (room needed : ℕ) {v : Verdict} → v ≡ refuse_if (ltb room needed) 8 needed → v ≡ Passes → needed ≤ room
room-there room needed e t = ltb-false room needed (passed_if (ltb room needed) 8 needed (sym e ∙ t))

pub if_passed : (b : Bool) (n p : ℕ) → b ≡ false → refuse_if b n p ≡ Passes
if_passed b n p e = rw e

-- a test at the first index that is wrong refuses exactly so: with the number and the place of the only index that is wrong with none before it
module _ (wrong : ℕ → Bool) (count : ℕ) where
  pub refused-at-first : (number place : ℕ → ℕ) (n p : ℕ)
      → (refuse_if (ltb (first wrong count) count) (number (first wrong count)) (place (first wrong count)) ≡ Refuses n p)
      ↔ ((i : ℕ) × (i < count) × (wrong i ≡ true) × NoneBelow wrong i × (n ≡ number i) × (p ≡ place i))
  refused-at-first number place n p = (λ e. by (ltb (first wrong count) count) refl e, λ r. at r.0 r.1 r.2 r.3 r.4 r.5)
    where
      by : (b : Bool) → ltb (first wrong count) count ≡ b → refuse_if b (number (first wrong count)) (place (first wrong count)) ≡ Refuses n p
          → (i : ℕ) × (i < count) × (wrong i ≡ true) × NoneBelow wrong i × (n ≡ number i) × (p ≡ place i)
      by true t e =
          let l : first wrong count < count = ltb-true (first wrong count) count t in
          (first wrong count, l, first_hits wrong count l, first_misses wrong count, refuses-number e, refuses-place e)
      by false t e = absurd (never e)

      at : (i : ℕ) → i < count → wrong i ≡ true → NoneBelow wrong i → n ≡ number i → p ≡ place i
          → refuse_if (ltb (first wrong count) count) (number (first wrong count)) (place (first wrong count)) ≡ Refuses n p
      at i l hit none m q = rw (first-is wrong count i l none hit, lt-ltb i count l) (refuses_both m q)

  -- and passes exactly where nothing is wrong
  pub passed-at-first : (n p : ℕ) → (refuse_if (ltb (first wrong count) count) n p ≡ Passes) ↔ NoneBelow wrong count
  passed-at-first n p = (λ e. by (ltb (first wrong count) count) refl e, λ h. rw (first-end wrong count h, le-ltb count count (omega arith)))
    where
      by : (b : Bool) → ltb (first wrong count) count ≡ b → refuse_if b n p ≡ Passes → NoneBelow wrong count
      by true t e = absurd (never (sym e))
      by false t e =
          let f : first wrong count ≡ count = omega (arith, ltb-false (first wrong count) count t, first_≤ wrong count) in
          rw f at (first_misses wrong count)

pub passed-at-all : (number : ℕ) (wrong : ℕ → Bool) (count : ℕ) → (refuse_at_first number wrong count ≡ Passes) ↔ NoneBelow wrong count
unfolding refuse_at_first
passed-at-all number wrong count = passed-at-first wrong count number (first wrong count)

-- it is the first refusal of a test of each index in turn
refuse_from : (number : ℕ) (wrong : ℕ → Bool) (k i : ℕ)
    → refuse_if (ltb (scan wrong i k) (i + k)) number (scan wrong i k) ≡ first_refusal (map (λ j. refuse_if (wrong j) number j) (count_up i k))
unfolding scan first_refusal count_up
refuse_from number wrong zero i = rw (le-ltb i (i + 0) (omega arith))
refuse_from number wrong (suc k) i =
    let e : i + 1 + k ≡ i + suc k = omega arith in
    by (wrong i) refl (rw e at (refuse_from number wrong k (i + 1)))
  where
    by : (b : Bool) → wrong i ≡ b
        → refuse_if (ltb (scan wrong (i + 1) k) (i + suc k)) number (scan wrong (i + 1) k) ≡ first_refusal (map (λ j. refuse_if (wrong j) number j) (count_up (i + 1) k))
        → refuse_if (ltb (scan wrong i (suc k)) (i + suc k)) number (scan wrong i (suc k)) ≡ first_refusal (map (λ j. refuse_if (wrong j) number j) (count_up i (suc k)))
    by true h later = rw (h, lt-ltb i (i + suc k) (omega arith))
    by false h later = rw h later

pub refuse_each : (number : ℕ) (wrong : ℕ → Bool) (count : ℕ) → refuse_at_first number wrong count ≡ first_refusal (map (λ j. refuse_if (wrong j) number j) (count_up 0 count))
unfolding refuse_at_first first
refuse_each number wrong count = rw (zero-add count) at (refuse_from number wrong count 0)

-- two outcomes that a promise permits are one
pub coincide : {o : Outcome} {a a' : Answer} {bs bs' : List ℕ} → Gives o a bs → Gives o a' bs' → (a ≡ a') × (bs ≡ bs')
coincide g g' = (g.answers ∙ sym g'.answers, g.leaves ∙ sym g'.leaves)

-- an answer that is handed on gives what it gave
pub handed_on : {o : Outcome} {a b : Answer} {bytes : List ℕ} → Gives o a bytes → b ≡ a → Gives o b bytes
handed_on g e = record { answers = e ∙ g.answers; leaves = g.leaves }

-- two parts that a promise permits are one
pub coincide-part : {A : Type 0} {bytes : List ℕ} {base : A} {start offset size : ℕ} {held held' : List ℕ} {place place' : A × ℕ}
    → Shows bytes base start offset size held place → Shows bytes base start offset size held' place' → (held ≡ held') × (place ≡ place')
coincide-part s s' = (s.holds ∙ sym s'.holds, s.stands ∙ sym s'.stands)
