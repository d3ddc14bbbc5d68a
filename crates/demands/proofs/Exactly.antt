-- Tests decide rows: the first refusal of a list of tests is the first row that refuses. Assumes nothing.
use Rattle.std.specs.Prelude.{Err, Ok}
use mathlib.Core.Bool.{Bool, true, false}
use mathlib.Core.List.{List, [], ◌∷◌, ◌++◌}
use mathlib.Core.Logic.{inl, inr, ⊎_elim, ◌↔◌, ◌≢◌}
use mathlib.Core.Path.{◌≡◌, refl, sym, ap, subst₂, ◌∙◌}
use Prim.Native.Nat.{ℕ, ◌<◌}
use native.Mathlib.Nat.{zero-add}
use native.Mathlib.Omega.{arith}
use lib.Dec.{ltb}
use lib.ListN.{length, drop}
use Rattle.basis.specs.Bytes.{splice}
use Rattle.basis.specs.Lists.{Each}
use Rattle.basis.specs.declared.Answer.{Answer}
use Rattle.basis.specs.Answers.{Verdict, Passes, Refuses, refuse_if, first_refusal, answer, settled}
use Rattle.basis.specs.First.{first}
use Rattle.basis.proofs.Answers.{never, refuses-number, refuses-place, refuses_both, refused-at-first}
use Rattle.basis.proofs.Bytes.{length-splice}
use Rattle.basis.proofs.Bools.{clash, not_both}
use Rattle.meaning.specs.Calls.{room_test, written}
use Rattle.meaning.proofs.Calls.{room-passed}
use Rattle.demands.specs.Demand1.{FromTable, Answers}
use Rattle.demands.specs.Table.{Among}
use Rattle.demands.specs.Exactly.{Row, Nowhere, at, at_smallest, FirstOf, Exactly}
use Rattle.demands.specs.Calls.{Leaves, Writes}

-- a test refuses exactly where its row does
abbrev pub Decides : Verdict → Row → Type 0
Decides v row = (n p : ℕ) → (v ≡ Refuses n p) ↔ row n p

abbrev pub DecideAll : List Verdict → List Row → Type 0
DecideAll [] [] = Unit {0}
DecideAll [] (row ∷ rows) = ⊥
DecideAll (v ∷ vs) [] = ⊥
DecideAll (v ∷ vs) (row ∷ rows) = Decides v row × (v ≡ Passes → DecideAll vs rows)

-- one by one, where a test decides its row whatever was tested before it
infixr 20 ◌then◌
pub ◌then◌ : {A B C : Type 0} → A → C → A × (B → C)
a then c = (a, λ _. c)

pub passes_nowhere : (v : Verdict) (row : Row) → Decides v row → v ≡ Passes → Nowhere row
passes_nowhere v row d e n p r = never (sym e ∙ (d n p).1 r)

-- of a list: each test decides its row where the tests before it pass
pub first_decides : (vs : List Verdict) (rows : List Row) → DecideAll vs rows → Decides (first_refusal vs) (FirstOf rows)
unfolding first_refusal
first_decides [] [] d n p = (λ e. never e, λ r. absurd r)
first_decides [] (row ∷ rows) d n p = absurd d
first_decides (v ∷ vs) [] d n p = absurd d
first_decides (Ok done ∷ vs) (row ∷ rows) d n p =
    let later = first_decides vs rows (d.1 refl) n p in
    let none = passes_nowhere Passes row d.0 refl in
    (λ e. inr (none, later.0 e), λ r. ⊎_elim (λ h. absurd (none n p h)) (λ h. later.1 h.1) r)
first_decides (Err refusal ∷ vs) (row ∷ rows) d n p =
    (λ e. inl ((d.0 n p).0 e), λ r. ⊎_elim (λ h. (d.0 n p).1 h) (λ h. absurd (h.0 refusal.number refusal.place ((d.0 refusal.number refusal.place).0 refl))) r)

pub decide_append : (vs us : List Verdict) (rows rows' : List Row) → DecideAll vs rows → (first_refusal vs ≡ Passes → DecideAll us rows')
    → DecideAll (vs ++ us) (rows ++ rows')
unfolding first_refusal
decide_append [] us [] rows' d e = e refl
decide_append [] us (row ∷ rows) rows' d e = absurd d
decide_append (v ∷ vs) us [] rows' d e = absurd d
decide_append (Ok done ∷ vs) us (row ∷ rows) rows' d e = (d.0, λ h. decide_append vs us rows rows' (d.1 h) e)
decide_append (Err refusal ∷ vs) us (row ∷ rows) rows' d e = (d.0, λ h. absurd (never (sym h)))

-- a test of a condition
pub decide_if : (b : Bool) (number place : ℕ) (C : Type 0) → (b ≡ true → C) → (b ≡ false → C → ⊥) → Decides (refuse_if b number place) (at number place C)
decide_if true number place C holds fails n p = (λ e. (refuses-number e, refuses-place e, holds refl), λ r. refuses_both r.0 r.1)
decide_if false number place C holds fails n p = (λ e. absurd (never e), λ r. absurd (fails refl r.2))

-- a test at the first index that is wrong, whose number goes by the index
pub decide_first : (test : ℕ → Bool) (count : ℕ) (number : ℕ → ℕ) (wrong : ℕ → ℕ → Type 0)
    → ((i : ℕ) → i < count → test i ≡ true → wrong (number i) i)
    → ((i n : ℕ) → i < count → wrong n i → (test i ≡ true) × (n ≡ number i))
    → Decides (refuse_if (ltb (first test count) count) (number (first test count)) (first test count)) (at_smallest count wrong)
decide_first test count number wrong right only n p =
    let exactly = refused-at-first test count number (λ i. i) n p in (
      λ e.
          let r = exactly.0 e in
          subst₂ (at_smallest count wrong) (sym r.4) (sym r.5)
          (r.1, right r.0 r.1 r.2, λ k q m w. clash (only k m (omega (arith, r.1)) w).0 (r.3 k q)),
      λ r.
          let h = only p n r.0 r.1 in
          exactly.1 (p, r.0, h.0, λ k q. not_both (test k) (λ t. r.2 k q (number k) (right k (omega (arith, r.0)) t)), h.1, refl),
    )

pub settled-answer : (v : Verdict) (made buffer : List ℕ) → (settled v made buffer).answer ≡ answer v (length made)
unfolding settled
settled-answer (Ok done) made buffer = refl
settled-answer (Err refusal) made buffer = refl

-- each row of a list refuses with one of some numbers
abbrev pub NumbersOf : List ℕ → List Row → Type 0
NumbersOf ns [] = Unit {0}
NumbersOf ns (row ∷ rows) = ((n p : ℕ) → row n p → Among ns n) × NumbersOf ns rows

first_among : (ns : List ℕ) (rows : List Row) → NumbersOf ns rows → (n p : ℕ) → FirstOf rows n p → Among ns n
first_among ns [] h n p r = absurd r
first_among ns (row ∷ rows) h n p r = ⊎_elim (λ w. h.0 n p w) (λ w. first_among ns rows h.1 n p w.1) r

pub among_positive : (ns : List ℕ) → Each (λ m. 0 < m) ns → (n : ℕ) → Among ns n → n ≢ 0
among_positive [] h n a e = a
among_positive (m ∷ ms) h n (inl q) e = omega (arith, h.0)
among_positive (m ∷ ms) h n (inr a) e = among_positive ms h.1 n a e

-- the rows of a call, with numbers that are not 0
pub record Numbered (ns : List ℕ) (rows : List Row) : Type 0 where
  pub positive : Each (λ m. 0 < m) ns
  pub among : NumbersOf ns rows

pub first-number : (ns : List ℕ) (rows : List Row) → Numbered ns rows → (n p : ℕ) → FirstOf rows n p → n ≢ 0
first-number ns rows z n p r = among_positive ns z.positive n (first_among ns rows z.among n p r)

refusal_path : {m q n p : ℕ} → Refuses m q ≡ Refuses n p → ◌≡◌ {A = Answer} (record { number = m; place = q; length = 0 }) (record { number = n; place = p; length = 0 })
refusal_path e i = record { number = sym (refuses-number e) i; place = sym (refuses-place e) i; length = 0 }

-- a call's answer is given exactly when its rows say
pub exactly : (v : Verdict) (ns : List ℕ) (rows : List Row) (made : ℕ) → Decides v (FirstOf rows) → Numbered ns rows → Exactly rows (answer v made)
exactly (Ok done) ns rows made d z =
    record {
      refused = λ n p h. (λ e. absurd (h (sym (ap (λ (a : Answer). a.number) e))), λ r. absurd (never ((d n p).1 r)));
      accepted = (λ e n p r. never ((d n p).1 r), λ h. refl);
    }
exactly (Err refusal) ns rows made d z =
    let fires = (d refusal.number refusal.place).0 refl in
    record {
      refused = λ n p h.
          (λ e. (d n p).0 (refuses_both (sym (ap (λ (a : Answer). a.number) e)) (sym (ap (λ (a : Answer). a.place) e))), λ r. refusal_path ((d n p).1 r));
      accepted = (λ e. absurd (first-number ns rows z refusal.number refusal.place fires e), λ h. absurd (h refusal.number refusal.place fires));
    }

-- and so is that of a call that writes, by its tests and that of the room
pub exactly-written : (tests : List Verdict) (ns : List ℕ) (rows : List Row) (made buffer : List ℕ) → DecideAll (tests ++ (room_test made buffer ∷ [])) rows
    → Numbered ns rows → Exactly rows (written tests made buffer).answer
unfolding written
exactly-written tests ns rows made buffer d z =
    let ts = tests ++ (room_test made buffer ∷ []) in
    rw (settled-answer (first_refusal ts) made buffer) (exactly (first_refusal ts) ns rows (length made) (first_decides ts rows d) z)

-- an accepted call's tests all pass
pub zero-passes : (tests : List Verdict) (ns : List ℕ) (rows : List Row) (made buffer : List ℕ) → DecideAll (tests ++ (room_test made buffer ∷ [])) rows → Numbered ns rows
    → (written tests made buffer).answer.number ≡ 0 → first_refusal (tests ++ (room_test made buffer ∷ [])) ≡ Passes
unfolding written
zero-passes tests ns rows made buffer d z e =
    let ts = tests ++ (room_test made buffer ∷ []) in
    by (first_refusal ts) refl (sym (ap (λ (a : Answer). a.number) (settled-answer (first_refusal ts) made buffer)) ∙ e)
  where
    by : (v : Verdict) → first_refusal (tests ++ (room_test made buffer ∷ [])) ≡ v → (answer v (length made)).number ≡ 0 → v ≡ Passes
    by (Ok done) h q = refl
    by (Err refusal) h q = absurd (first-number ns rows z refusal.number refusal.place ((first_decides (tests ++ (room_test made buffer ∷ [])) rows d refusal.number refusal.place).0 h) q)

pub answers-verdict : (v : Verdict) (ns : List ℕ) (rows : List Row) (len : ℕ) → Decides v (FirstOf rows) → Numbered ns rows → FromTable ns (answer v len)
answers-verdict (Ok done) ns rows len d z = inl (refl, refl)
answers-verdict (Err refusal) ns rows len d z = inr (first_among ns rows z.among refusal.number refusal.place ((d refusal.number refusal.place).0 refl), refl)

-- what any answer of such a call is
pub answers : (tests : List Verdict) (ns : List ℕ) (rows : List Row) (made buffer : List ℕ) → DecideAll (tests ++ (room_test made buffer ∷ [])) rows → Numbered ns rows
    → Answers ns buffer (written tests made buffer)
unfolding written settled
answers tests ns rows made buffer d z =
    let ts = tests ++ (room_test made buffer ∷ []) in
    by (first_refusal ts) refl
  where
    by : (v : Verdict) → first_refusal (tests ++ (room_test made buffer ∷ [])) ≡ v → Answers ns buffer (settled v made buffer)
    by (Ok done) h =
        record { from_table = inl (refl, refl); held = λ n. absurd (n refl); sized = length-splice buffer 0 made (omega (arith, room-passed tests made buffer h)) }
    by (Err refusal) h =
        record {
          from_table = inr (first_among ns rows z.among refusal.number refusal.place ((first_decides (tests ++ (room_test made buffer ∷ [])) rows d refusal.number refusal.place).0 h), refl);
          held = λ _. refl;
          sized = refl;
        }

-- what an accepted call leaves in its buffer
leaves-written : (tests : List Verdict) (made buffer : List ℕ) {Made : List ℕ → Type 0} → first_refusal (tests ++ (room_test made buffer ∷ [])) ≡ Passes → Made made
    → Leaves Made buffer (written tests made buffer)
unfolding written settled splice
leaves-written tests made buffer e m =
    record {
      bytes = made;
      made = m;
      answers = ap (λ (v : Verdict). (settled v made buffer).answer.length) e;
      left = ap (λ (v : Verdict). (settled v made buffer).left) e ∙ ap (λ (n : ℕ). made ++ drop n buffer) (zero-add (length made));
    }

-- a call that writes says and leaves what is asked, where its tests decide its rows and what it makes, once they pass, is what is asked for
pub writes : (tests : List Verdict) (ns : List ℕ) (rows : List Row) (made buffer : List ℕ) {Made : List ℕ → Type 0} → DecideAll (tests ++ (room_test made buffer ∷ [])) rows
    → Numbered ns rows → (first_refusal (tests ++ (room_test made buffer ∷ [])) ≡ Passes → Made made) → Writes ns rows Made buffer (written tests made buffer)
writes tests ns rows made buffer d z m =
    record {
      answers = answers tests ns rows made buffer d z;
      exactly = exactly-written tests ns rows made buffer d z;
      leaves = λ a. let e = zero-passes tests ns rows made buffer d z a in leaves-written tests made buffer e (m e);
    }
