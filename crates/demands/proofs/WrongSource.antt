-- 3, of one entry: what the meaning tests is what document 01 lists. Assumes nothing.
use mathlib.Core.Bool.{Bool, true, false, not, ◌&&◌, ◌||◌}
use mathlib.Core.List.{List, [], ◌∷◌, map}
use mathlib.Core.Logic.{◌⊎◌, inl, inr, ⊎_elim, ◌≢◌}
use mathlib.Core.Path.{◌≡◌, refl, sym, ap, ◌∙◌}
use Prim.Native.Nat.{ℕ, ◌+◌, ◌*◌, ◌≤◌, ◌<◌}
use native.Mathlib.Decide.{dec_lt}
use native.Mathlib.Omega.{arith}
use lib.Dec.{eqb, ltb, leb}
use lib.ListN.{length, get_or, take, drop, length-drop}
use lib.Seq.{length-take-le, get_or-take, get_or-drop}
use borrow.Author.Tests.{ltb-true, eqb-true, eqb-false, leb-false, lt-ltb, lt-leb, eq-eqb, ne_eqb, not-true}
use Rattle.basis.specs.Lists.{count_up, any}
use Rattle.basis.proofs.Bools.{clash, and-true, true-and, not_both, either_or, or_either, or_true}
use Rattle.basis.proofs.Counting.{length_counted, any_some, some-any}
use Rattle.meaning.specs.Methods.{within, listed}
use Rattle.meaning.specs.Register.{source_at, line_start, name_start, misplaced, unsound, bad_name_byte, wrong_source, line_at}
use Rattle.demands.specs.Table.{Among, 1_to_6}
use Rattle.demands.specs.Fields.{sources_in, lines_in, name_bytes_in, number, method, parameter, line_count, first_line, name_length, name_offset, lines_before, names_before, name_at, name_byte}
use Rattle.demands.specs.Refusals.{Listed, WrongSource}
use Rattle.demands.proofs.Among.{only, among_within}
use Rattle.demands.proofs.Table.{single, sixfold, listed_either}
use Rattle.demands.proofs.Figures.{lines_before_lem, names_before_lem}

pub left_or : {a : Bool} → a ≡ true → (c : Bool) → a || c ≡ true
left_or e c = rw e

pub right_or : (a : Bool) {c : Bool} → c ≡ true → a || c ≡ true
right_or a e = rw e (or_true a)

-- the sixteen pairs
single_among : (m : ℕ) → single m ≡ true → Among (1 ∷ 2 ∷ 3 ∷ 5 ∷ []) m
single_among m e =
    ⊎_elim
    (λ h. ⊎_elim (λ h. ⊎_elim (λ h. inl (eqb-true m 1 h)) (λ h. inr (inl (eqb-true m 2 h))) (or_either (eqb m 1) (eqb m 2) h)) (λ h. inr (inr (inl (eqb-true m 3 h)))) (or_either (eqb m 1 || eqb m 2) (eqb m 3) h))
    (λ h. inr (inr (inr (inl (eqb-true m 5 h)))))
    (or_either (eqb m 1 || eqb m 2 || eqb m 3) (eqb m 5) e)

among_single : (m : ℕ) → Among (1 ∷ 2 ∷ 3 ∷ 5 ∷ []) m → single m ≡ true
among_single m (inl e) = rw e
among_single m (inr (inl e)) = rw e
among_single m (inr (inr (inl e))) = rw e
among_single m (inr (inr (inr a))) = rw (only a)

sixfold_among : (m : ℕ) → sixfold m ≡ true → Among (4 ∷ 6 ∷ []) m
sixfold_among m e = ⊎_elim (λ h. inl (eqb-true m 4 h)) (λ h. inr (inl (eqb-true m 6 h))) (or_either (eqb m 4) (eqb m 6) e)

among_sixfold : (m : ℕ) → Among (4 ∷ 6 ∷ []) m → sixfold m ≡ true
among_sixfold m (inl e) = rw e
among_sixfold m (inr a) = rw (only a)

pub listed_then : (m p : ℕ) → listed m p ≡ true → Listed m p
listed_then m p e = ⊎_elim (λ h. inl (single_among m h.0, only h.1)) (λ h. inr (sixfold_among m h.0, h.1)) (listed_either m p e)

then_listed : (m p : ℕ) → Listed m p → listed m p ≡ true
then_listed m p (inl h) = either_or (single m && eqb p 0) (sixfold m && within 1 6 p) (inl (true-and (single m) (eqb p 0) (among_single m h.0) (eq-eqb p 0 h.1)))
then_listed m p (inr h) =
    either_or (single m && eqb p 0) (sixfold m && within 1 6 p)
    (inr (true-and (sixfold m) (within 1 6 p) (among_sixfold m h.0) (among_within 1_to_6 1 6 p (omega arith) h.1)))

-- what may be wrong, in turn
module _ (b : List ℕ) (i : ℕ) where
  at-number : number b i ≡ 0 → WrongSource b i
  at-number h = inl h

  at_pair : (Listed (method b i) (parameter b i) → ⊥) → WrongSource b i
  at_pair h = inr (inl h)

  at-lines : line_count b i ≡ 0 → WrongSource b i
  at-lines h = inr (inr (inl h))

  at_none : name_length b i ≡ 0 → WrongSource b i
  at_none h = inr (inr (inr (inl h)))

  at_long : 64 < name_length b i → WrongSource b i
  at_long h = inr (inr (inr (inr (inl h))))

  at_byte : (k : ℕ) × (k < name_length b i) × ((name_byte b i k < 32) ⊎ (name_byte b i k ≡ 127)) → WrongSource b i
  at_byte h = inr (inr (inr (inr (inr (inl h)))))

  at-first-line : first_line b i ≢ lines_before b i → WrongSource b i
  at-first-line h = inr (inr (inr (inr (inr (inr (inl h))))))

  at_offset : name_offset b i ≢ names_before b i → WrongSource b i
  at_offset h = inr (inr (inr (inr (inr (inr (inr (inl h)))))))

  at-last-line : lines_in b < first_line b i + line_count b i → WrongSource b i
  at-last-line h = inr (inr (inr (inr (inr (inr (inr (inr (inl h))))))))

  at-last_byte : name_bytes_in b < name_offset b i + name_length b i → WrongSource b i
  at-last_byte h = inr (inr (inr (inr (inr (inr (inr (inr (inr h))))))))

  misplaced_then : misplaced b i ≡ true → WrongSource b i
  unfolding misplaced
  misplaced_then e =
      let A = not (eqb (first_line b i) (line_start b i)) in
      let B = not (eqb (name_offset b i) (name_start b i)) in
      let C = ltb (lines_in b) (first_line b i + line_count b i) in
      let D = ltb (name_bytes_in b) (name_offset b i + name_length b i) in
      ⊎_elim
      (λ h. ⊎_elim
      (λ h. ⊎_elim (λ h. at-first-line (λ q. eqb-false _ _ (not-true _ h) (q ∙ sym (lines_before_lem b i)))) (λ h. at_offset (λ q. eqb-false _ _ (not-true _ h) (q ∙ sym (names_before_lem b i)))) (or_either A B h))
      (λ h. at-last-line (ltb-true _ _ h)) (or_either (A || B) C h))
      (λ h. at-last_byte (ltb-true _ _ h))
      (or_either (A || B || C) D e)

-- a name that does not run past the names: its length and its bytes
module _ (b : List ℕ) (i : ℕ) (long : length b ≡ 32 + 16 * sources_in b + 20 * lines_in b + name_bytes_in b) (within-names : name_offset b i + name_length b i ≤ name_bytes_in b) where
  name : List ℕ
  name = take (name_length b i) (drop (name_at b i) b)

  length-name : length name ≡ name_length b i
  unfolding name
  length-name = length-take-le (name_length b i) (drop (name_at b i) b) (rw length-drop (omega arith))

  name-at : (k : ℕ) → k < name_length b i → get_or name k 0 ≡ name_byte b i k
  unfolding name
  name-at k l = get_or-take (name_length b i) (drop (name_at b i) b) k 0 l ∙ get_or-drop (name_at b i) b k 0

  bad_byte_then : any bad_name_byte name ≡ true → WrongSource b i
  bad_byte_then e =
      let r = any_some bad_name_byte 0 name e in
      let l : r.0 < name_length b i = rw length-name at r.1 in
      let c = get_or name r.0 0 in
      let w : (c < 32) ⊎ (c ≡ 127) = ⊎_elim (λ h. inl (ltb-true c 32 h)) (λ h. inr (eqb-true c 127 h)) (or_either (ltb c 32) (eqb c 127) r.2) in
      at_byte b i (r.0, l, rw (name-at r.0 l) at w)

  length_then : within 1 64 (length name) ≡ false → WrongSource b i
  length_then e = by (leb 1 (length name)) refl (leb (length name) 64) refl e
    where
      by : (c : Bool) → leb 1 (length name) ≡ c → (d : Bool) → leb (length name) 64 ≡ d → c && d ≡ false → WrongSource b i
      by true p true q e = absurd (clash refl e)
      by true p false q e = at_long b i (omega (arith, leb-false (length name) 64 q, length-name))
      by false p d q e = at_none b i (omega (arith, leb-false 1 (length name) p, length-name))

  bad-length : (name_length b i ≡ 0) ⊎ (64 < name_length b i) → within 1 64 (length name) ≡ false
  bad-length (inl h) = rw (length-name, h)
  bad-length (inr h) = not_both (within 1 64 (length name)) (λ e. clash (and-true (leb 1 (length name)) (leb (length name) 64) e).1 (lt-leb (length name) 64 (omega (arith, length-name))))

  bad_byte : (k : ℕ) → k < name_length b i → (name_byte b i k < 32) ⊎ (name_byte b i k ≡ 127) → any bad_name_byte name ≡ true
  bad_byte k l w =
      let c = get_or name k 0 in
      let v : (c < 32) ⊎ (c ≡ 127) = rw (name-at k l) w in
      some-any bad_name_byte 0 name k (rw length-name l) (either_or (ltb c 32) (eqb c 127) (⊎_elim (λ h. inl (lt-ltb c 32 h)) (λ h. inr (eq-eqb c 127 h)) v))

  abbrev A : Bool
  A = eqb (number b i) 0

  abbrev B : Bool
  B = not (listed (method b i) (parameter b i))

  abbrev C : Bool
  C = eqb (length (map (line_at b) (count_up (first_line b i) (line_count b i)))) 0

  abbrev D : Bool
  D = not (within 1 64 (length name))

  abbrev E : Bool
  E = any bad_name_byte name

  count-lines : length (map (line_at b) (count_up (first_line b i) (line_count b i))) ≡ line_count b i
  count-lines = length_counted (line_at b) (first_line b i) (line_count b i)

  unsound_then : unsound (source_at b i) ≡ true → WrongSource b i
  unfolding unsound source_at name
  unsound_then e =
      ⊎_elim
      (λ h. ⊎_elim
      (λ h. ⊎_elim
      (λ h. ⊎_elim (λ h. at-number b i (eqb-true _ _ h)) (λ h. at_pair b i (λ l. clash (then_listed (method b i) (parameter b i) l) (not-true _ h))) (or_either A B h))
      (λ h. at-lines b i (sym count-lines ∙ eqb-true _ _ h)) (or_either (A || B) C h))
      (λ h. length_then (not-true _ h)) (or_either (A || B || C) D h))
      bad_byte_then
      (or_either (A || B || C || D) E e)

  -- and the other way round: what is wrong with the source itself
  unsound_if : A || B || C || D || E ≡ true → unsound (source_at b i) ≡ true
  unfolding unsound source_at name
  unsound_if e = e

  wrong-number : number b i ≡ 0 → unsound (source_at b i) ≡ true
  wrong-number h = unsound_if (left_or (left_or (left_or (left_or (eq-eqb (number b i) 0 h) B) C) D) E)

  wrong-pair : (Listed (method b i) (parameter b i) → ⊥) → unsound (source_at b i) ≡ true
  wrong-pair h = unsound_if (left_or (left_or (left_or (right_or A (ap not (not_both (listed (method b i) (parameter b i)) (λ t. h (listed_then (method b i) (parameter b i) t))))) C) D) E)

  wrong-lines : line_count b i ≡ 0 → unsound (source_at b i) ≡ true
  wrong-lines h = unsound_if (left_or (left_or (right_or (A || B) (eq-eqb _ 0 (count-lines ∙ h))) D) E)

  wrong-length : (name_length b i ≡ 0) ⊎ (64 < name_length b i) → unsound (source_at b i) ≡ true
  wrong-length h = unsound_if (left_or (right_or (A || B || C) (ap not (bad-length h))) E)

  wrong_byte : (k : ℕ) × (k < name_length b i) × ((name_byte b i k < 32) ⊎ (name_byte b i k ≡ 127)) → unsound (source_at b i) ≡ true
  wrong_byte h = unsound_if (right_or (A || B || C || D) (bad_byte h.0 h.1 h.2))

module _ (b : List ℕ) (i : ℕ) (long : length b ≡ 32 + 16 * sources_in b + 20 * lines_in b + name_bytes_in b) where
  abbrev F : Bool
  F = not (eqb (first_line b i) (line_start b i))

  abbrev G : Bool
  G = not (eqb (name_offset b i) (name_start b i))

  abbrev H : Bool
  H = ltb (lines_in b) (first_line b i + line_count b i)

  abbrev I : Bool
  I = ltb (name_bytes_in b) (name_offset b i + name_length b i)

  misplaced_if : F || G || H || I ≡ true → misplaced b i ≡ true
  unfolding misplaced
  misplaced_if e = e

  past : name_bytes_in b < name_offset b i + name_length b i → misplaced b i ≡ true
  past h = misplaced_if (right_or (F || G || H) (lt-ltb _ _ h))

  then_either : name_offset b i + name_length b i ≤ name_bytes_in b → WrongSource b i → (misplaced b i ≡ true) ⊎ (unsound (source_at b i) ≡ true)
  then_either w (inl h) = inr (wrong-number b i long w h)
  then_either w (inr (inl h)) = inr (wrong-pair b i long w h)
  then_either w (inr (inr (inl h))) = inr (wrong-lines b i long w h)
  then_either w (inr (inr (inr (inl h)))) = inr (wrong-length b i long w (inl h))
  then_either w (inr (inr (inr (inr (inl h))))) = inr (wrong-length b i long w (inr h))
  then_either w (inr (inr (inr (inr (inr (inl h)))))) = inr (wrong_byte b i long w h)
  then_either w (inr (inr (inr (inr (inr (inr (inl h))))))) =
      inl (misplaced_if (left_or (left_or (left_or (ap not (ne_eqb _ _ (λ q. h (q ∙ lines_before_lem b i)))) G) H) I))
  then_either w (inr (inr (inr (inr (inr (inr (inr (inl h)))))))) =
      inl (misplaced_if (left_or (left_or (right_or F (ap not (ne_eqb _ _ (λ q. h (q ∙ names_before_lem b i))))) H) I))
  then_either w (inr (inr (inr (inr (inr (inr (inr (inr (inl h))))))))) = inl (misplaced_if (left_or (right_or (F || G) (lt-ltb _ _ h)) I))
  then_either w (inr (inr (inr (inr (inr (inr (inr (inr (inr h))))))))) = inl (past h)

  pub then_wrong : WrongSource b i → wrong_source b i ≡ true
  unfolding wrong_source
  then_wrong w = by (dec_lt (name_bytes_in b) (name_offset b i + name_length b i))
    where
      by : Dec (name_bytes_in b < name_offset b i + name_length b i) → misplaced b i || unsound (source_at b i) ≡ true
      by (yes h) = either_or (misplaced b i) (unsound (source_at b i)) (inl (past h))
      by (no h) = either_or (misplaced b i) (unsound (source_at b i)) (then_either (omega arith) w)

  pub wrong_then : wrong_source b i ≡ true → WrongSource b i
  unfolding wrong_source
  wrong_then e = ⊎_elim (misplaced_then b i) (λ h. by h (dec_lt (name_bytes_in b) (name_offset b i + name_length b i))) (or_either (misplaced b i) (unsound (source_at b i)) e)
    where
      by : unsound (source_at b i) ≡ true → Dec (name_bytes_in b < name_offset b i + name_length b i) → WrongSource b i
      by u (yes h) = at-last_byte b i h
      by u (no h) = unsound_then b i long (omega arith) u
