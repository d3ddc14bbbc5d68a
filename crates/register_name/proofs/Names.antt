-- The names: one that is found stands within its register, and which of two registers alone holds a number. Assumes nothing.
use Rattle.std.specs.Prelude.{Option, Some, None}
use Rattle.std.specs.Option.{is_some, option_flatten, unwrap_or}
use mathlib.Core.Bool.{Bool, true, false, cond, not, ◌&&◌}
use mathlib.Core.List.{List}
use mathlib.Core.Path.{◌≡◌, refl, sym, ◌∙◌}
use Prim.Native.Nat.{ℕ, ◌+◌, ◌≤◌}
use native.Mathlib.Omega.{arith}
use borrow.Author.Tests.{ltb-true}
use lib.Dec.{eqb}
use lib.ListN.{length}
use Rattle.basis.proofs.Bools.{clash, and-true}
use Rattle.meaning.specs.declared.Part.{Part}
use Rattle.meaning.specs.declared.Found.{Found}
use Rattle.meaning.specs.Register.{source_count}
use Rattle.meaning.specs.Calls.{accepted, index_of, holds, name_at, found, in_register, found_of_two}
use Rattle.register_name.specs.Lookups.{sought}
use Rattle.register_name.proofs.look.Looking.{accepted_headed, accepted-placed}

abbrev pub nothing : Part
nothing = record { offset = 0; length = 0 }

-- a name found stands within the register
found_within : (b : List ℕ) (number : ℕ) → (found b number).offset + (found b number).length ≤ length b
unfolding found holds name_at
found_within b number = by (accepted b && holds b number) refl
  where
    by : (t : Bool) → accepted b && holds b number ≡ t
        → (cond t (name_at b (index_of b number)) nothing).offset + (cond t (name_at b (index_of b number)) nothing).length ≤ length b
    by true e =
        let both = and-true (accepted b) (holds b number) e in
        let l = ltb-true (index_of b number) (source_count b) both.1 in
        omega (arith, (accepted-placed b both.0 (index_of b number) l).names, (accepted_headed b both.0).whole)
    by false e = omega arith

pub within : {p : Part} (b : List ℕ) (number : ℕ) → p ≡ found b number → p.offset + p.length ≤ length b
within b number e = rw e (found_within b number)

-- and one found in either register within that one
module _ (plant contractor : List ℕ) (number : ℕ) where
  abbrev chosen : Bool → Bool → Found
  chosen here there = cond here (in_register 1 (found plant number)) (cond there (in_register 2 (found contractor number)) (record { which = 1; offset = 0; length = 0 }))

  abbrev here : Bool
  here = accepted plant && accepted contractor && holds plant number && not (holds contractor number)

  abbrev there : Bool
  there = accepted plant && accepted contractor && not (holds plant number) && holds contractor number

  abbrev Inside : Found → Type 0
  Inside f = (eqb f.which 1 ≡ true → f.offset + f.length ≤ length plant) × (eqb f.which 1 ≡ false → f.offset + f.length ≤ length contractor)

  inside : Inside (found_of_two plant contractor number)
  unfolding found_of_two
  inside = by here there
    where
      by : (here there : Bool) → Inside (chosen here there)
      by true there = (λ _. found_within plant number, λ e. absurd (clash refl e))
      by false true = (λ e. absurd (clash e refl), λ _. found_within contractor number)
      by false false = (λ _. omega arith, λ _. omega arith)

  module _ {f : Found} (e : f ≡ found_of_two plant contractor number) where
    pub within_plant : eqb f.which 1 ≡ true → f.offset + f.length ≤ length plant
    within_plant t = rw e (inside.0 (rw e at t))

    pub within_contractor : eqb f.which 1 ≡ false → f.offset + f.length ≤ length contractor
    within_contractor t = rw e (inside.1 (rw e at t))

-- what is found, from what was sought in one register or in both
pub found-as : (b : List ℕ) (number : ℕ) → found b number ≡ unwrap_or (option_flatten (sought b number)) nothing
unfolding found
found-as b number = by (accepted b) (holds b number) (name_at b (index_of b number))
  where
    by : (a h : Bool) (p : Part) → cond (a && h) p nothing ≡ unwrap_or (option_flatten (cond a (Some (cond h (Some p) None)) None)) nothing
    by false h p = refl
    by true false p = refl
    by true true p = refl

abbrev pub name_in_either : Option (Option Part) → Option (Option Part) → Found
name_in_either (Some (Some p)) (Some None) = in_register 1 p
name_in_either (Some None) (Some (Some p)) = in_register 2 p
name_in_either s t = in_register 1 nothing

pub found-in : (plant contractor : List ℕ) (number : ℕ) → found_of_two plant contractor number ≡ name_in_either (sought plant number) (sought contractor number)
unfolding found_of_two found
found-in plant contractor number =
    by (accepted plant) (accepted contractor) (holds plant number) (holds contractor number) (name_at plant (index_of plant number)) (name_at contractor (index_of contractor number))
  where
    by : (a b h k : Bool) (p q : Part)
        → cond ((a && b) && h && not k) (in_register 1 (cond (a && h) p nothing)) (cond ((a && b) && not h && k) (in_register 2 (cond (b && k) q nothing)) (in_register 1 nothing))
        ≡ name_in_either (cond a (Some (cond h (Some p) None)) None) (cond b (Some (cond k (Some q) None)) None)
    by false b h k p q = refl
    by true false false k p q = refl
    by true false true k p q = refl
    by true true false false p q = refl
    by true true false true p q = refl
    by true true true false p q = refl
    by true true true true p q = refl

pub told-of-two : (plant contractor : List ℕ) (number : ℕ) {s t : Option (Option Part)} {r : Found} → s ≡ sought plant number → t ≡ sought contractor number → r ≡ name_in_either s t
    → r ≡ found_of_two plant contractor number
told-of-two plant contractor number e f g = g ∙ rw (e, f) (sym (found-in plant contractor number))

-- where one is refused there is no name
pub one-refused : (s t : Option (Option Part)) {a b : Bool} → a ≡ is_some s → b ≡ is_some t → a && b ≡ false → in_register 1 nothing ≡ name_in_either s t
one-refused None None e f h = refl
one-refused None (Some k) e f h = refl
one-refused (Some None) None e f h = refl
one-refused (Some (Some p)) None e f h = refl
one-refused (Some j) (Some k) e f h = absurd (clash refl (rw (e, f) at h))

-- and where both are accepted, that of the one that holds the number alone
abbrev pub name_alone : Option Part → Option Part → Found
name_alone (Some p) None = in_register 1 p
name_alone None (Some p) = in_register 2 p
name_alone j k = in_register 1 nothing

pub both-accepted : (s t : Option (Option Part)) {a b : Bool} {j k : Option Part} → a ≡ is_some s → b ≡ is_some t → a && b ≡ true → j ≡ option_flatten s → k ≡ option_flatten t
    → name_alone j k ≡ name_in_either s t
both-accepted None t {a} {b} e f h i l = absurd (clash (and-true a b h).0 e)
both-accepted (Some j) None {a} {b} e f h i l = absurd (clash (and-true a b h).1 f)
both-accepted (Some j) (Some k) e f h i l = rw (i, l) (by j k)
  where
    by : (j k : Option Part) → name_alone j k ≡ name_in_either (Some j) (Some k)
    by None None = refl
    by None (Some q) = refl
    by (Some p) None = refl
    by (Some p) (Some q) = refl
