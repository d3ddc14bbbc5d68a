-- The promises of the exported calls and the demands meet. Assumes nothing.
use denote.Ref.{Bor}
use mathlib.Core.Bool.{Bool, true, false, cond, not, ◌&&◌}
use mathlib.Core.List.{List}
use mathlib.Core.Logic.{◌⊎◌, inl, inr}
use mathlib.Core.Path.{◌≡◌, refl, sym, subst}
use Prim.Native.Nat.{ℕ, ◌<◌}
use native.Mathlib.Omega.{arith}
use mir.Syntax.{w8}
use mir.Val.{Fits}
use Rattle.basis.specs.declared.Answer.{Answer}
use Rattle.basis.specs.Bytes.{Bytes}
use Rattle.basis.specs.Answers.{Outcome, Gives}
use Rattle.meaning.specs.declared.Part.{Part}
use Rattle.meaning.specs.declared.Found.{Found}
use Rattle.meaning.specs.Calls.{calculated, combined, removed, checked, text, amounts, accepted, holds, found, in_register, found_of_two}
use Rattle.meaning.specs.Parts.{IsPart, IsName, IsNameOfEither}
use Rattle.demands.specs.Demand2.{part_of}
use Rattle.demands.specs.Calls.{Calculates, Combines, Removes, Checks, Prints, WorksOut, Finds, FindsOfTwo, IsPartOf, HandsBack, HandsBackEither}
use Rattle.demands.proofs.Kept.{kept}

-- what a slice of bytes holds at an index is a byte
pub lent : {n : ℕ} → Fits w8 n → n < 256
lent h = omega (arith, h.fits)

-- what a promise gives is the promised outcome, so all that is said of that is said of what was given
gave : {o : Outcome} {a : Answer} {left : List ℕ} (P : Outcome → Type 0) → Gives o a left → P o → P (record { answer = a; left = left })
gave {o} P g p = subst P (λ i. record { answer = sym g.answers i; left = sym g.leaves i }) p

pub calculates : {register report left : List ℕ} {a : Answer} → Bytes register → Gives (calculated register report) a left
    → Calculates register report (record { answer = a; left = left })
calculates {register} {report} b g = gave (Calculates register report) g (kept.calls.calculation register report b)

pub combines : {one other report left : List ℕ} {a : Answer} → Bytes one → Bytes other → Gives (combined one other report) a left
    → Combines one other report (record { answer = a; left = left })
combines {one} {other} {report} b c g = gave (Combines one other report) g (kept.calls.combination one other report b c)

pub removes : {report result left : List ℕ} {number : ℕ} {a : Answer} → Bytes report → Gives (removed report number result) a left
    → Removes report number result (record { answer = a; left = left })
removes {report} {result} {number = number} b g = gave (Removes report number result) g (kept.calls.removal report result number b)

pub checks : {report : List ℕ} {a : Answer} → Bytes report → a ≡ checked report → Checks report a
checks {report} b e = subst (Checks report) (sym e) (kept.calls.check report b)

pub prints : {report buffer left : List ℕ} {a : Answer} → Bytes report → Gives (text report buffer) a left
    → Prints report buffer (record { answer = a; left = left })
prints {report} {buffer} b g = gave (Prints report buffer) g (kept.calls.printing report buffer b)

pub works_out : {cards buffer left : List ℕ} {a : Answer} → Gives (amounts cards buffer) a left → WorksOut cards buffer (record { answer = a; left = left })
works_out {cards} {buffer} g = gave (WorksOut cards buffer) g (kept.calls.working cards buffer)

pub finds : {register : List ℕ} {number : ℕ} {p : Part} → p ≡ found register number → Finds register number p
finds {register} {number} e = subst (Finds register number) (sym e) (kept.calls.name register number)

pub finds_of_two : {plant contractor : List ℕ} {number : ℕ} {f : Found} → f ≡ found_of_two plant contractor number → FindsOfTwo plant contractor number f
finds_of_two {plant} {contractor} {number} e = subst (FindsOfTwo plant contractor number) (sym e) (kept.calls.name_of_two plant contractor number)

-- a promised part, by its bytes and its place
part_of_lem : (register r : Bor (List ℕ)) (p : Part) → IsPart register p.offset p.length r → IsPartOf register.now register.ref_ptr p r.now r.ref_ptr
part_of_lem register r p s = record { holds = s.holds; stands = s.stands }

pub hands_back : (register r : Bor (List ℕ)) (number : ℕ) → IsName register number r → HandsBack register.now register.ref_ptr number r.now r.ref_ptr
hands_back register r number s =
    let p = found register.now number in
    record { name = p; finds = kept.calls.name register.now number; part = part_of_lem register r p s }

one_of_two : (b d : Bool) (u v : Part) (f : Found) → f ≡ cond b (in_register 1 u) (cond d (in_register 2 v) (record { which = 1; offset = 0; length = 0 }))
    → (f.which ≡ 1) ⊎ (f.which ≡ 2)
one_of_two true d u v f e = inl (λ i. (e i).which)
one_of_two false true u v f e = inr (λ i. (e i).which)
one_of_two false false u v f e = inl (λ i. (e i).which)

which_is : (plant contractor : List ℕ) (number : ℕ) → ((found_of_two plant contractor number).which ≡ 1) ⊎ ((found_of_two plant contractor number).which ≡ 2)
unfolding found_of_two
which_is plant contractor number =
    let both = accepted plant && accepted contractor in
    one_of_two (both && holds plant number && not (holds contractor number)) (both && not (holds plant number) && holds contractor number)
    (found plant number) (found contractor number) (found_of_two plant contractor number) refl

pub hands_back_either : (plant contractor r : Bor (List ℕ)) (number : ℕ) → IsNameOfEither plant contractor number r
    → HandsBackEither plant.now plant.ref_ptr contractor.now contractor.ref_ptr number r.now r.ref_ptr
hands_back_either plant contractor r number s =
    let f = found_of_two plant.now contractor.now number in
    record { name = f; finds = kept.calls.name_of_two plant.now contractor.now number; part = by (which_is plant.now contractor.now number) }
  where
    by : ((found_of_two plant.now contractor.now number).which ≡ 1) ⊎ ((found_of_two plant.now contractor.now number).which ≡ 2)
        → let f = found_of_two plant.now contractor.now number in
        ((f.which ≡ 1) × IsPartOf plant.now plant.ref_ptr (part_of f) r.now r.ref_ptr) ⊎ ((f.which ≡ 2) × IsPartOf contractor.now contractor.ref_ptr (part_of f) r.now r.ref_ptr)
    by (inl e) = inl (e, part_of_lem plant r (part_of (found_of_two plant.now contractor.now number)) (rw e at s))
    by (inr e) = inr (e, part_of_lem contractor r (part_of (found_of_two plant.now contractor.now number)) (rw e at s))
