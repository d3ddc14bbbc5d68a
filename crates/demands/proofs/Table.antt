-- Decoding goes by the table: bad exactly if no row fits, and else what the one row that fits says. Assumes nothing.
use mathlib.Core.Bool.{Bool, true, false, cond, ◌&&◌, ◌||◌}
use mathlib.Core.List.{[], ◌∷◌}
use mathlib.Core.Logic.{◌⊎◌, inl, inr, ⊎_elim, ◌↔◌}
use mathlib.Core.Path.{◌≡◌, refl, sym, ◌∙◌}
use Prim.Native.Nat.{ℕ, ◌≤◌, ◌<◌}
use native.Mathlib.Omega.{arith}
use lib.Dec.{eqb, leb}
use lib.ListN.{length}
use borrow.Author.Tests.{eqb-true, leb-true, eqb-false}
use Rattle.basis.specs.Lists.{count_up}
use Rattle.basis.proofs.Bools.{clash, and-true, or_either}
use Rattle.basis.proofs.Lists.{each_at}
use Rattle.meaning.specs.declared.RawLine.{RawLine}
use Rattle.meaning.specs.declared.Line.{Line}
use Rattle.meaning.specs.declared.Kind.{Kind}
use Rattle.meaning.specs.Methods.{Decoded, within, listed, in_range, given, is_kind, any_unit, gas_unit, in_tonnes, coded, code_from, b_whole, balanced, fuel, flare, metals, petrochemical, cement, nitric_acid, by_method, decoded}
use Rattle.std.specs.Prelude.{Some, None}
use Rattle.demands.specs.Table.{Among, In, content, 1_to_4, 1_to_6, table, row_at, FitsAt, NoRow}
use Rattle.demands.proofs.Among.{range_among, within_range}
use Rattle.demands.proofs.Readings.{Reading, each-reads}

-- a good line comes from a row: a test that held, link by link
bad-good : {x : Line} {A : Type 0} → None ≡ Some x → A
bad-good e = let z : ◌≡◌ {A = ℕ} 0 1 = cc in absurd (omega arith)

cond-good : (c : Bool) (y z : Decoded) {x : Line} → cond c y z ≡ Some x → ((c ≡ true) × (y ≡ Some x)) ⊎ (z ≡ Some x)
cond-good true y z e = inl (refl, e)
cond-good false y z e = inr e

given-good : (c : Bool) (l : RawLine) (k : Kind) (other : Decoded) {x : Line} → given c l k other ≡ Some x → (c ≡ true) ⊎ (other ≡ Some x)
given-good true l k other e = inl refl
given-good false l k other e = inr e

kept_range : (l : RawLine) → in_range l ≡ true → (l.q ≤ 10000000000) × In content l.unit l.a × (l.b ≤ 10000)
kept_range l e =
    let c = and-true _ _ e in
    let d = and-true _ _ c.0 in
    (leb-true _ _ d.0, by (eqb l.unit 1) refl d.1, leb-true _ _ c.1)
  where
    by : (t : Bool) → eqb l.unit 1 ≡ t → leb l.a (cond t 1000000 99999999) ≡ true → In content l.unit l.a
    by true h g = inl (eqb-true l.unit 1 h, leb-true l.a 1000000 g)
    by false h g = inr (eqb-false l.unit 1 h, leb-true l.a 99999999 g)

-- a pair that is listed: a method with parameter 0, or one with parameter 1 to 6
abbrev pub single : ℕ → Bool
single m = eqb m 1 || eqb m 2 || eqb m 3 || eqb m 5

abbrev pub sixfold : ℕ → Bool
sixfold m = eqb m 4 || eqb m 6

pub listed_either : (m p : ℕ) → listed m p ≡ true → ((single m ≡ true) × Among (0 ∷ []) p) ⊎ ((sixfold m ≡ true) × Among 1_to_6 p)
unfolding count_up
listed_either m p e =
    ⊎_elim (λ h. let r = and-true (single m) (eqb p 0) h in inl (r.0, inl (eqb-true p 0 r.1)))
    (λ h.
    let r = and-true (sixfold m) (within 1 6 p) h in
    let s = within_range 1 6 p r.1 in
    inr (r.0, range_among 1 6 p s.0 (omega (arith, s.1))))
    (or_either (single m && eqb p 0) (sixfold m && within 1 6 p) e)

module _ (m p : ℕ) (l : RawLine) (pair : listed m p ≡ true) (range : in_range l ≡ true) where
  abbrev Found : Type 0
  Found = (i : ℕ) × FitsAt i m p l

  ranges : (l.q ≤ 10000000000) × In content l.unit l.a × (l.b ≤ 10000)
  ranges = kept_range l range

  parameter-zero : sixfold m ≡ false → Among (0 ∷ []) p
  parameter-zero f = ⊎_elim (λ h. h.1) (λ h. absurd (clash h.0 f)) (listed_either m p pair)

  parameter_six : single m ≡ false → Among 1_to_6 p
  parameter_six f = ⊎_elim (λ h. absurd (clash h.0 f)) (λ h. h.1) (listed_either m p pair)

  -- the tests of the meaning, one by one
  one_to_four : (n : ℕ) → within 1 4 n ≡ true → Among (1 ∷ 2 ∷ 3 ∷ 4 ∷ []) n
  unfolding count_up
  one_to_four n e = let r = within_range 1 4 n e in range_among 1 4 n r.0 (omega (arith, r.1))

  one_or_two : (n : ℕ) → within 1 2 n ≡ true → Among (1 ∷ 2 ∷ []) n
  unfolding count_up
  one_or_two n e = let r = within_range 1 2 n e in range_among 1 2 n r.0 (omega (arith, r.1))

  at : (i : ℕ) → i < length table → m ≡ (row_at i).method → Among (row_at i).parameters p → l.kind ≡ (row_at i).kind → Among (row_at i).units l.unit
      → Among (row_at i).codes l.code → In (row_at i).a l.unit l.a → In (row_at i).b l.unit l.b → Found
  at i h e p k u c a b = (i, (h, record { of_method = e; of_parameter = p; of_kind = k; in_unit = u; coded = c; a = a; b = b; q = ranges.0 }))

  same : (x n : ℕ) → eqb x n ≡ true → Among (n ∷ []) x
  same x n t = inl (eqb-true x n t)

  kind-and : (k : ℕ) (t : Bool) → is_kind k l && t ≡ true → (l.kind ≡ k) × (t ≡ true)
  kind-and k t e = let c = and-true (is_kind k l) t e in (eqb-true l.kind k c.0, c.1)

  balance-line : (k : ℕ) → is_kind k l && balanced l ≡ true → (l.kind ≡ k) × Among 1_to_4 l.unit × Among (0 ∷ []) l.code × (l.b ≡ 10000)
  balance-line k t =
      let i = kind-and k (balanced l) t in
      let c = and-true (any_unit l && coded 0 l) (b_whole l) i.1 in
      let d = and-true (any_unit l) (coded 0 l) c.0 in
      (i.0, one_to_four l.unit d.0, same l.code 0 d.1, eqb-true l.b 10000 c.1)

  carbonate-line : (k : ℕ) → is_kind k l && in_tonnes l && code_from 1 4 l ≡ true → (l.kind ≡ k) × Among (1 ∷ []) l.unit × Among (1 ∷ 2 ∷ 3 ∷ 4 ∷ []) l.code
  carbonate-line k t =
      let c = and-true (is_kind k l && in_tonnes l) (code_from 1 4 l) t in
      let d = kind-and k (in_tonnes l) c.0 in
      (d.0, same l.unit 1 d.1, one_to_four l.code c.1)

  -- a link of a chain of kinds: here, or later
  link : (c : Bool) (k : Kind) (other : Decoded) {x : Line} → (c ≡ true → Found) → (other ≡ Some x → Found) → given c l k other ≡ Some x → Found
  link c k other here later e = ⊎_elim here later (given-good c l k other e)

  -- a link of the chain of methods
  either : (k : ℕ) (y z : Decoded) {x : Line} → (m ≡ k → y ≡ Some x → Found) → (z ≡ Some x → Found) → cond (eqb m k) y z ≡ Some x → Found
  either k y z here later e = ⊎_elim (λ h. here (eqb-true m k h.0) h.1) later (cond-good (eqb m k) y z e)

  of_fuel : {x : Line} → m ≡ 1 → fuel l ≡ Some x → Found
  of_fuel e =
      let z = parameter-zero (rw e) in
      link _ _ _
      (λ t.
      let c = and-true (is_kind 1 l && any_unit l) (coded 3 l || code_from 1 2 l && b_whole l) t in
      let k = kind-and 1 (any_unit l) c.0 in
      ⊎_elim
      (λ h. at 1 (omega arith) e z k.0 (one_to_four l.unit k.1) (same l.code 3 h) ranges.1 ranges.2)
      (λ h. let d = and-true (code_from 1 2 l) (b_whole l) h in
      at 0 (omega arith) e z k.0 (one_to_four l.unit k.1) (one_or_two l.code d.0) ranges.1 (eqb-true l.b 10000 d.1))
      (or_either (coded 3 l) (code_from 1 2 l && b_whole l) c.1))
      bad-good

  flare-line : (k : ℕ) → is_kind k l && gas_unit l && coded 0 l ≡ true → (l.kind ≡ k) × Among (1 ∷ 2 ∷ []) l.unit × Among (0 ∷ []) l.code
  flare-line k t =
      let c = and-true (is_kind k l && gas_unit l) (coded 0 l) t in
      let d = kind-and k (gas_unit l) c.0 in
      (d.0, one_or_two l.unit d.1, same l.code 0 c.1)

  of_flare : {x : Line} → m ≡ 2 → flare l ≡ Some x → Found
  of_flare e =
      let z = parameter-zero (rw e) in
      link _ _ _ (λ t. let f = flare-line 1 t in at 2 (omega arith) e z f.0 f.1 f.2 ranges.1 ranges.2)
      (link _ _ _ (λ t. let f = flare-line 2 t in at 3 (omega arith) e z f.0 f.1 f.2 ranges.1 ranges.2)
      bad-good)

  of_metals : {x : Line} → m ≡ 3 → metals l ≡ Some x → Found
  of_metals e =
      let z = parameter-zero (rw e) in
      link _ _ _ (λ t. let b = balance-line 10 t in at 4 (omega arith) e z b.0 b.1 b.2 ranges.1 b.3)
      (link _ _ _ (λ t. let b = balance-line 11 t in at 5 (omega arith) e z b.0 b.1 b.2 ranges.1 b.3)
      (link _ _ _ (λ t. let b = balance-line 12 t in at 6 (omega arith) e z b.0 b.1 b.2 ranges.1 b.3)
      (link _ _ _ (λ t. let b = balance-line 13 t in at 7 (omega arith) e z b.0 b.1 b.2 ranges.1 b.3)
      bad-good)))

  of_petrochemical : {x : Line} → m ≡ 4 → petrochemical p l ≡ Some x → Found
  of_petrochemical e =
      let s = parameter_six (rw e) in
      link _ _ _ (λ t. let b = balance-line 10 t in at 8 (omega arith) e s b.0 b.1 b.2 ranges.1 b.3)
      (link _ _ _ (λ t. let b = balance-line 11 t in at 9 (omega arith) e s b.0 b.1 b.2 ranges.1 b.3)
      (link _ _ _
      (λ t.
      let c = and-true (is_kind 14 l && balanced l) (eqb p 2 || eqb p 5) t in
      let b = balance-line 14 c.0 in
      at 10 (omega arith) e (⊎_elim (λ h. inl (eqb-true p 2 h)) (λ h. inr (same p 5 h)) (or_either (eqb p 2) (eqb p 5) c.1)) b.0 b.1 b.2 ranges.1 b.3)
      bad-good))

  of_cement : {x : Line} → m ≡ 5 → cement l ≡ Some x → Found
  of_cement e =
      let z = parameter-zero (rw e) in
      link _ _ _ (λ t. let f = carbonate-line 20 t in at 11 (omega arith) e z f.0 f.1 f.2 ranges.1 ranges.2)
      (link _ _ _ (λ t. let f = carbonate-line 21 t in at 12 (omega arith) e z f.0 f.1 f.2 ranges.1 ranges.2)
      (link _ _ _
      (λ t.
      let c = and-true (is_kind 22 l && in_tonnes l && coded 0 l) (b_whole l) t in
      let d = and-true (is_kind 22 l && in_tonnes l) (coded 0 l) c.0 in
      let k = kind-and 22 (in_tonnes l) d.0 in
      at 13 (omega arith) e z k.0 (same l.unit 1 k.1) (same l.code 0 d.1) ranges.1 (eqb-true l.b 10000 c.1))
      bad-good))

  of_nitric_acid : {x : Line} → m ≡ 6 → nitric_acid p l ≡ Some x → Found
  of_nitric_acid e =
      link _ _ _
      (λ t.
      let c = and-true (is_kind 30 l && in_tonnes l && coded 0 l && eqb l.a 0) (eqb l.b 0) t in
      let d = and-true (is_kind 30 l && in_tonnes l && coded 0 l) (eqb l.a 0) c.0 in
      let f = and-true (is_kind 30 l && in_tonnes l) (coded 0 l) d.0 in
      let k = kind-and 30 (in_tonnes l) f.0 in
      at 14 (omega arith) e (parameter_six (rw e)) k.0 (same l.unit 1 k.1) (same l.code 0 f.1) (eqb-true l.a 0 d.1) (eqb-true l.b 0 c.1))
      bad-good

  -- whichever method it is
  of_method_lem : {x : Line} → by_method m p l ≡ Some x → Found
  unfolding by_method
  of_method_lem =
      either 1 _ _ of_fuel (either 2 _ _ of_flare (either 3 _ _ of_metals (either 4 _ _ of_petrochemical (either 5 _ _ of_cement (either 6 _ _ of_nitric_acid bad-good)))))

pub row-found : (m p : ℕ) (l : RawLine) {x : Line} → decoded m p l ≡ Some x → (i : ℕ) × FitsAt i m p l
unfolding decoded
row-found m p l e =
    ⊎_elim (λ h. let c = and-true (listed m p) (in_range l) h.0 in of_method_lem m p l c.0 c.1 h.1) bad-good
    (cond-good (listed m p && in_range l) (by_method m p l) None e)

pub bad-exactly : (m p : ℕ) (l : RawLine) → (decoded m p l ≡ None) ↔ NoRow m p l
bad-exactly m p l = (
  λ e i f. let r = each_at (Reading m p l) table (row_at 15) (each-reads m p l) i f.0 f.1 in bad-good (sym e ∙ r.0),
  λ none. by (decoded m p l) refl none,
)
  where
    by : (d : Decoded) → decoded m p l ≡ d → NoRow m p l → d ≡ None
    by (Some x) e none = let r = row-found m p l e in absurd (none r.0 r.1)
    by None e none = refl
