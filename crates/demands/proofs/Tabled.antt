-- The table is kept: no two of its rows fit a line, and a line counts as its row says. Assumes nothing.
use mathlib.Core.Bool.{Bool, true, false, not, cond, ◌&&◌, ◌||◌}
use mathlib.Core.List.{List, [], ◌∷◌}
use mathlib.Core.Logic.{inl, inr, ⊎_elim}
use mathlib.Core.Path.{◌≡◌, refl, sym, ap, ◌∙◌}
use Prim.Native.Nat.{ℕ, zero, suc, ◌*◌, ◌<◌}
use native.Mathlib.Decide.{dec_lt}
use native.Mathlib.Nat.{not-suc-le-zero, le_of_suc-le-suc}
use native.Mathlib.Omega.{arith}
use lib.Dec.{eqb}
use lib.ListN.{length, get_or}
use borrow.Author.Tests.{eqb-false, eq-eqb, not-true}
use Rattle.basis.proofs.Bools.{clash, and-true, either_or, or_either}
use Rattle.basis.proofs.Lists.{each_at}
use Rattle.meaning.specs.declared.RawLine.{RawLine}
use Rattle.meaning.specs.Methods.{decoded}
use Rattle.meaning.specs.Masses.{contribution_of}
use Rattle.demands.specs.Table.{Among, Sign, adds, takes, MethodRow, Fits, table, row_at, FitsAt, factor_for, product_of, same, amount, Tabled}
use Rattle.demands.proofs.Readings.{said, Reads, Reading, each-reads}
use Rattle.demands.proofs.Table.{bad-exactly}

-- two rows differ in method, or in kind, or have no code in common
abbrev has : ℕ → List ℕ → Bool
has n [] = false
has n (m ∷ ms) = eqb n m || has n ms

abbrev share : List ℕ → List ℕ → Bool
share [] ds = false
share (c ∷ cs) ds = has c ds || share cs ds

abbrev apart : MethodRow → MethodRow → Bool
apart r s = not (eqb r.method s.method) || not (eqb r.kind s.kind) || not (share r.codes s.codes)

among_has : (ms : List ℕ) (n : ℕ) → Among ms n → has n ms ≡ true
among_has [] n a = absurd a
among_has (m ∷ ms) n a = either_or (eqb n m) (has n ms) (⊎_elim (λ e. inl (eq-eqb n m e)) (λ b. inr (among_has ms n b)) a)

among_share : (cs ds : List ℕ) (n : ℕ) → Among cs n → Among ds n → share cs ds ≡ true
among_share [] ds n a b = absurd a
among_share (c ∷ cs) ds n a b =
    either_or (has c ds) (share cs ds) (⊎_elim (λ e. inl (ap (λ (x : ℕ). has x ds) (sym e) ∙ among_has ds n b)) (λ d. inr (among_share cs ds n d b)) a)

-- rows that are apart do not fit one line
not_both_fit : (r s : MethodRow) (m p : ℕ) (l : RawLine) → apart r s ≡ true → Fits r m p l → Fits s m p l → ⊥
not_both_fit r s m p l e f g =
    let methods = not (eqb r.method s.method) in
    let kinds = not (eqb r.kind s.kind) in
    ⊎_elim
    (λ h. ⊎_elim (λ q. eqb-false r.method s.method (not-true _ q) (sym f.of_method ∙ g.of_method))
    (λ q. eqb-false r.kind s.kind (not-true _ q) (sym f.of_kind ∙ g.of_kind)) (or_either methods kinds h))
    (λ h. clash (among_share r.codes s.codes l.code f.coded g.coded) (not-true _ h))
    (or_either (methods || kinds) (not (share r.codes s.codes)) e)

-- each of a list apart from each behind it
abbrev all_apart : MethodRow → List MethodRow → Bool
all_apart r [] = true
all_apart r (s ∷ rows) = apart r s && all_apart r rows

abbrev pairwise : List MethodRow → Bool
pairwise [] = true
pairwise (r ∷ rows) = all_apart r rows && pairwise rows

apart-at : (r d : MethodRow) (rows : List MethodRow) → all_apart r rows ≡ true → (j : ℕ) → j < length rows → apart r (get_or rows j d) ≡ true
apart-at r d [] e j l = absurd (not-suc-le-zero l)
apart-at r d (s ∷ rows) e zero l = (and-true (apart r s) (all_apart r rows) e).0
apart-at r d (s ∷ rows) e (suc j) l = apart-at r d rows (and-true (apart r s) (all_apart r rows) e).1 j (le_of_suc-le-suc l)

pair-at : (d : MethodRow) (rows : List MethodRow) → pairwise rows ≡ true → (i j : ℕ) → i < j → j < length rows → apart (get_or rows i d) (get_or rows j d) ≡ true
pair-at d [] e i j l m = absurd (not-suc-le-zero m)
pair-at d (r ∷ rows) e i zero l m = absurd (not-suc-le-zero l)
pair-at d (r ∷ rows) e zero (suc j) l m = apart-at r d rows (and-true (all_apart r rows) (pairwise rows) e).0 j (le_of_suc-le-suc m)
pair-at d (r ∷ rows) e (suc i) (suc j) l m = pair-at d rows (and-true (all_apart r rows) (pairwise rows) e).1 i j (le_of_suc-le-suc l) (le_of_suc-le-suc m)

not_before : (m p i j : ℕ) (l : RawLine) → FitsAt i m p l → FitsAt j m p l → i < j → ⊥
not_before m p i j l f g h = not_both_fit (row_at i) (row_at j) m p l (pair-at (row_at 15) table refl i j h g.0) f.1 g.1

once : (m p i j : ℕ) (l : RawLine) → FitsAt i m p l → FitsAt j m p l → i ≡ j
once m p i j l f g = by (dec_lt i j) (dec_lt j i)
  where
    by : Dec (i < j) → Dec (j < i) → i ≡ j
    by (yes h) q = absurd (not_before m p i j l f g h)
    by (no h) (yes q) = absurd (not_before m p j i l g f q)
    by (no h) (no q) = omega arith

-- a row that fits reads the line; what it says, it says of its own gas alone
reads : (m p i : ℕ) (l : RawLine) → FitsAt i m p l → Reads m p l (row_at i)
reads m p i l f = each_at (Reading m p l) table (row_at 15) (each-reads m p l) i f.0 f.1

contributed : (m p i : ℕ) (l : RawLine) → FitsAt i m p l → contribution_of (decoded m p l) ≡ said (row_at i) p l
contributed m p i l f = let r = reads m p i l f in ap contribution_of r.0 ∙ r.1

cond_both : (c d : Bool) (n : ℕ) → cond d (cond (c && true) n 0) 0 ≡ cond (c && d) n 0
cond_both true true n = refl
cond_both true false n = refl
cond_both false true n = refl
cond_both false false n = refl

gas_alone : (sign : Sign) (gas : ℕ) (r : MethodRow) (p : ℕ) (l : RawLine) → cond (eqb r.gas gas) (amount sign r.gas r p l) 0 ≡ amount sign gas r p l
gas_alone sign gas r p l = rw (eq-eqb r.gas r.gas refl) (cond_both (same r.sign sign) (eqb r.gas gas) (product_of r.product l * factor_for r.factor p l))

pub tabled : Tabled
tabled =
    record {
      bad = bad-exactly;
      once = once;
      good = λ m p i l f. (reads m p i l f).0;
      numbered = λ m p i l f. (reads m p i l f).2;
      added = λ m p i gas l f. rw (contributed m p i l f) (gas_alone adds gas (row_at i) p l);
      taken = λ m p i gas l f. rw (contributed m p i l f) (gas_alone takes gas (row_at i) p l);
    }
