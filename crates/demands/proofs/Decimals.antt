-- Decimals: digits that are read back, and the only ones. Assumes nothing.
use mathlib.Core.Bool.{Bool, true, false, cond}
use mathlib.Core.List.{List, [], ◌∷◌, ◌++◌, append_assoc, append-nil}
use mathlib.Core.Path.{◌≡◌, refl, sym, ap, ap₂, ◌∙◌}
use Prim.Native.Nat.{ℕ, zero, suc, ◌+◌, ◌*◌, ◌-◌, ◌/◌, ◌%◌, ◌≤◌, ◌<◌}
use native.Mathlib.Decide.{dec_lt}
use native.Mathlib.Omega.{arith}
use lib.Dec.{ltb}
use lib.ListN.{length, get_or, length-append}
use borrow.Author.Tests.{ltb-true, ltb-false}
use Rattle.basis.specs.Lists.{Each}
use Rattle.basis.proofs.Lists.{each_append}
use Rattle.meaning.specs.Text.{digit, digits, decimal}
use Rattle.meaning.proofs.Decimals.{decimal-one, decimal_more}
use Rattle.demands.specs.Text.{read_behind, Decimal}

-- a digit behind digits
read_last : (n : ℕ) (ds : List ℕ) (d : ℕ) → read_behind n (ds ++ (d ∷ [])) ≡ 10 * read_behind n ds + (d - 48)
read_last n [] d = refl
read_last n (c ∷ ds) d = read_last (10 * n + (c - 48)) ds d

first-kept : (ds : List ℕ) (d : ℕ) → 1 ≤ length ds → get_or (ds ++ (d ∷ [])) 0 0 ≡ get_or ds 0 0
first-kept [] d l = absurd (omega arith)
first-kept (c ∷ ds) d l = refl

-- digits of a number above zero do not begin with a zero
record Written (n : ℕ) (ds : List ℕ) : Type 0 where
  decimal : Decimal n ds
  positive : 0 < n → 48 < get_or ds 0 0

one-digit : (n : ℕ) → n < 10 → Written n (digit n ∷ [])
one-digit n l =
    record {
      decimal = record { digits = omega arith; some = omega arith; no_zero = λ e. refl; reads = omega arith };
      positive = λ p. omega arith;
    }

more_digits : (n : ℕ) (ds : List ℕ) → 10 ≤ n → Written (n / 10) ds → Written n (ds ++ (digit (n % 10) ∷ []))
more_digits n ds l w =
    let d = w.decimal in
    let up : 48 < get_or ds 0 0 = w.positive (omega arith) in
    let first = first-kept ds (digit (n % 10)) d.some in
    record {
      decimal =
          record {
            digits = each_append (λ d. (48 ≤ d) × (d ≤ 57)) ds (digit (n % 10) ∷ []) d.digits (omega arith);
            some = rw length-append (omega arith);
            no_zero = λ e. absurd (omega (arith, first));
            reads = read_last 0 ds (digit (n % 10)) ∙ omega (arith, d.reads);
          };
      positive = λ p. omega (arith, first);
    }

digits-written : (fuel n : ℕ) → n ≤ fuel → Written n (digits fuel n)
unfolding digits
digits-written zero n l = one-digit n (omega arith)
digits-written (suc fuel) n l = by (ltb n 10) refl (λ h. digits-written fuel (n / 10) (omega arith))
  where
    by : (c : Bool) → ltb n 10 ≡ c → (10 ≤ n → Written (n / 10) (digits fuel (n / 10))) → Written n (cond c (digit n ∷ []) (digits fuel (n / 10) ++ (digit (n % 10) ∷ [])))
    by true e later = one-digit n (ltb-true n 10 e)
    by false e later = let h = ltb-false n 10 e in more_digits n (digits fuel (n / 10)) h (later h)

pub decimal-written : (n : ℕ) → Decimal n (decimal n)
unfolding decimal
decimal-written n = (digits-written n n (omega arith)).decimal

-- a digit behind those of a number above zero
last-digit : (n k : ℕ) → 0 < n → k < 10 → decimal (10 * n + k) ≡ decimal n ++ (digit k ∷ [])
last-digit n k p l =
    let m = 10 * n + k in
    let q : m / 10 ≡ n = omega arith in
    let r : m % 10 ≡ k = omega arith in
    rw (q, r) at (decimal_more m (omega arith))

-- digits that stand for a number above zero go on with what stands behind them
decimal_behind : (n : ℕ) (ds : List ℕ) → 0 < n → Each (λ d. (48 ≤ d) × (d ≤ 57)) ds → decimal (read_behind n ds) ≡ decimal n ++ ds
decimal_behind n [] p e = sym (append-nil (decimal n))
decimal_behind n (d ∷ ds) p e =
    let q : digit (d - 48) ≡ d = omega (arith, e.0) in
    decimal_behind (10 * n + (d - 48)) ds (omega arith) e.1
    ∙ ap (λ (l : List ℕ). l ++ ds) (last-digit n (d - 48) p (omega (arith, e.0)))
    ∙ append_assoc (decimal n) (digit (d - 48) ∷ []) ds
    ∙ ap (λ (x : ℕ). decimal n ++ (x ∷ ds)) q

pub decimal-only : (n : ℕ) (ds : List ℕ) → Decimal n ds → ds ≡ decimal n
decimal-only n [] w = absurd (omega (arith, w.some))
decimal-only n (d ∷ ds) w = by (dec_lt 48 d)
  where
    rest-none : (ds : List ℕ) → length ds ≡ 0 → ds ≡ []
    rest-none [] e = refl
    rest-none (c ∷ ds) e = absurd (omega arith)

    by : Dec (48 < d) → d ∷ ds ≡ decimal n
    by (yes l) =
        let e = w.digits in
        let z : 10 * 0 + (d - 48) ≡ d - 48 = omega arith in
        let q : digit (d - 48) ≡ d = omega arith in
        let r : read_behind (d - 48) ds ≡ n = rw z at w.reads in
        sym
        (ap decimal (sym r)
        ∙ decimal_behind (d - 48) ds (omega arith) e.1
        ∙ ap (λ (l : List ℕ). l ++ ds) (decimal-one (d - 48) (omega (arith, e.0)))
        ∙ ap (λ (x : ℕ). x ∷ ds) q)
    by (no l) =
        let q : d ≡ 48 = omega (arith, w.digits.0) in
        let none : ds ≡ [] = rest-none ds (omega (arith, w.no_zero q)) in
        let r : n ≡ 0 = sym w.reads ∙ ap₂ (λ (x : ℕ) (l : List ℕ). read_behind (10 * 0 + (x - 48)) l) q none in
        ap₂ (λ (x : ℕ) (l : List ℕ). x ∷ l) q none ∙ sym (ap decimal r ∙ decimal-one 0 (omega arith))
