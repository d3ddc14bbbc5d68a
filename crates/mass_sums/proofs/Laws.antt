-- A line as it is read, and the sums with a line more. Assumes nothing.
use mathlib.Core.Bool.{Bool, true, false, cond}
use mathlib.Core.List.{List}
use mathlib.Core.Path.{◌≡◌, refl, sym, ap, ap₂, ◌∙◌}
use Prim.Native.Nat.{ℕ, ◌+◌, ◌*◌, ◌<◌}
use native.Mathlib.Nat.{add-zero, zero-mul, mul_assoc}
use native.Mathlib.Omega.{arith}
use lib.Dec.{eqb}
use lib.ListN.{length, get_or, drop, set, length-set}
use lib.Seq.{get_or-set_same, get_or-set_other}
use native.Mathlib.Decide.{ℕ_discrete}
use borrow.Author.Tests.{eq-eqb, ne_eqb}
use Rattle.basis.proofs.Rows.{number_at-drop}
use Rattle.fields.specs.Fields.{Field}
use Rattle.meaning.specs.declared.RawLine.{RawLine}
use Rattle.meaning.specs.declared.Line.{Line}
use Rattle.std.specs.Prelude.{Some}
use Rattle.meaning.specs.Register.{line_of}
use Rattle.meaning.specs.Masses.{gas_count, carbon_dioxide, contribution, adds_to, takes_from}
use Rattle.line_kind.specs.Ranges.{KindFits}
use Rattle.line_term.specs.declared.Term.{Term}
use Rattle.line_term.specs.Terms.{contributed, term_of, Weighs}
use Rattle.line_term.proofs.Laws.{term_weighs}
use Rattle.mass_exact.specs.declared.Amount.{Amount}
use Rattle.mass_exact.specs.Amounts.{value, scale, nothing, Added}
use Rattle.mass_exact.proofs.Amounts.{room_less, room_next}
use Rattle.mass_sums.specs.declared.Sums.{Sums}
use Rattle.mass_sums.specs.Sums.{Roomy, More, Counts}

-- the fields of a line, each at its place
pub line_read : {bs : List ℕ} {at kind unit code a b q : ℕ} → Field 1 bs at kind → Field 1 bs (at + 1) unit → Field 2 bs (at + 2) code → Field 4 bs (at + 4) a
    → Field 4 bs (at + 8) b → Field 8 bs (at + 12) q
    → ◌≡◌ {A = RawLine} (record { kind = kind; unit = unit; code = code; a = a; b = b; q = q }) (line_of (drop at bs))
line_read {bs} {at} k u c a b q =
    simp (number_at-drop, add-zero) (λ i. record { kind = k.is i; unit = u.is i; code = c.is i; a = a.is i; b = b.is i; q = q.is i })

same-zero : (c : Bool) → ◌≡◌ {A = ℕ} (cond c 0 0) 0
same-zero true = refl
same-zero false = refl

-- a sum that a line leaves as it was
unchanged : (a : Amount) (n scale : ℕ) → n ≡ 0 → More a (n * scale) a
unchanged a n scale e =
    record { is = sym (add-zero (value a)) ∙ ap (λ (m : ℕ). value a + m) (sym (zero-mul scale) ∙ ap (λ (m : ℕ). m * scale) (sym e)); roomy = λ lines r. room_less r (omega arith) }

changed : {a r : Amount} {n : ℕ} → Added a n r → More a n r
changed x = record { is = x.is; roomy = λ lines r. room_next r x (omega arith) }

-- what is left of the gases when two are excluded
pub third-gas : {gas : ℕ} → gas < gas_count → (gas ≡ 0 → ⊥) → (gas ≡ 1 → ⊥) → gas ≡ 2
third-gas l p q = omega arith

-- a line by its term
module _ (s : Sums) (l : Line) (t : Term) (factor : ℕ) (room : Roomy 1 s) (fits : KindFits l.kind) (is : t ≡ term_of l.kind) (e : factor ≡ t.factor * scale t.gas) where
  w : Weighs (λ q. contribution q l.kind) t
  w = term_weighs l.kind fits is

  product : ℕ
  product = l.quantity * t.content * t.factor

  scaled : l.quantity * t.content * factor ≡ product * scale t.gas
  unfolding product
  scaled = rw e (sym (mul_assoc (l.quantity * t.content) t.factor (scale t.gas)))

  said : contribution l.quantity l.kind ≡ contributed t.takes t.gas product
  unfolding product
  said = w.sum l.quantity

  -- one that takes: nothing is added, and CO2 has its product taken
  pub taking-counts : {more : Amount} → t.takes ≡ true → Added s.taken (l.quantity * t.content * factor) more → Counts s l (record { added = s.added; taken = more })
  taking-counts {more} p x =
      let g : t.gas ≡ carbon_dioxide = w.only p in
      let is : contribution l.quantity l.kind ≡ contributed true carbon_dioxide product = said ∙ ap₂ (λ (b : Bool) (g : ℕ). contributed b g product) p g in
      let n : l.quantity * t.content * factor ≡ product * scale carbon_dioxide = scaled ∙ ap (λ (x : ℕ). product * scale x) g in
      record {
        gases = room.gases;
        added = λ gas h. unchanged (get_or s.added gas nothing) (adds_to gas (Some l)) (scale gas) (rw is (same-zero (eqb carbon_dioxide gas)));
        taken = rw is (changed (rw n at x));
      }

  -- one that adds, at the place of its gas: that gas has its product, and no other
  pub adding-counts : {more : Amount} (place : ℕ) → t.takes ≡ false → t.gas ≡ place → Added (get_or s.added place nothing) (l.quantity * t.content * factor) more
      → Counts s l (record { added = set s.added place more; taken = s.taken })
  adding-counts {more} place p at x =
      let is : contribution l.quantity l.kind ≡ contributed false place product = said ∙ ap₂ (λ (b : Bool) (g : ℕ). contributed b g product) p at in
      let n : l.quantity * t.content * factor ≡ product * scale place = scaled ∙ ap (λ (g : ℕ). product * scale g) at in
      record {
        gases = length-set s.added place more ∙ room.gases;
        added = λ gas h. by gas h (ℕ_discrete gas place) is (rw n at x);
        taken = unchanged s.taken (takes_from carbon_dioxide (Some l)) (scale carbon_dioxide) (rw is (same-zero (eqb place carbon_dioxide)));
      }
    where
      by : (gas : ℕ) → gas < gas_count → Dec (gas ≡ place) → contribution l.quantity l.kind ≡ contributed false place product
          → Added (get_or s.added place nothing) (product * scale place) more
          → More (get_or s.added gas nothing) (adds_to gas (Some l) * scale gas) (get_or (set s.added place more) gas nothing)
      by gas h (yes q) is x =
          let b : place < length s.added = omega (arith, room.gases) in
          rw (q, is, eq-eqb place place refl, get_or-set_same s.added place more nothing b) (changed x)
      by gas h (no q) is x =
          rw (is, ne_eqb place gas (λ z. q (sym z)), get_or-set_other s.added place gas more nothing q) (unchanged (get_or s.added gas nothing) 0 (scale gas) refl)
