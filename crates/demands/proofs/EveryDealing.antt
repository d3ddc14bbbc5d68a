-- For every way to deal an accepted register's sources out there are registers. Assumes nothing.
use mathlib.Core.HLevel.{×_prop}
use mathlib.Core.List.Permᴰ
use mathlib.Core.List.{List, [], ◌∷◌, map}
use mathlib.Core.Logic.{∥∥₁_elim}
use mathlib.Core.Path.{◌≡◌, refl, ap, ◌∙◌}
use Prim.Native.Nat.{ℕ, ◌+◌, ◌≤◌}
use native.Mathlib.Bridge.{le_prop}
use native.Mathlib.Nat.{le_trans}
use native.Mathlib.Omega.{arith}
use lib.ListN.{length, length-append}
use Rattle.basis.specs.Lists.{Each, sum, joined}
use Rattle.basis.proofs.Lists.{sum_both, sum_perm, each_map, each-split}
use Rattle.meaning.specs.declared.RawLine.{RawLine}
use Rattle.meaning.specs.Register.{Source, year_of, sources_of}
use Rattle.demands.specs.Valid.{LineFits, SourceFits, Encodable}
use Rattle.demands.specs.Demand3.{EveryDealing}
use Rattle.demands.proofs.Order.{each_perm}
use Rattle.demands.proofs.Trees.{length_perm}
use Rattle.demands.proofs.Calculated.{accepted}
use Rattle.demands.proofs.Encoded.{encode-laid, encode-year, encode-sources, encode-bytes}
use Rattle.demands.proofs.Laid.{laid-encodable}
use Rattle.demands.proofs.Dealing.{each_prop}

-- what fits does so in one way only
line_prop : (l : RawLine) → IsProp (LineFits l)
line_prop l x y i =
    record {
      kind = le_prop x.kind y.kind i;
      unit = le_prop x.unit y.unit i;
      code = le_prop x.code y.code i;
      a = le_prop x.a y.a i;
      b = le_prop x.b y.b i;
      q = le_prop x.q y.q i;
    }

source_prop : (s : Source) → IsProp (SourceFits s)
source_prop s x y i =
    record {
      number = le_prop x.number y.number i;
      method = le_prop x.method y.method i;
      parameter = le_prop x.parameter y.parameter i;
      name = λ k. le_prop (x.name k) (y.name k) i;
      lines = each_prop line_prop s.lines x.lines y.lines i;
    }

encodable_prop : (year : ℕ) (ss : List Source) → IsProp (Encodable year ss)
encodable_prop year ss x y i =
    record {
      in_range = ×_prop le_prop le_prop x.in_range y.in_range i;
      sources = le_prop x.sources y.sources i;
      lines = le_prop x.lines y.lines i;
      names = le_prop x.names y.names i;
      each = each_prop source_prop ss x.each y.each i;
    }

-- lengths of what is joined are sums, which do not go by the dealing, and of which each part has at most the whole
length-joined : {A B : Type 0} (f : A → List B) (xs : List A) → length (joined (map f xs)) ≡ sum (map (λ x. length (f x)) xs)
unfolding joined sum
length-joined f [] = refl
length-joined f (x ∷ xs) = length-append (f x) (joined (map f xs)) ∙ ap (λ (n : ℕ). length (f x) + n) (length-joined f xs)

-- the sources of one deal are at most all of them
pub record Bounded (year : ℕ) (all ss : List Source) : Type 0 where
  pub sources : length ss ≤ length all
  pub lines : sum (map (λ s. length s.lines) ss) ≤ sum (map (λ s. length s.lines) all)
  pub names : sum (map (λ s. length s.name) ss) ≤ sum (map (λ s. length s.name) all)
  pub fits : Each SourceFits ss

each_bounded : (year : ℕ) (all : List Source) (deals : List (List Source)) → Bounded year all (joined deals) → Each (Bounded year all) deals
unfolding joined
each_bounded year all [] b = tt
each_bounded year all (ss ∷ deals) b =
    let n = length-append ss (joined deals) in
    let l = sum_both (λ s. length s.lines) ss (joined deals) in
    let m = sum_both (λ s. length s.name) ss (joined deals) in
    let f = each-split SourceFits ss (joined deals) b.fits in (
      record { sources = omega (arith, b.sources); lines = omega (arith, b.lines); names = omega (arith, b.names); fits = f.0 },
      each_bounded year all deals
          (record { sources = omega (arith, b.sources); lines = omega (arith, b.lines); names = omega (arith, b.names); fits = f.1 }),
    )

bounded_encodable : (year : ℕ) (all : List Source) → Encodable year all → (ss : List Source) → Bounded year all ss → Encodable year ss
bounded_encodable year all e ss b =
    record {
      in_range = e.in_range;
      sources = le_trans b.sources e.sources;
      lines = rw (length-joined (λ s. s.lines) ss) (le_trans b.lines (rw (length-joined (λ s. s.lines) all) at e.lines));
      names = rw (length-joined (λ s. s.name) ss) (le_trans b.names (rw (length-joined (λ s. s.name) all) at e.names));
      each = b.fits;
    }

pub every-dealing : EveryDealing
every-dealing whole deals h a perm =
    let b = whole.register in
    let y = year_of b in
    let e = laid-encodable b h (accepted b h whole.buffer a).0.laid in
    let d : Each (Encodable y) deals =
    ∥∥₁_elim perm (each_prop (encodable_prop y) deals)
    (λ q. each_map (bounded_encodable y (sources_of b) e) deals
    (each_bounded y (sources_of b) deals
    (record {
      sources = omega (arith, length_perm q);
      lines = omega (arith, sum_perm (λ s. length s.lines) q);
      names = omega (arith, sum_perm (λ s. length s.name) q);
      fits = each_perm SourceFits (Permᴰ.symm q) e.each;
    }))) in
    each_map (λ ss f. (encode-bytes y ss f, encode-laid y ss f, encode-year y ss f, encode-sources y ss f)) deals d
