-- A source of a register that has passed: its lines, its fault, its figures. Assumes nothing.
use Rattle.std.specs.Prelude.{Result}
use mathlib.Core.Bool.{true, false}
use mathlib.Core.List.{List, map, map-map}
use mathlib.Core.Path.{◌≡◌, sym, ap, ◌∙◌}
use Prim.Native.Nat.{ℕ, ◌+◌, ◌-◌, ◌<◌}
use native.Mathlib.Omega.{arith}
use Rattle.basis.specs.Lists.{count_up}
use Rattle.basis.proofs.Bools.{or_false}
use Rattle.fields.specs.Fields.{Field}
use Rattle.meaning.specs.Methods.{listed, decoded}
use Rattle.meaning.specs.Register.{source_count, line_at, source_entry, method_in, parameter_in, first_line_in, line_count_in, source_at, unsound, misplaced, wrong_source, decoded_lines}
use Rattle.meaning.proofs.Sources.{placed, sound_parts}
use Rattle.basis.specs.declared.Refusal.{Refusal}
use Rattle.mass_sums.specs.Lines.{read_at, read_from, verdict_from, LinesStand}
use Rattle.mass_source.specs.Source.{Judged, Comes}
use Rattle.meaning.proofs.Registers.{right-register}
use Rattle.calculation_judge.specs.Sources.{Judgeable, LinesSpan, ComesAt}

-- the pair of a sound source is listed
unsound-listed : (b : List ℕ) (i : ℕ) → unsound (source_at b i) ≡ false → listed (method_in (source_entry b i)) (parameter_in (source_entry b i)) ≡ true
unfolding source_at
unsound-listed b i e = (sound_parts (source_at b i) e).pair

-- what entry i states of its lines
pub record States (b : List ℕ) (base i method parameter first end : ℕ) : Type 0 where
  pub span : LinesSpan b base i first end
  pub of_method : method ≡ method_in (source_entry b i)
  pub of_parameter : parameter ≡ parameter_in (source_entry b i)

pub states : {b : List ℕ} {base method parameter first end : ℕ} (i : ℕ) → LinesSpan b base i first end → Field 1 (source_entry b i) 4 method
    → Field 1 (source_entry b i) 5 parameter → States b base i method parameter first end
states i s m p = record { span = s; of_method = m.is; of_parameter = p.is }

module _ {b : List ℕ} {base i method parameter first end : ℕ} (h : Judgeable b) (l : i < source_count b) (s : States b base i method parameter first end) where
  right : (misplaced b i ≡ false) × (unsound (source_at b i) ≡ false)
  unfolding wrong_source
  right = or_false (misplaced b i) (unsound (source_at b i)) ((right-register b h.tests).each i l)

  pub lines-stand : LinesStand b method parameter base first end
  lines-stand =
      let p = placed b i right.0 in
      let t = s.span in
      record {
        pair = rw (s.of_method, s.of_parameter) (unsound-listed b i right.1);
        begin = t.stand;
        order = omega (arith, t.up_to);
        few = omega (arith, h.head.lines, p.lines, t.from, t.up_to);
        within = omega (arith, h.head.whole, p.lines, t.from, t.up_to, t.stand);
      }

  abbrev first_line : ℕ
  first_line = first_line_in (source_entry b i)

  abbrev lines : ℕ
  lines = line_count_in (source_entry b i)

  abbrev m : ℕ
  m = method_in (source_entry b i)

  abbrev p : ℕ
  p = parameter_in (source_entry b i)

  lines_read : read_from b m p first_line (first_line + lines - first_line) ≡ decoded_lines (source_at b i)
  unfolding read_from decoded_lines source_at
  lines_read =
      let e : first_line + lines - first_line ≡ lines = omega arith in
      ap (λ (k : ℕ). map (read_at b m p) (count_up first_line k)) e ∙ sym (map-map (decoded m p) (line_at b) (count_up first_line lines))

  pub comes_at : {r : Result Judged Refusal} → Comes b method parameter first end r → ComesAt b i r
  comes_at {r} c =
      let q : first_line + lines - first_line ≡ lines = omega arith in
      let e : end ≡ first_line + lines = omega (arith, s.span.from, s.span.up_to) in
      let d : Comes b m p first_line (first_line + lines) r = rw (s.of_method, s.of_parameter, s.span.from, e) at c in
      record { size = d.size; verdict = d.verdict ∙ ap (verdict_from b m p first_line) q; fault = d.fault ∙ rw lines_read; figures = d.figures ∙ rw lines_read }
