-- Amounts as they are said, one decimal a line. Assumes nothing.
use mathlib.Core.List.{List, [], ◌∷◌, ◌++◌, map}
use mathlib.Core.Path.{◌≡◌, refl, sym, ◌∙◌}
use Prim.Native.Nat.{ℕ, ◌+◌, ◌*◌, ◌/◌, ◌≤◌, ◌<◌}
use native.Mathlib.Nat.{zero-add}
use native.Mathlib.Numerals.{add-one}
use native.Mathlib.Omega.{arith}
use lib.ListN.{length, length-append}
use Rattle.basis.specs.Bytes.{number_at, Written}
use Rattle.basis.specs.Lists.{count_up, joined}
use Rattle.basis.proofs.Bytes.{splice-none, length-written, written_then}
use Rattle.basis.proofs.ByIndex.{joined-last}
use Rattle.meaning.specs.Text.{decimal, text_line}
use Rattle.meaning.specs.Cards.{amount_length}
use Rattle.meaning.specs.Programs.{amount_lines}
use Rattle.fields.specs.Fields.{Field}
use Rattle.decimal_write.specs.Digits.{field, Placed, Fronted}
use Rattle.decimal_write.proofs.Counts.{twenty_digits}
use Rattle.decimal_write.proofs.Fields.{length-field, fronted}

abbrev pub line_at : List ℕ → ℕ → List ℕ
line_at b i = text_line (number_at amount_length b (amount_length * i) ∷ [])

-- the lines of the amounts before i
unfoldable pub lines_to : List ℕ → ℕ → List ℕ
lines_to b i = joined (map (line_at b) (count_up 0 i))

pub record Lined (b before after : List ℕ) (at i : ℕ) : Type 0 where
  pub low : i ≤ length b / amount_length
  pub kept : length after ≡ length before
  pub lines : Written before 0 (lines_to b i) after
  pub ends : at ≡ length (lines_to b i)
  pub short : at ≤ 21 * i

pub lined_none : (b before : List ℕ) → Lined b before before 0 0
unfolding lines_to joined count_up
lined_none b before =
    record { low = omega arith; kept = refl; lines = record { fits = omega arith; is = sym (splice-none before 0) }; ends = refl; short = omega arith }

module _ {b before after : List ℕ} {at i : ℕ} (l : Lined b before after at i) where
  module _ {n : ℕ} (m : i < length b / amount_length) (f : Field 8 b (amount_length * i) n) where
    digits : length (decimal n) ≤ 20
    digits = twenty_digits n (record { fits = omega (arith, f.small) })

    pub lined_room : 21 * (length b / amount_length) ≤ length before → at + (length (decimal n) + 1) ≤ length after
    lined_room room = omega (arith, digits, l.short, l.kept)

    pub lined_more : {next : List ℕ} {end : ℕ} → Placed after at (field n 10) next end → Lined b before next end (i + 1)
    unfolding lines_to text_line field
    lined_more {next} {end} p =
        let more : lines_to b (i + 1) ≡ lines_to b i ++ field n 10 = rw (add-one i) (rw (zero-add i, ← f.is) at (joined-last (line_at b) 0 i)) in
        record {
          low = omega arith;
          kept = length-written p.written ∙ l.kept;
          lines = rw more (written_then l.lines p.written (omega (arith, l.ends)));
          ends = p.ends ∙ rw (l.ends, more) (sym (length-append (lines_to b i) (field n 10)));
          short = omega (arith, l.short, p.ends, length-field n 10, digits);
        }

  pub lined_all : length b / amount_length ≤ i → Fronted before (amount_lines b) after at
  unfolding lines_to amount_lines
  lined_all h = let e : i ≡ length b / amount_length = omega (arith, l.low) in fronted (rw e at l.lines) (rw e at l.ends)
