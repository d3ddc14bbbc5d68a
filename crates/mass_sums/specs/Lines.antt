-- The lines of a source, read one behind another and summed up to the first that is bad. Assumes nothing.
use Rattle.std.specs.Prelude.{Result, Err, Ok, true, List, map, ◌≡◌, ℕ, ◌+◌, ◌*◌, ◌-◌, ◌≤◌, ◌<◌, length, get_or}
use Rattle.basis.specs.Answers.{Verdict, Passes, first_refusal}
use Rattle.basis.specs.Lists.{count_up}
use Rattle.meaning.specs.Methods.{Decoded, listed, decoded, refusal_of}
use Rattle.meaning.specs.Masses.{gas_count, carbon_dioxide, added, taken}
use Rattle.meaning.specs.Register.{source_count, most_lines, lines_at, line_length, line_at}
use Rattle.mass_exact.specs.Amounts.{value, scale, nothing}
use Rattle.mass_sums.specs.declared.BadLine.{BadLine}
use Rattle.mass_sums.specs.declared.Sums.{Sums}
use Rattle.mass_sums.specs.Sums.{Roomy}

-- line j of a register, read by a method and parameter; so many lines from one on
abbrev pub read_at : List ℕ → ℕ → ℕ → ℕ → Decoded
read_at b m p j = decoded m p (line_at b j)

unfoldable pub read_from : List ℕ → ℕ → ℕ → ℕ → ℕ → List Decoded
read_from b m p first count = map (read_at b m p) (count_up first count)

-- what so many lines from one on are answered: the refusal of the first that is bad
unfoldable pub verdict_from : List ℕ → ℕ → ℕ → ℕ → ℕ → Verdict
verdict_from b m p first count = first_refusal (map (λ j. refusal_of (read_at b m p j) j) (count_up first count))

-- the lines from `first` up to `end` stand in the register from byte `base` on, and belong to a method and parameter that are listed together
pub record LinesStand (b : List ℕ) (m p base first end : ℕ) : Type 0 where
  pub pair : listed m p ≡ true
  pub begin : base ≡ lines_at (source_count b)
  pub order : first ≤ end
  pub few : end ≤ most_lines
  pub within : base + line_length * end ≤ length b

-- sums hold what lines come to, in ten-billionths of a gram
pub record SumsOf (ls : List Decoded) (s : Sums) : Type 0 where
  pub added : (gas : ℕ) → gas < gas_count → value (get_or s.added gas nothing) ≡ added gas ls * scale gas
  pub taken : value s.taken ≡ taken carbon_dioxide ls * scale carbon_dioxide

-- the lines are summed where each is good; else they are answered by the first that is bad, and those before it are summed. The sums have room to be rounded
abbrev pub Reads : List ℕ → ℕ → ℕ → ℕ → ℕ → Result Sums BadLine → Type 0
Reads b m p first end (Ok s) = (verdict_from b m p first (end - first) ≡ Passes) × SumsOf (read_from b m p first (end - first)) s × Roomy 0 s
Reads b m p first end (Err bad) =
    (verdict_from b m p first (end - first) ≡ Err bad.refusal) × SumsOf (read_from b m p first (bad.refusal.place - first)) bad.before × Roomy 0 bad.before
