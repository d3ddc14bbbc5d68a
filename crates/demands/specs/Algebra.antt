-- Combination's algebra: order and grouping do not tell where reports are reports and go together; and where they tell. Assumes nothing.
use Rattle.std.specs.Prelude.{List, ◌≡◌, ℕ}
use Rattle.basis.specs.declared.Answer.{Answer}
use Rattle.basis.specs.Bytes.{Bytes}
use Rattle.meaning.specs.Calls.{combined}
use Rattle.demands.specs.Trees.{wrote, Accepted}
use Rattle.demands.specs.Demand3.{GoodReport}

abbrev pub refusal : ℕ → ℕ → Answer
refusal number place = record { number = number; place = place; length = 0 }

pub record Algebra : Type 0 where
  -- of two well-formed reports: the same answer and the same bytes, accepted or refused
  pub commutes : (one other buffer : List ℕ) → GoodReport one → GoodReport other → combined one other buffer ≡ combined other one buffer
  -- where both groupings are accepted they write the same
  pub associates : (a b c p q r s : List ℕ) → Bytes a → Bytes b → Bytes c
      → Accepted (combined a b p)
      → Accepted (combined (wrote (combined a b p)) c q)
      → Accepted (combined b c r)
      → Accepted (combined a (wrote (combined b c r)) s)
      → wrote (combined (wrote (combined a b p)) c q) ≡ wrote (combined a (wrote (combined b c r)) s)
