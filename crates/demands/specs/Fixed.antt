-- "Report, combination and removal are fixed to the byte." What is said of a call is said of one outcome alone, so that any two calculations that keep
-- the demands agree on every list of bytes, and so for each other call. Assumes nothing.
use Rattle.std.specs.Prelude.{List, ◌≡◌, ℕ}
use Rattle.basis.specs.declared.Answer.{Answer}
use Rattle.basis.specs.Bytes.{Bytes}
use Rattle.basis.specs.Answers.{Outcome, Gives, Shows}
use Rattle.demands.specs.Text.{SaysAnswer}
use Rattle.demands.specs.Calls.{Calculates, Combines, Removes, Checks, Prints, WorksOut, Finds, FindsOfTwo, HandsBack, HandsBackEither, SaysRegister, SaysReport, SaysAmounts}

-- no two of these
abbrev pub Once : {A : Type 0} → (A → Type 0) → Type 0
Once {A} P = (x y : A) → P x → P y → x ≡ y

pub record Fixed : Type 1 where
  pub calculation : (register report : List ℕ) → Once (Calculates register report)
  pub combination : (one other report : List ℕ) → Once (Combines one other report)
  pub removal : (report result : List ℕ) (number : ℕ) → Once (Removes report number result)
  pub check : (report : List ℕ) → Once (Checks report)
  pub printing : (report buffer : List ℕ) → Once (Prints report buffer)
  pub working : (cards buffer : List ℕ) → Once (WorksOut cards buffer)
  pub name : (register : List ℕ) (number : ℕ) → Once (Finds register number)
  pub name_of_two : (plant contractor : List ℕ) (number : ℕ) → Once (FindsOfTwo plant contractor number)
  -- bytes and place of what a lookup hands back
  pub part : (register : List ℕ) (from : ℕ × ℕ) (number : ℕ) → Once {A = List ℕ × (ℕ × ℕ)} (λ r. HandsBack register from number r.0 r.1)
  pub part_of_either : (plant : List ℕ) (from : ℕ × ℕ) (contractor : List ℕ) (from' : ℕ × ℕ) (number : ℕ)
      → Once {A = List ℕ × (ℕ × ℕ)} (λ r. HandsBackEither plant from contractor from' number r.0 r.1)
  -- what the programs say
  pub program : (register : List ℕ) → Bytes register → Once (SaysRegister register)
  pub show : (report : List ℕ) → Bytes report → Once (SaysReport report)
  pub say_amounts : (cards : List ℕ) → Once (SaysAmounts cards)
  pub answer : (a : Answer) → Once (SaysAnswer a)
  -- what a promise of an outcome, and one of a part, permits
  pub coincide : (o : Outcome) (a a' : Answer) (bs bs' : List ℕ) → Gives o a bs → Gives o a' bs' → (a ≡ a') × (bs ≡ bs')
  pub coincide_parts : (A : Type 0) (bytes : List ℕ) (base : A) (start offset size : ℕ) (held held' : List ℕ) (place place' : A × ℕ)
      → Shows bytes base start offset size held place → Shows bytes base start offset size held' place' → (held ≡ held') × (place ≡ place')
