-- What a call that makes a file has left is what its answer says. Assumes nothing.
use mathlib.Core.List.{List}
use Prim.Native.Nat.{ℕ}
use Rattle.basis.specs.declared.Answer.{Answer}
use Rattle.basis.specs.Answers.{Verdict, Gives}
use Rattle.meaning.specs.Calls.{written, calculation_tests, calculated_report, calculated, combination_tests, combined_report, combined, removal_tests, removed_report, removed, amounts}
use Rattle.meaning.specs.Cards.{card_tests, amount_bytes}
use Rattle.command_answer.proofs.Saying.{written-front}
use Rattle.command_files.specs.Files.{Front}

module _ {a : Answer} {left : List ℕ} where
  made-front : (tests : List Verdict) (made buffer : List ℕ) → Gives (written tests made buffer) a left → Front a.length left
  made-front tests made buffer g = let f = written-front tests made buffer g in record { within = f.within; part = f.part }

  pub calculated-front : (register report : List ℕ) → Gives (calculated register report) a left → Front a.length left
  unfolding calculated
  calculated-front register report g = made-front (calculation_tests register) (calculated_report register) report g

  pub combined-front : (first second report : List ℕ) → Gives (combined first second report) a left → Front a.length left
  unfolding combined
  combined-front first second report g = made-front (combination_tests first second) (combined_report first second) report g

  pub removed-front : (report : List ℕ) (number : ℕ) (result : List ℕ) → Gives (removed report number result) a left → Front a.length left
  unfolding removed
  removed-front report number result g = made-front (removal_tests report number) (removed_report report number) result g

  pub amounts-front : (cards buffer : List ℕ) → Gives (amounts cards buffer) a left → Front a.length left
  unfolding amounts
  amounts-front cards buffer g = made-front (card_tests cards) (amount_bytes cards) buffer g
