-- Two inputs that are longer than a report can be are answered alike by every call on reports, two that are longer than a register can be by the
-- lookups, and two that are longer than stock cards can be by the call on cards. Assumes nothing.
use Rattle.std.specs.Prelude.{Err, Ok}
use mathlib.Core.Bool.{Bool, true, false, and-false}
use mathlib.Core.List.{List, [], ◌∷◌}
use mathlib.Core.Path.{◌≡◌, refl}
use Prim.Native.Nat.{ℕ, ◌+◌, ◌*◌, ◌%◌, ◌≤◌}
use native.Mathlib.Decide.{ℕ_discrete}
use native.Mathlib.Omega.{arith}
use borrow.Author.Tests.{lt-ltb, eq-eqb, ne_eqb}
use lib.ListN.{length}
use Rattle.basis.specs.Answers.{Verdict, Passes, Refuses, first_refusal, passes}
use Rattle.basis.proofs.Bools.{not_both}
use Rattle.meaning.specs.Register.{register_tests}
use Rattle.meaning.specs.Report.{well_formed}
use Rattle.meaning.specs.Cards.{card_length, most_cards, card_count, cards_test, card_tests, amount_bytes}
use Rattle.meaning.specs.Calls.{form_test, combination_tests, combined_report, combined, removal_tests, removed_report, removed, text, amounts, accepted, found, found_of_two}
use Rattle.meaning.specs.Programs.{report_room}
use Rattle.meaning.proofs.Reports.{formed}
use Rattle.meaning.proofs.Registers.{right-register}
use Rattle.report_text.specs.Rows.{text_of}
use Rattle.command_files.proofs.Longer.{register_room, refused_alike}

not-formed : (b : List ℕ) → report_room ≤ length b → well_formed b ≡ false
not-formed b l = not_both (well_formed b) (λ e. let h = (formed b e).header in omega (arith, h.few, h.filled))

not-accepted : (b : List ℕ) → register_room ≤ length b → accepted b ≡ false
unfolding accepted
not-accepted b l = by (first_refusal (register_tests b)) refl
  where
    by : (v : Verdict) → first_refusal (register_tests b) ≡ v → passes (first_refusal (register_tests b)) ≡ false
    by (Ok done) e = let h = (right-register b e).header in absurd (omega (arith, h.sources, h.lines, h.names, h.filled))
    by (Err refusal) e = rw e

module _ (b c : List ℕ) (l : report_room ≤ length b) (m : report_room ≤ length c) where
  pub text_alike : (room : List ℕ) → text b room ≡ text c room
  unfolding text first_refusal
  text_alike room = refused_alike (form_test b 1 ∷ []) (form_test c 1 ∷ []) (text_of b) (text_of c) room {n = 9} {p = 1} (rw (not-formed b l)) (rw (not-formed c m))

  pub removed_alike : (number : ℕ) (result : List ℕ) → removed b number result ≡ removed c number result
  unfolding removed first_refusal
  removed_alike number result =
      refused_alike (removal_tests b number) (removal_tests c number) (removed_report b number) (removed_report c number) result {n = 9} {p = 1}
      (rw (not-formed b l)) (rw (not-formed c m))

  pub first_alike : (second report : List ℕ) → combined b second report ≡ combined c second report
  unfolding combined first_refusal
  first_alike second report =
      refused_alike (combination_tests b second) (combination_tests c second) (combined_report b second) (combined_report c second) report {n = 9} {p = 1}
      (rw (not-formed b l)) (rw (not-formed c m))

  second-by : (first report : List ℕ) (w : Bool) → well_formed first ≡ w → combined first b report ≡ combined first c report
  unfolding combined first_refusal
  second-by first report true e =
      refused_alike (combination_tests first b) (combination_tests first c) (combined_report first b) (combined_report first c) report {n = 9} {p = 2}
      (rw (e, not-formed b l)) (rw (e, not-formed c m))
  second-by first report false e =
      refused_alike (combination_tests first b) (combination_tests first c) (combined_report first b) (combined_report first c) report {n = 9} {p = 1} (rw e) (rw e)

  pub second_alike : (first report : List ℕ) → combined first b report ≡ combined first c report
  second_alike first report = second-by first report (well_formed first) refl

module _ (b c : List ℕ) (l : register_room ≤ length b) (m : register_room ≤ length c) (number : ℕ) where
  pub found_alike : found b number ≡ found c number
  unfolding found
  found_alike = rw (not-accepted b l, not-accepted c m)

  pub plant_alike : (contractor : List ℕ) → found_of_two b contractor number ≡ found_of_two c contractor number
  unfolding found_of_two
  plant_alike contractor = rw (not-accepted b l, not-accepted c m)

  pub contractor_alike : (plant : List ℕ) → found_of_two plant b number ≡ found_of_two plant c number
  unfolding found_of_two
  contractor_alike plant = rw (not-accepted b l, not-accepted c m, and-false (accepted plant))

-- one byte more than the longest file of stock cards
abbrev pub cards_room : ℕ
cards_room = card_length * most_cards + 1

too_many_lem : (b : List ℕ) → cards_room ≤ length b → cards_test b ≡ Refuses 14 0
too_many_lem b l = by (ℕ_discrete (length b % card_length) 0)
  where
    by : Dec (length b % card_length ≡ 0) → cards_test b ≡ Refuses 14 0
    by (no f) = rw (ne_eqb (length b % card_length) 0 f)
    by (yes e) = rw (eq-eqb (length b % card_length) 0 e, lt-ltb most_cards (card_count b) (omega arith))

pub amounts_alike : (b c : List ℕ) → cards_room ≤ length b → cards_room ≤ length c → (buffer : List ℕ) → amounts b buffer ≡ amounts c buffer
unfolding amounts first_refusal
amounts_alike b c l m buffer =
    refused_alike (card_tests b) (card_tests c) (amount_bytes b) (amount_bytes c) buffer {n = 14} {p = 0} (rw (too_many_lem b l)) (rw (too_many_lem c m))
