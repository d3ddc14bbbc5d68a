-- The starred sums, and the cases beside them, computed. Assumes nothing.
use mathlib.Core.Path.{refl}
use Rattle.meaning.specs.Starred.{Starred, result_of, calculates}
use Rattle.meaning.specs.Examples.{Examples, twins, made, report_of_sources, damaged, named, combining, removing, cards, working}
use Rattle.meaning.specs.Kinds.{Kinds}
use Rattle.meaning.specs.ByHand.{ByHand}
use Rattle.meaning.proofs.Opened.{opened}

pub starred : Starred
unfolding opened result_of calculates
starred = record { each = refl }

pub examples : Examples
unfolding opened result_of calculates twins made report_of_sources damaged named combining removing cards working
examples =
    record {
      within = refl;
      once = refl;
      dust = refl;
      shown = refl;
      refusal = refl;
      acceptance = refl;
      program = refl;
      program_refuses = refl;
      worked_out = refl;
      no_cards = refl;
      amounts_kept = refl;
      amounts_said = refl;
      amounts_refused = refl;
      refused = refl;
      together = refl;
      apart = refl;
      name = refl;
      nameless = refl;
      names = refl;
      in_both = refl;
    }

pub kinds : Kinds
unfolding opened result_of calculates
kinds = record { each = refl }

pub by_hand : ByHand
unfolding opened
by_hand = record { sources = refl; register = refl; report = refl; entries = refl; written = refl; text = refl; amounts = refl }
