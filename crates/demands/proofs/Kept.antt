-- The three demands are kept. Assumes nothing.
use mathlib.Core.List.{List, [], ◌∷◌}
use mathlib.Core.Path.{◌≡◌, refl, sym, ap, ◌∙◌}
use Prim.Native.Nat.{ℕ}
use lib.ListN.{take}
use Rattle.meaning.specs.Report.{Entry, report_header, report_bytes, report_year, entries_of, well_formed}
use Rattle.demands.specs.Demand2.{Encodings}
use Rattle.demands.specs.Demands.{Demands}
use Rattle.demands.proofs.Reports.{report-right}
use Rattle.demands.proofs.Holds.{is-report, entries-held, written-again}
use Rattle.demands.proofs.ReportTests.{formed-report}
use Rattle.meaning.proofs.Computed.{starred, kinds, examples, by_hand}
use Rattle.demands.proofs.Words.{words}
use Rattle.demands.proofs.Tabled.{tabled}
use Rattle.demands.proofs.Texts.{texts}
use Rattle.demands.proofs.Longest.{longest}
use Rattle.demands.proofs.Encoded.{encode-laid, encode-year, encode-sources, encode-bytes}
use Rattle.demands.proofs.Laid.{encode-again, laid-encodable}
use Rattle.demands.proofs.Dealing.{dealing}
use Rattle.demands.proofs.EveryDealing.{every-dealing}
use Rattle.demands.proofs.Removal.{neutral, again-report}
use Rattle.demands.proofs.SourceAgain.{source-again}
use Rattle.demands.proofs.Masses.{sources-stated, masses-kept}
use Rattle.demands.proofs.Calls.{calls}
use Rattle.demands.proofs.Fixed.{fixed}
use Rattle.demands.proofs.Algebra.{algebra}
use Rattle.demands.proofs.Shown.{shown}

-- "Every report starts with the four bytes GREP"
begins : (year : ℕ) (es : List Entry) → take 4 (report_bytes year es) ≡ 71 ∷ 82 ∷ 69 ∷ 80 ∷ []
unfolding report_bytes report_header
begins year es = refl

encodings : Encodings
encodings =
    record {
      again = λ b h l. (laid-encodable b h l, encode-again b h l);
      back = λ year ss e. (encode-bytes year ss e, encode-laid year ss e, encode-year year ss e, encode-sources year ss e);
      sources = sources-stated;
      formed = λ b h. (
        λ e. (report_year b, entries_of b, formed-report b h e),
        λ r. ap well_formed (sym (written-again b r.0 r.1 r.2)) ∙ report-right r.0 r.1 r.2.makes,
      );
      report = λ b year es r. (written-again b year es r, entries-held b year es r);
      report_back = is-report;
      begins = begins;
    }

pub kept : Demands
kept =
    record {
      words = words;
      tabled = tabled;
      calls = calls;
      fixed = fixed;
      masses = masses-kept;
      encodings = encodings;
      texts = texts;
      longest = longest;
      dealing = dealing;
      every_dealing = every-dealing;
      neutral = neutral;
      again = again-report;
      source_again = source-again;
      algebra = algebra;
      starred = starred;
      kinds = kinds;
      examples = examples;
      by_hand = by_hand;
      shown = shown;
    }
