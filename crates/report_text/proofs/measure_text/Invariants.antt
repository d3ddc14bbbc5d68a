use Rattle.report_text.proofs.Texts.{Lengthening}
use Rattle.report_text.proofs.measure_text.Given as goal

abbrev pub invariant-loop-i : goal.invariant-loop-i
invariant-loop-i l = Lengthening l.report l.total l.i
