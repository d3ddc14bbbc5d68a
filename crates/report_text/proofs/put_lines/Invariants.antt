use Rattle.report_text.proofs.Texts.{Texting}
use Rattle.report_text.proofs.put_lines.Given as goal

abbrev pub invariant-loop-i : goal.invariant-loop-i
invariant-loop-i l = Texting l.report l.initial.buf l.end l.buf l.p l.i
