use Rattle.report_write.proofs.Writing.{Placing}
use Rattle.report_write.proofs.put_figures.Given as goal

abbrev pub invariant-loop-k : goal.invariant-loop-k
invariant-loop-k l = Placing l.initial.buf l.at l.figures l.buf l.k
