use Rattle.register_name.proofs.look.Looking.{Finding}
use Rattle.register_name.proofs.look.name_in.Given as goal

abbrev pub invariant-loop-i : goal.invariant-loop-i
invariant-loop-i l = Finding l.register l.number l.i-end l.i
