use Rattle.register_name.proofs.look.Looking.{find_none, find_more, name-found, name-absent}
use Rattle.register_name.proofs.look.name_in.Goals as goal

pub loop-i-init : goal.loop-i-init
loop-i-init c = find_none c.requires c.source_count-i-end.ensures

pub returns-then-source_number-number : goal.returns-then-source_number-number
returns-then-source_number-number c = search name-found

pub loop-i-preserved : goal.loop-i-preserved
loop-i-preserved c = search find_more

pub returns : goal.returns
returns c = name-absent c.loop-i.invariant c.loop-i-test.false
