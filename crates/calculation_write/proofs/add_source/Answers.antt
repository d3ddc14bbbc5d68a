use Rattle.std.proofs.Common.{arith, rules}
use Rattle.calculation_write.proofs.Summing.{adding-none, adding-each, adding-fits, adding_more, adding-all}
use Rattle.calculation_write.proofs.add_source.Goals as goal

pub loop-k-init : goal.loop-k-init
loop-k-init c = search (rules, adding-none)

pub bounds-figures-i : goal.bounds-figures-i
bounds-figures-i c = omega (arith, c.requires.0.long, adding-each c.loop-k.invariant, c.loop-k-test.true)

pub overflow_add-total-in-loop-k : goal.overflow_add-total-in-loop-k
overflow_add-total-in-loop-k c =
    adding-fits c.loop-k.invariant c.requires.0 (omega (arith, adding-each c.loop-k.invariant, c.loop-k-test.true))

pub loop-k-preserved : goal.loop-k-preserved
loop-k-preserved c = adding_more c.loop-k.invariant c.requires.0 (omega (arith, adding-each c.loop-k.invariant, c.loop-k-test.true))

pub returns : goal.returns
returns c = adding-all c.loop-k.invariant (omega (arith, adding-each c.loop-k.invariant, c.loop-k-test.false))
