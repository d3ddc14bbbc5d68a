use Rattle.std.proofs.Common.{◌∙◌, inl, length, ap, rules}
use lib.ListN.{drop_of_length-le}
use Rattle.meaning.specs.Masses.{warming}
use Rattle.mass_exact.proofs.Equivalents.{weighing_first, weighing_fits, weighing_next, weighing_none, weighing_end, weighed-now}
use Rattle.mass_exact.proofs.equivalent.Goals as goal

pub loop-gas-init : goal.loop-gas-init
loop-gas-init c = weighing_first c.args.masses

pub returns-then-above : goal.returns-then-above
returns-then-above c =
    weighing_none c.loop-gas.invariant (weighed-now c.args.masses c.loop-gas.gas (search rules), weighed-now warming c.loop-gas.gas (search rules)) c.if-above.true

pub overflow_add-sum : goal.overflow_add-sum
overflow_add-sum c =
    rw c.warming_of.ensures.0
    (weighing_fits c.loop-gas.invariant (weighed-now c.args.masses c.loop-gas.gas (search rules), weighed-now warming c.loop-gas.gas (search rules)) c.if-above.false)

pub loop-gas-preserved : goal.loop-gas-preserved
loop-gas-preserved c =
    rw c.warming_of.ensures.0
    (weighing_next c.loop-gas.invariant (weighed-now c.args.masses c.loop-gas.gas (search rules), weighed-now warming c.loop-gas.gas (search rules)) c.if-above.false)

pub returns : goal.returns
returns c = c.then_some.ensures ∙ weighing_end c.loop-gas.invariant (inl (ap length (drop_of_length-le c.args.masses {i = c.loop-gas.gas} (search rules))))
