use Rattle.mass_source.specs.Source.{number_of}
use Rattle.calculation_judge.proofs.Waiting.{some_fault, waited-passes, waited-first, waited-later}
use Rattle.calculation_judge.proofs.waits.Goals as goal

pub returns-in_err-waiting : goal.returns-in_err-waiting
returns-in_err-waiting c = waited-later _ c.args.i c.in_err-waiting.was c.from_residual.ensures.1

pub returns-in-Ok : goal.returns-in-Ok
returns-in-Ok c = rw c.in-Ok.is (waited-passes c.args.i c.in_ok-waiting.was)

pub returns-in-Err : goal.returns-in-Err
returns-in-Err c = rw (c.in-Err.is, c.number.ensures) (waited-first (number_of c.in-Err.fault) c.args.i c.in_ok-waiting.was (some_fault c.in-Err.fault))
