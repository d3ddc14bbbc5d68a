use Rattle.mass_sums.proofs.Reading.{summed_none, reads_all, reads-stop, summed_turn, good-fits, roomy-one}
use Rattle.mass_sums.proofs.read_lines.Goals as goal

pub loop-at-init : goal.loop-at-init
loop-at-init c = summed_none c.requires

pub returns-in_default : goal.returns-in_default
returns-in_default c = reads-stop c.requires c.loop-at.invariant c.loop-at-test.true c.line_at-raw.ensures c.decode.ensures c.in_default.is

pub with_line-sums-requires : goal.with_line-sums-requires
with_line-sums-requires c =
    let fits = good-fits c.decode.ensures.1 c.in-Some.is in
    (roomy-one c.loop-at.invariant c.loop-at-test.true, fits.0, fits.1)

pub loop-at-preserved : goal.loop-at-preserved
loop-at-preserved c = summed_turn c.requires c.loop-at.invariant c.loop-at-test.true c.line_at-raw.ensures c.decode.ensures c.in-Some.is c.with_line-sums.ensures

pub returns : goal.returns
returns c = reads_all c.loop-at.invariant c.loop-at-test.false
