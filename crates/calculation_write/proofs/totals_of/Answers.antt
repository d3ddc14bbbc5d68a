use Rattle.calculation_write.proofs.Summing.{totals-none}
use Rattle.calculation_write.proofs.totals_of.Goals as goal

pub loop-i-init : goal.loop-i-init
loop-i-init c = totals-none c.args.figures.now
