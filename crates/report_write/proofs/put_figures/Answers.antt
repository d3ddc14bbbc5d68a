use Rattle.report_write.proofs.Writing.{placing_none, placing_more, placing_all}
use Rattle.report_write.proofs.put_figures.Goals as goal

pub loop-k-init : goal.loop-k-init
loop-k-init c = placing_none _ _ _ c.requires

pub loop-k-preserved : goal.loop-k-preserved
loop-k-preserved c = search placing_more

pub returns : goal.returns
returns c = search placing_all
