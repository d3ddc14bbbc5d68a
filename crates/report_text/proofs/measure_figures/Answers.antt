use Rattle.report_text.proofs.Rows.{measuring_more, measuring_all}
use Rattle.report_text.proofs.measure_figures.Goals as goal

pub loop-k-preserved : goal.loop-k-preserved
loop-k-preserved c = search measuring_more

pub returns : goal.returns
returns c = search measuring_all
