use Rattle.report_text.proofs.Texts.{lengthening_none, lengthening_fits, lengthening_more, lengthening_all}
use Rattle.report_text.proofs.measure_text.Goals as goal

pub loop-i-init : goal.loop-i-init
loop-i-init c = search lengthening_none

pub overflow_add-total : goal.overflow_add-total
overflow_add-total c = search lengthening_fits

pub loop-i-preserved : goal.loop-i-preserved
loop-i-preserved c = search lengthening_more

pub returns : goal.returns
returns c = search lengthening_all
