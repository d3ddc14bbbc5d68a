use Rattle.decimal_write.proofs.Counts.{counting}
use Rattle.decimal_write.proofs.digit_count.Goals as goal

pub returns : goal.returns
returns c = search counting
