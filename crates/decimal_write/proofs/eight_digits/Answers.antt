use Rattle.decimal_write.proofs.Words.{wording}
use Rattle.decimal_write.proofs.eight_digits.Goals as goal

pub returns : goal.returns
returns c = search wording
