use Rattle.decimal_write.proofs.Fields.{fielding}
use Rattle.decimal_write.proofs.put_field.Goals as goal

pub put_digits-requires : goal.put_digits-requires
put_digits-requires c = search fielding

pub returns : goal.returns
returns c = search fielding
