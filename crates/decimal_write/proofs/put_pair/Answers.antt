use Rattle.decimal_write.proofs.Fields.{pairing}
use Rattle.decimal_write.proofs.put_pair.Goals as goal

pub put_field-p-requires : goal.put_field-p-requires
put_field-p-requires c = search pairing

pub put_field-requires : goal.put_field-requires
put_field-requires c = search pairing

pub returns : goal.returns
returns c = search pairing
