use Rattle.decimal_write.proofs.Fields.{alone}
use Rattle.decimal_write.proofs.number_field.Goals as goal

pub put_field_at-requires : goal.put_field_at-requires
put_field_at-requires c = search alone
