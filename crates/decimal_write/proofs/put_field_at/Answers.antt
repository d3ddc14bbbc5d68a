use Rattle.decimal_write.proofs.Fields.{own}
use Rattle.decimal_write.proofs.put_field_at.Goals as goal

pub put_bytes-requires : goal.put_bytes-requires
put_bytes-requires c = search own
