use borrow.Author.Rules.{rules}
use Rattle.decimal_write.proofs.Fields.{own_room}
use Rattle.decimal_write.proofs.own_field.Goals as goal

pub put_field-requires : goal.put_field-requires
put_field-requires c = search (rules, own_room)
