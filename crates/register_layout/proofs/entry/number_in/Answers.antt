use Rattle.fields.proofs.Laws.{field_behind}
use Rattle.register_layout.proofs.entry.number_in.Goals as goal

pub returns : goal.returns
returns g c = search field_behind
