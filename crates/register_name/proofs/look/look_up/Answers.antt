use Rattle.register_name.proofs.look.Looking.{accepted-by, accepted_headed}
use Rattle.register_name.proofs.look.look_up.Goals as goal

pub name_in-requires : goal.name_in-requires
name_in-requires c = search (accepted-by, accepted_headed)
