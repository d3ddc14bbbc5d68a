use Rattle.command_files.proofs.Delivering.{removed-front}
use Rattle.command_remove.proofs.remove.Goals as goal

pub deliver-requires : goal.deliver-requires
deliver-requires c = removed-front _ _ _ c.remove-answer.ensures
