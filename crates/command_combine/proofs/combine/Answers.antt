use Rattle.command_files.proofs.Delivering.{combined-front}
use Rattle.command_combine.proofs.combine.Goals as goal

pub deliver-requires : goal.deliver-requires
deliver-requires c = combined-front _ _ _ c.combine-answer.ensures
