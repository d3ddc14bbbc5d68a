use Rattle.command_files.proofs.Delivering.{calculated-front}
use Rattle.command_calculate.proofs.calculate.Goals as goal

pub deliver-requires : goal.deliver-requires
deliver-requires c = calculated-front _ _ c.calculate-answer.ensures
