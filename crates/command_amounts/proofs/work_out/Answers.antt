use Rattle.command_files.proofs.Delivering.{amounts-front}
use Rattle.command_amounts.proofs.work_out.Goals as goal

pub deliver_saying-requires : goal.deliver_saying-requires
deliver_saying-requires c = amounts-front _ _ c.put_output-said.ensures.gives
