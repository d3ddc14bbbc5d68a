use Rattle.command_files.proofs.result.Names.{beside_put}
use Rattle.command_files.proofs.result.put_beside.Goals as goal

pub returns : goal.returns
returns c = beside_put _ c.number_field-n.ensures c.put_bytes.ensures c.put_bytes-2.ensures c.put_bytes-3.ensures
