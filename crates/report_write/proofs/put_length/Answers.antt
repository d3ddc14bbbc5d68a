use Rattle.report_write.proofs.Writing.{length_put}
use Rattle.report_write.proofs.put_length.Goals as goal

pub returns : goal.returns
returns c = search length_put
