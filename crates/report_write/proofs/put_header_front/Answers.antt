use Rattle.report_write.proofs.Writing.{front-written}
use Rattle.report_write.proofs.put_header_front.Goals as goal

pub returns : goal.returns
returns c = search front-written
