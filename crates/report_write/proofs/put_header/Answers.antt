use Rattle.report_write.proofs.Writing.{header_written}
use Rattle.report_write.proofs.put_header.Goals as goal

pub returns : goal.returns
returns c = search header_written
