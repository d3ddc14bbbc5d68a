use Rattle.report_write.proofs.Writing.{tag-written}
use Rattle.report_write.proofs.put_tag_and_year.Goals as goal

pub returns : goal.returns
returns c = tag-written c.args.year c.put_bytes.ensures c.put_number.ensures c.put_number-2.ensures
