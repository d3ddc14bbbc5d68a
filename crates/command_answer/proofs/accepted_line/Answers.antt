use Rattle.command_answer.proofs.Lines.{accepted-room, accepted_put}
use Rattle.command_answer.proofs.accepted_line.Goals as goal

pub put_field_at-requires : goal.put_field_at-requires
put_field_at-requires c = accepted-room c.args.accepted c.ranges.accepted c.told-line c.put_bytes.ensures

pub returns : goal.returns
returns c = accepted_put c.args.accepted c.ranges.accepted c.told-line c.put_bytes.ensures c.put_field_at.ensures
