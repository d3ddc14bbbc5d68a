use Rattle.command_answer.proofs.Lines.{number-room, place-room, refusal_put}
use Rattle.command_answer.proofs.put_refusal.Goals as goal

pub put_field_at-at-requires : goal.put_field_at-at-requires
put_field_at-at-requires c = number-room c.args.number c.args.place c.ranges.number c.ranges.place c.requires c.put_bytes.ensures

pub put_field_at-requires : goal.put_field_at-requires
put_field_at-requires c =
    place-room c.args.number c.args.place c.ranges.number c.ranges.place c.requires c.put_bytes.ensures c.put_field_at-at.ensures

pub returns : goal.returns
returns c =
    refusal_put
    c.args.number
    c.args.place
    c.ranges.number
    c.ranges.place
    c.requires
    c.put_bytes.ensures
    c.put_field_at-at.ensures
    c.put_field_at.ensures
