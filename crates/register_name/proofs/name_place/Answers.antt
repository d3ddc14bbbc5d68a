use Rattle.std.proofs.Common.{sym, ◌∙◌}
use Rattle.register_name.proofs.Names.{found-as}
use Rattle.register_name.proofs.name_place.Goals as goal

pub returns : goal.returns
returns c = c.unwrap_or.ensures ∙ rw (c.flatten.ensures, c.look_up.ensures) (sym (found-as c.args.register.now c.args.number))
