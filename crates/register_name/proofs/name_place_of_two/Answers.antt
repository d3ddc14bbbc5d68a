use Rattle.std.proofs.Common.{◌∙◌}
use Rattle.register_name.proofs.Names.{told-of-two, one-refused, both-accepted}
use Rattle.register_name.proofs.name_place_of_two.Goals as goal
use Rattle.register_name.proofs.name_place_of_two.Goals.{in_default-via-in-Some+in_default, in_default-via-in-None+in_default}

pub returns-then-not-both : goal.returns-then-not-both
returns-then-not-both c =
    told-of-two _ _ _ c.look_up-here.ensures c.look_up-there.ensures
    (c.in_register.ensures ∙ one-refused _ _ c.is_some.ensures c.is_some-2.ensures c.if-not-both.true)

pub returns-in-Some-None : goal.returns-in-Some-None
returns-in-Some-None c =
    told-of-two _ _ _ c.look_up-here.ensures c.look_up-there.ensures
    (c.in_register-in-Some-None.ensures
    ∙ rw (c.in-Some-None.is-0, c.in-Some-None.is-1) at (both-accepted _ _ c.is_some.ensures c.is_some-2.ensures c.if-not-both.false c.flatten-one.ensures c.flatten-other.ensures))

pub returns-in-None-Some : goal.returns-in-None-Some
returns-in-None-Some c =
    told-of-two _ _ _ c.look_up-here.ensures c.look_up-there.ensures
    (c.in_register-in-None-Some.ensures
    ∙ rw (c.in-None-Some.is-0, c.in-None-Some.is-1) at (both-accepted _ _ c.is_some.ensures c.is_some-2.ensures c.if-not-both.false c.flatten-one.ensures c.flatten-other.ensures))

pub returns-in_default : goal.returns-in_default
returns-in_default c =
    told-of-two _ _ _ c.look_up-here.ensures c.look_up-there.ensures
    (c.in_register-in_default.ensures
    ∙ elim c.in_default.branch [
      | in_default-via-in-Some+in_default w ↦
          rw (w.in_default.is-0, w.in_default.is-1) at (both-accepted _ _ c.is_some.ensures c.is_some-2.ensures c.if-not-both.false c.flatten-one.ensures c.flatten-other.ensures)
      | in_default-via-in-None+in_default w ↦
          rw (w.in_default.is-0, w.in_default.is-1) at (both-accepted _ _ c.is_some.ensures c.is_some-2.ensures c.if-not-both.false c.flatten-one.ensures c.flatten-other.ensures)
    ])
