use Rattle.std.proofs.Common.{refl, ◌∙◌}
use Rattle.command_files.proofs.place.Laws.{text_front, text-within, led_past, led_fits, led_put}
use Rattle.command_files.proofs.place.put_link.Goals as goal

pub overflow_sub-room : goal.overflow_sub-room
overflow_sub-room c = text-within _ _ _ (c.text_at-at.ensures ∙ text_front _ _ _ c.requires) c.requires

pub returns-then-room-at : goal.returns-then-room-at
returns-then-room-at c = (led_past _ _ _ (c.text_at-at.ensures ∙ text_front _ _ _ c.requires) c.requires c.if-room-at.true, refl)

pub returns : goal.returns
returns c =
    let at = c.text_at-at.ensures ∙ text_front _ _ _ c.requires in
    (led_fits _ _ _ at c.requires c.if-room-at.false, led_put _ _ _ at c.requires c.put_bytes.ensures)
