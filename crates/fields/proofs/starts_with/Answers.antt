use mathlib.Core.Path.{◌∙◌}
use Rattle.fields.proofs.Laws.{begun}
use Rattle.fields.proofs.starts_with.Goals as goal

pub returns : goal.returns
returns c = c.starts_with.ensures.value ∙ begun c.args.tag.now c.args.s.now c.requires
