use Rattle.std.proofs.Common.{sym, ◌∙◌}
use Rattle.mass_source.proofs.Judging.{judged-weighed}
use Rattle.mass_source.proofs.judge_sums.Goals as goal

pub returns : goal.returns
returns c = judged-weighed c.requires c.subtract.ensures (sym c.below.ensures ∙ c.if-below.false) c.grams.ensures c.weigh.ensures
