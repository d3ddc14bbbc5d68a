use Rattle.mass_source.proofs.Judging.{weighed-above, weighed-within}
use Rattle.mass_source.proofs.weigh.Goals as goal

pub returns-in_err-equivalent : goal.returns-in_err-equivalent
returns-in_err-equivalent c =
    weighed-above c.from_residual.result c.equivalent.ensures c.in_err-equivalent.ensures.ok_part c.in_err-equivalent.ensures.value c.from_residual.ensures.1

pub returns : goal.returns
returns c = weighed-within c.requires c.equivalent.ensures c.in_ok-equivalent.ensures.ok_part c.figures_of.ensures
