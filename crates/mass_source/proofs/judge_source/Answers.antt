use Rattle.mass_source.proofs.Coming.{comes_all}
use Rattle.mass_source.proofs.judge_source.Goals as goal

pub returns-in-Ok : goal.returns-in-Ok
returns-in-Ok c = comes_all c.in-Ok.ensures c.judge_sums.ensures
