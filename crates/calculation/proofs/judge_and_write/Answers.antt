use Rattle.calculation.proofs.Calculating.{all-passed, ready, source-refused}
use Rattle.calculation.proofs.judge_and_write.Goals as goal

pub returns-in_err-judge_sources : goal.returns-in_err-judge_sources
returns-in_err-judge_sources c = source-refused _ c.requires.passed c.judge_sources.ensures c.in_err-judge_sources.was c.from_residual.ensures.1

pub write_calculated-requires : goal.write_calculated-requires
write_calculated-requires c =
    (ready c.requires c.judge_sources.ensures c.in_ok-judge_sources.was, all-passed c.requires.passed c.judge_sources.ensures c.in_ok-judge_sources.was)
