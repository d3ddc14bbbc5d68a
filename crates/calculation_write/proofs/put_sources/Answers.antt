use Rattle.calculation_write.proofs.Entries.{header_there, placing_none, placing_more, placing_all}
use Rattle.calculation_write.proofs.put_sources.Goals as goal

pub source_count-k-end-requires : goal.source_count-k-end-requires
source_count-k-end-requires c = header_there c.requires.0

pub loop-k-init : goal.loop-k-init
loop-k-init c = placing_none c.requires.0 c.requires.1 c.source_count-k-end.ensures

pub loop-k-preserved : goal.loop-k-preserved
loop-k-preserved c = placing_more c.requires.0 c.loop-k.invariant c.loop-k-test.true c.put_source.ensures

pub returns : goal.returns
returns c = placing_all c.requires.0 c.loop-k.invariant c.loop-k-test.false
