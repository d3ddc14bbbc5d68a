use Rattle.register_layout.proofs.sources.Entries.{look_none, look_more, look-all}
use Rattle.register_layout.proofs.sources.has_bad_byte.Goals as goal

pub loop-byte-init : goal.loop-byte-init
loop-byte-init c = search look_none

pub loop-byte-preserved : goal.loop-byte-preserved
loop-byte-preserved c = search look_more

pub returns : goal.returns
returns c = search look-all
