use Rattle.std.proofs.Common.{rules, subst}
use Rattle.std.proofs.KnownBytes.{Consumes-trans}
use Rattle.std.specs.Io.KnownBytes.{Consumes}
use Rattle.command_files.proofs.Coming.{front-came}
use Rattle.command_files.proofs.fill_room.Goals as goal

pub loop-at-preserved : goal.loop-at-preserved
loop-at-preserved g c =
    let joined = front-came c.loop-at.at c.in_ok-n.n c.loop-at.room c.read.new.buf c.loop-at.invariant.0 c.in_ok-n.ensures.bound.0 in
    (search rules, subst (Consumes _ _) joined (Consumes-trans _ _ _ _ _ c.loop-at.invariant.1 c.in_ok-n.ensures.bytes.0))
