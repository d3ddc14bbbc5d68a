use Rattle.std.proofs.Common.{◌≤◌, length}
use Rattle.command_files.proofs.place.follow_links.Given as goal

abbrev pub invariant-loop : goal.invariant-loop
invariant-loop l = l.end ≤ length l.room
