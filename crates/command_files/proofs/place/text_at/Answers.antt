use Rattle.std.proofs.Common.{rules}
use Rattle.command_files.specs.Places.{text_at}
use Rattle.command_files.proofs.place.text_at.Goals as goal

pub returns-then-is_rooted : goal.returns-then-is_rooted
unfolding text_at
returns-then-is_rooted c = search rules

pub returns-else-is_rooted : goal.returns-else-is_rooted
unfolding text_at
returns-else-is_rooted c = search rules
