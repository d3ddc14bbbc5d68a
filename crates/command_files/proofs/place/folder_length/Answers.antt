use Rattle.std.proofs.Common.{rules}
use Rattle.std.proofs.iter.runs.Made.{chains}
use Rattle.command_files.proofs.place.Laws.{folder_found}
use Rattle.command_files.proofs.place.folder_length.Goals as goal

pub returns : goal.returns
returns c =
    folder_found _ _ _
    (search (rules, chains))
    (λ l. search (rules, chains))
    (λ k l m. search (rules, chains))
