-- What a number looked up in one register comes to. Assumes nothing.
use Rattle.std.specs.Prelude.{Option, Some, None, cond, List, ℕ}
use Rattle.meaning.specs.declared.Part.{Part}
use Rattle.meaning.specs.Calls.{accepted, index_of, holds, name_at}

-- the name of the source that has the number, if one has it
abbrev pub named : List ℕ → ℕ → Option Part
named b number = cond (holds b number) (Some (name_at b (index_of b number))) None

-- nothing where the register is refused
abbrev pub sought : List ℕ → ℕ → Option (Option Part)
sought b number = cond (accepted b) (Some (named b number)) None
