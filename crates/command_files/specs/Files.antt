-- What has come, and the name of a new file. Assumes nothing.
use Rattle.std.specs.Prelude.{List, ◌++◌, ◌≡◌, ℕ, ◌<◌, ◌≤◌, Option, length, take}
use Rattle.std.specs.Io.KnownBytes.{Consumes, IsAtEnd}
use Rattle.basis.specs.Bytes.{ascii}
use Rattle.decimal_write.specs.Digits.{field}

-- n bytes at the front of a room. The second part says so of the part that is lent on.
pub record Front (n : ℕ) (room : List ℕ) : Type 0 where
  pub within : n ≤ length room
  pub part : n ≡ length (take n room)

-- of a reader whose bytes are known: the next n of them came, and those are all where the room is not full
abbrev pub CameFrom : Option (List ℕ) → Option (List ℕ) → ℕ → List ℕ → Type 0
CameFrom before after n room = Consumes before after (take n room) × (n < length room → IsAtEnd after)

-- a path, `.new-`, a number and `~`
unfoldable pub beside : List ℕ → ℕ → List ℕ
beside path number = path ++ (ascii ".new-" ++ field number 126)
