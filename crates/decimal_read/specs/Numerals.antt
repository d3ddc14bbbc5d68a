-- A number as a word of plain digits. Assumes nothing.
use Rattle.std.specs.Prelude.{Bool, cond, ◌&&◌, List, [], ◌∷◌, Option, Some, None, ℕ, ◌+◌, ◌*◌, ◌-◌, ltb}

-- the bytes `0` to `9`
abbrev pub is_digit : ℕ → Bool
is_digit byte = ltb 47 byte && ltb byte 58

-- the rest of a word behind digits that say n: each further digit is ten times what was said and itself, below 2^32
unfoldable pub read_on : ℕ → List ℕ → Option ℕ
read_on n [] = Some n
read_on n (byte ∷ rest) = let m = n * 10 + (byte - 48) in cond (is_digit byte && ltb m 4294967296) (read_on m rest) None

-- a number is one digit or more
unfoldable pub numeral_in : List ℕ → Option ℕ
numeral_in [] = None
numeral_in (byte ∷ rest) = read_on 0 (byte ∷ rest)
