-- Numbers in bytes, and a list written over at a place. Assumes nothing.
use Rattle.std.specs.Prelude.{Bool, true, ◌&&◌, List, [], ◌∷◌, ◌++◌, ◌≡◌, ℕ, zero, suc, ◌+◌, ◌*◌, ◌/◌, ◌%◌, ◌≤◌, ◌<◌, length, get_or, take, drop, eqb}
use Prim.Native.Char.{code}
use Prim.Native.String.{String}

-- "Numbers are unsigned, little-endian": the k lowest bytes of v, lowest first
unfoldable pub bytes_of : ℕ → ℕ → List ℕ
bytes_of zero v = []
bytes_of (suc k) v = v % 256 ∷ bytes_of k (v / 256)

-- the number that bytes stand for, lowest first
unfoldable pub number_of : List ℕ → ℕ
number_of [] = 0
number_of (b ∷ bs) = b + 256 * number_of bs

-- the number of k bytes at a place
unfoldable pub number_at : ℕ → List ℕ → ℕ → ℕ
number_at k bs at = number_of (take k (drop at bs))

-- numbers one behind another, each in as many bytes as its width says
unfoldable pub packed : List ℕ → List ℕ → List ℕ
packed [] ns = []
packed (w ∷ ws) [] = []
packed (w ∷ ws) (n ∷ ns) = bytes_of w n ++ packed ws ns

-- the bytes of a text in plain letters
abbrev pub ascii : String → List ℕ
ascii String.[] = []
ascii (String.◌∷◌ c cs) = code c ∷ ascii cs

-- whether bytes begin with a tag
unfoldable pub starts_with : List ℕ → List ℕ → Bool
starts_with [] bs = true
starts_with (t ∷ ts) bs = eqb (get_or bs 0 0) t && starts_with ts (drop 1 bs)

-- each of a list is a byte
abbrev pub Bytes : List ℕ → Type 0
Bytes bs = (i : ℕ) → get_or bs i 0 < 256

-- xs with ys written over what stands from a place on
unfoldable pub splice : List ℕ → ℕ → List ℕ → List ℕ
splice xs at ys = take at xs ++ ys ++ drop (at + length ys) xs

-- zs is xs with ys written over it at a place, and ys fits there
pub record Written (xs : List ℕ) (at : ℕ) (ys zs : List ℕ) : Type 0 where
  pub fits : at + length ys ≤ length xs
  pub is : zs ≡ splice xs at ys
