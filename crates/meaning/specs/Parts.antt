-- The part of a lent register that a lookup hands back: its bytes, and where it stands. Assumes nothing.
use Rattle.std.specs.Borrow.{Bor}
use Rattle.std.specs.Prelude.{cond, List, ℕ, eqb}
use Rattle.basis.specs.Answers.{Shows}
use Rattle.meaning.specs.Calls.{found, found_of_two}

-- r is the part of lent bytes that begins at an offset and has a size
abbrev pub IsPart : Bor (List ℕ) → ℕ → ℕ → Bor (List ℕ) → Type 0
IsPart lent offset size r = Shows lent.now lent.ref_ptr.0 lent.ref_ptr.1 offset size r.now r.ref_ptr

-- "The name found for a number is the part of the lent register where it stands, not a copy"
abbrev pub IsName : Bor (List ℕ) → ℕ → Bor (List ℕ) → Type 0
IsName register number r =
    let name = found register.now number in
    IsPart register name.offset name.length r

-- "Over two registers, the plant's and its contractor's, the name is a part of whichever register holds the number"
abbrev pub IsNameOfEither : Bor (List ℕ) → Bor (List ℕ) → ℕ → Bor (List ℕ) → Type 0
IsNameOfEither plant contractor number r =
    let name = found_of_two plant.now contractor.now number in
    IsPart (cond (eqb name.which 1) plant contractor) name.offset name.length r
