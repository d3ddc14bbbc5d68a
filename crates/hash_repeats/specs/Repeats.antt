-- The hash table with linear probing in which numbers take slots, and what inserting one tells. Assumes nothing.
use Rattle.std.specs.Prelude.{List, ◌≢◌, ◌≡◌, ℕ, ◌+◌, ◌*◌, ◌/◌, ◌%◌, ◌≤◌, ◌<◌, length, get_or, set}
use Rattle.hash_repeats.specs.declared.Standing.{Standing}
use Rattle.hash_repeats.specs.declared.Standing.TheVariants.{Once, Twice, Open}

-- 0 is none of the numbers
pub record Nonzero (ns : List ℕ) : Type 0 where
  pub some : (i : ℕ) → i < length ns → get_or ns i 0 ≢ 0

-- a number's home slot is one of so many, and it takes that or one of the next few
abbrev pub homes : ℕ
homes = 1024

abbrev pub probes : ℕ
probes = 64

abbrev pub slot_count : ℕ
slot_count = homes + probes

-- numbers are spread by a product, of whose lower 32 bits the upper ten count
unfoldable pub home_of : ℕ → ℕ
home_of x = x * 2654435769 % 4294967296 / 4194304

-- r is the home slot of x
pub record Home (x r : ℕ) : Type 0 where
  pub is : r ≡ home_of x
  pub low : r < homes

-- every slot is free, which is that it holds 0
pub record Empty (slots : List ℕ) : Type 0 where
  pub all : length slots ≡ slot_count
  pub free : (p : ℕ) → get_or slots p 0 ≡ 0

-- each slot from x's home slot up to `at` is taken by another number
pub record Probed (slots : List ℕ) (x at : ℕ) : Type 0 where
  pub low : home_of x ≤ at
  pub room : at < length slots
  pub taken : (q : ℕ) → home_of x ≤ q → q < at → get_or slots q 0 ≢ 0
  pub other : (q : ℕ) → home_of x ≤ q → q < at → get_or slots q 0 ≢ x

-- the probes of x end at a slot that is free or its own, or else at the last that it may take
pub record Ended (slots : List ℕ) (x at : ℕ) : Type 0 where
  pub probed : Probed slots x at
  pub last : get_or slots at 0 ≢ 0 → get_or slots at 0 ≢ x → at ≡ home_of x + probes

-- x has taken the free slot that it came to, and all else is as it was
pub record Taken (slots : List ℕ) (x : ℕ) (left : List ℕ) : Type 0 where
  pub slot : ℕ
  pub probed : Probed slots x slot
  pub free : get_or slots slot 0 ≡ 0
  pub is : left ≡ set slots slot x

-- x stands in a slot that is taken
pub record Met (slots : List ℕ) (x : ℕ) : Type 0 where
  pub slot : ℕ
  pub taken : get_or slots slot 0 ≢ 0
  pub is : get_or slots slot 0 ≡ x

-- every slot that x may take is taken by another number
pub record Crowded (slots : List ℕ) (x : ℕ) : Type 0 where
  pub probed : Probed slots x (home_of x + probes)
  pub taken : get_or slots (home_of x + probes) 0 ≢ 0
  pub other : get_or slots (home_of x + probes) 0 ≢ x

-- what each answer says of x, inserted into slots, and which slots are left
abbrev pub Inserted : List ℕ → ℕ → Standing → List ℕ → Type 0
Inserted slots x Once left = Taken slots x left
Inserted slots x Twice left = Met slots x × (left ≡ slots)
Inserted slots x Open left = Crowded slots x × (left ≡ slots)
