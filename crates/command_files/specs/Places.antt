-- The place of a result: what may be replaced there, and where a link leads that stands at a path, the first n bytes of a room. Assumes nothing.
use Rattle.std.specs.Prelude.{Bool, true, cond, Option, None, Some, List, ◌++◌, ◌≡◌, ℕ, zero, suc, ◌≤◌, ◌<◌, eqb, length, get_or, take}
use Rattle.basis.specs.Bytes.{starts_with}
use Rattle.meaning.specs.Register.{register_tag}
use Rattle.decimal_write.specs.Digits.{Fronted}
use Rattle.command_files.specs.declared.place.Place.{Place}
use Rattle.command_files.specs.declared.place.Place.TheVariants.{Plain}

-- a register is never replaced
abbrev pub front_judged : List ℕ → ℕ → Option Place
front_judged front mode = cond (starts_with register_tag front) None (Some (Plain mode))

-- whatever else is found of a file, one that begins as a register does is barred
abbrev pub Spared : List ℕ → Option Place → Type 0
Spared front place = starts_with register_tag front ≡ true → place ≡ None

-- a slash stands there
abbrev pub is_slash : List ℕ → ℕ → Bool
is_slash bytes i = eqb (get_or bytes i 0) 47

-- the path's folder: all up to its last slash
unfoldable pub folder_length : List ℕ → ℕ → ℕ
folder_length room zero = 0
folder_length room (suc n) = let shorter = folder_length room n in cond (is_slash room n) (suc n) shorter

-- a link's text goes behind the link's folder, or to the front if it begins at the root
unfoldable pub text_at : List ℕ → List ℕ → ℕ → ℕ
text_at text room n = cond (is_slash text 0) 0 (folder_length room n)

unfoldable pub led_to : List ℕ → List ℕ → ℕ → List ℕ
led_to text room n = take (text_at text room n) room ++ text

-- the path in the link's place, with room for the 0 behind it; or the room as it was if there is none
abbrev pub Led : List ℕ → List ℕ → ℕ → Option ℕ → List ℕ → Type 0
Led text room n None after = (length room ≤ length (led_to text room n)) × (after ≡ room)
Led text room n (Some m) after = (length (led_to text room n) < length room) × Fronted room (led_to text room n) after m
