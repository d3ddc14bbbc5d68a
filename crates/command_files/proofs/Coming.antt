-- What a reader gives part by part, as it comes to stand in a room. Assumes nothing.
use Rattle.std.proofs.Common.{◌≡◌, ℕ, ◌+◌, ◌-◌, ◌≤◌, List, ◌++◌, arith, length, take, slice_range, sym, ap, ◌∙◌, le_refl, drop_at, length-take-le}
use Rattle.std.proofs.lemmas.Slice.{take-put_mid_below}
use borrow.Rule.Slice.PartMut.{put_mid, post_of}
use lib.Seq.{take-add, take-append-le}

-- a part put behind what stands at the front of a room
module _ (at n : ℕ) (room part : List ℕ) (within : at ≤ length room) (fits : n ≤ length part) where
  abbrev filled : List ℕ
  filled = put_mid at (length room - at) room part

  part-came : take n part ≡ slice_range filled at (at + n)
  part-came =
      let same : (at + n) - at ≡ n = omega arith in
      let after = post_of at (length room - at) room in
      sym (ap (take ((at + n) - at)) (drop_at (take at room) (part ++ after) at (length-take-le at room within)) ∙ ap (λ m. take m (part ++ after)) same ∙ take-append-le n part after fits)

  pub front-came : take at room ++ take n part ≡ take (at + n) filled
  front-came =
      let same : at + ((at + n) - at) ≡ at + n = omega arith in
      let front = take-put_mid_below _ _ _ _ _ (le_refl _) within in
      ap (λ l. take at room ++ l) part-came ∙ ap (λ l. l ++ slice_range filled at (at + n)) (sym front) ∙ sym (take-add at ((at + n) - at) filled) ∙ ap (λ k. take k filled) same
