-- The lines of a source, one more at each turn. Assumes nothing.
use mathlib.Core.List.{List, [], ◌∷◌, ◌++◌, map, map-append}
use mathlib.Core.Path.{◌≡◌, refl, sym, ap, subst, ◌∙◌}
use Prim.Native.Nat.{ℕ, suc, ◌+◌, ◌*◌, ◌-◌, ◌≤◌, ◌<◌}
use native.Mathlib.Nat.{add-zero, zero-mul, add-mul}
use native.Mathlib.Omega.{arith}
use lib.ListN.{get_or, drop, replicate, get_or-replicate}
use Rattle.basis.specs.Answers.{Passes, Refuses, first_refusal}
use Rattle.basis.specs.Lists.{sum, count_up}
use Rattle.basis.proofs.Lists.{sum_append}
use Rattle.basis.proofs.Counting.{counted_append}
use Rattle.meaning.specs.declared.Line.{Line}
use Rattle.meaning.specs.declared.RawLine.{RawLine}
use Rattle.meaning.specs.Methods.{Decoded, most_quantity, decoded}
use Rattle.std.specs.Prelude.{Some, None}
use Rattle.line_kind.specs.Ranges.{KindFits, DecodedFits}
use Rattle.meaning.specs.Register.{most_lines, line_length, line_of}
use Rattle.meaning.specs.Masses.{gas_count, carbon_dioxide, added, taken, adds_to, takes_from}
use Rattle.mass_exact.specs.Amounts.{scale, nothing}
use Rattle.mass_exact.proofs.Amounts.{value-nothing, room-first, room_less}
use Rattle.mass_sums.specs.declared.Sums.{Sums}
use Rattle.mass_sums.specs.Sums.{Roomy, Counts}
use Rattle.mass_sums.specs.Lines.{read_at, read_from, verdict_from, LinesStand, SumsOf}

-- one line more is read behind the others
read_more : (b : List ℕ) (m p first k : ℕ) → read_from b m p first (k + 1) ≡ read_from b m p first k ++ (read_at b m p (first + k) ∷ [])
unfolding read_from count_up
read_more b m p first k = counted_append (read_at b m p) first k 1

added_more : (gas : ℕ) (ls : List Decoded) (d : Decoded) → added gas (ls ++ (d ∷ [])) ≡ added gas ls + adds_to gas d
unfolding added sum
added_more gas ls d = ap sum (map-append (adds_to gas) ls (d ∷ [])) ∙ sum_append (map (adds_to gas) ls) (adds_to gas d ∷ []) ∙ ap (λ (n : ℕ). added gas ls + n) (add-zero (adds_to gas d))

taken_more : (gas : ℕ) (ls : List Decoded) (d : Decoded) → taken gas (ls ++ (d ∷ [])) ≡ taken gas ls + takes_from gas d
unfolding taken sum
taken_more gas ls d = ap sum (map-append (takes_from gas) ls (d ∷ [])) ∙ sum_append (map (takes_from gas) ls) (takes_from gas d ∷ []) ∙ ap (λ (n : ℕ). taken gas ls + n) (add-zero (takes_from gas d))

holds_more : (ls : List Decoded) (l : Line) (s r : Sums) → SumsOf ls s → Counts s l r → SumsOf (ls ++ (Some l ∷ [])) r
holds_more ls l s r h c =
    record {
      added = λ gas g. (c.added gas g).is ∙ rw (h.added gas g, added_more gas ls (Some l)) (sym (add-mul (added gas ls) (adds_to gas (Some l)) (scale gas)));
      taken = c.taken.is ∙ rw (h.taken, taken_more carbon_dioxide ls (Some l)) (sym (add-mul (taken carbon_dioxide ls) (takes_from carbon_dioxide (Some l)) (scale carbon_dioxide)));
    }

roomy_more : {lines : ℕ} {s r : Sums} {l : Line} → Roomy (lines + 1) s → Counts s l r → Roomy lines r
roomy_more {lines} o c = record { gases = c.gases; added = λ gas g. (c.added gas g).roomy lines (o.added gas g); taken = c.taken.roomy lines o.taken }

-- nothing is summed before the first line
abbrev pub none : Sums
none = record { added = replicate gas_count nothing; taken = nothing }

none-at : (gas : ℕ) → gas < gas_count → get_or none.added gas nothing ≡ nothing
none-at gas g = get_or-replicate gas_count gas nothing nothing g

none-roomy : (lines : ℕ) → lines ≤ most_lines → Roomy lines none
none-roomy lines l =
    record { gases = refl; added = λ gas g. rw (none-at gas g) (room_less room-first l); taken = room_less room-first l }

none-holds : SumsOf [] none
unfolding added taken sum
none-holds = record { added = λ gas g. rw (none-at gas g) (value-nothing ∙ sym (zero-mul (scale gas))); taken = value-nothing }

-- the lines before line j are good, and are summed; what is left is answered as the whole, and has room
pub record Summed (b : List ℕ) (m p first end : ℕ) (s : Sums) (j : ℕ) : Type 0 where
  pub low : first ≤ j
  pub high : j ≤ end
  pub left : verdict_from b m p j (end - j) ≡ verdict_from b m p first (end - first)
  pub held : SumsOf (read_from b m p first (j - first)) s
  pub room : Roomy (end - j) s

pub summed_none : {b : List ℕ} {m p base first end : ℕ} → LinesStand b m p base first end → Summed b m p first end none first
unfolding read_from count_up
summed_none {first = first} {end = end} h =
    let z : first - first ≡ 0 = omega arith in
    record {
      low = omega arith;
      high = h.order;
      left = refl;
      held = rw z none-holds;
      room = none-roomy (end - first) (omega (arith, h.few));
    }

-- what a good line is answered, and a bad one
answer-good : (b : List ℕ) (m p at k : ℕ) {l : Line} → read_at b m p at ≡ Some l → verdict_from b m p at (suc k) ≡ verdict_from b m p (at + 1) k
unfolding verdict_from first_refusal count_up
answer-good b m p at k e = rw e

answer-bad : (b : List ℕ) (m p at k : ℕ) → read_at b m p at ≡ None → verdict_from b m p at (suc k) ≡ Refuses 5 at
unfolding verdict_from first_refusal count_up
answer-bad b m p at k e = rw e

-- one more line, which is good
pub summed_more : {b : List ℕ} {m p first end at : ℕ} {s r : Sums} {l : Line} → Summed b m p first end s at → at < end → read_at b m p at ≡ Some l → Counts s l r
    → Summed b m p first end r (at + 1)
summed_more {b} {m} {p} {first} {end} {at} {s} {r} {l} h less e c =
    let k : at + 1 - first ≡ at - first + 1 = omega (arith, h.low) in
    let f : first + (at - first) ≡ at = omega (arith, h.low) in
    let o : end - at ≡ end - (at + 1) + 1 = omega arith in
    let n : end - at ≡ suc (end - (at + 1)) = omega arith in
    record {
      low = omega (arith, h.low);
      high = omega arith;
      left = sym (answer-good b m p at (end - (at + 1)) e) ∙ rw n at h.left;
      held = rw (k, read_more b m p first (at - first), f, e) (holds_more (read_from b m p first (at - first)) l s r h.held c);
      room = roomy_more (rw o at h.room) c;
    }

-- the sums of the lines that were read have room to be rounded
room-left : {lines : ℕ} {s : Sums} → Roomy lines s → Roomy 0 s
room-left r = record { gases = r.gases; added = λ gas g. room_less (r.added gas g) (omega arith); taken = room_less r.taken (omega arith) }

-- a line that is bad ends it, and so does the end
reads-bad : {b : List ℕ} {m p first end at : ℕ} {s : Sums} → Summed b m p first end s at → at < end → read_at b m p at ≡ None
    → (verdict_from b m p first (end - first) ≡ Refuses 5 at) × SumsOf (read_from b m p first (at - first)) s × Roomy 0 s
reads-bad {b} {m} {p} {end = end} {at = at} h less e =
    let n : end - at ≡ suc (end - (at + 1)) = omega arith in
    (sym (sym (answer-bad b m p at (end - (at + 1)) e) ∙ rw n at h.left), h.held, room-left h.room)

pub reads_all : {b : List ℕ} {m p first end at : ℕ} {s : Sums} → Summed b m p first end s at → end ≤ at
    → (verdict_from b m p first (end - first) ≡ Passes) × SumsOf (read_from b m p first (end - first)) s × Roomy 0 s
unfolding verdict_from first_refusal count_up
reads_all {end = end} {at = at} h l =
    let e : at ≡ end = omega (arith, h.high) in
    let n : end - at ≡ 0 = omega arith in
    (sym (rw n at h.left), rw e at h.held, room-left h.room)

-- what decoding makes of the bytes at a line's place is the line read
read_is : {b : List ℕ} {m p base first end : ℕ} {raw : RawLine} {d : Decoded} (at : ℕ) → LinesStand b m p base first end → raw ≡ line_of (drop (base + line_length * at) b) → d ≡ decoded m p raw
    → read_at b m p at ≡ d
read_is {b} {m} {p} at h r e = sym (e ∙ ap (decoded m p) (r ∙ ap (λ (x : ℕ). line_of (drop (x + line_length * at) b)) h.begin))

-- the turns of the loop: a bad line ends it, a good one is counted
pub reads-stop : {b : List ℕ} {m p base first end at : ℕ} {s : Sums} {raw : RawLine} {d : Decoded} → LinesStand b m p base first end → Summed b m p first end s at → at < end
    → raw ≡ line_of (drop (base + line_length * at) b) → (d ≡ decoded m p raw) × DecodedFits d → d ≡ None
    → (verdict_from b m p first (end - first) ≡ Refuses 5 at) × SumsOf (read_from b m p first (at - first)) s × Roomy 0 s
reads-stop {at = at} h s less r e z = reads-bad s less (read_is at h r e.0 ∙ z)

pub summed_turn : {b : List ℕ} {m p base first end at : ℕ} {s r : Sums} {raw : RawLine} {d : Decoded} {l : Line} → LinesStand b m p base first end → Summed b m p first end s at → at < end
    → raw ≡ line_of (drop (base + line_length * at) b) → (d ≡ decoded m p raw) × DecodedFits d → d ≡ Some l → Counts s l r → Summed b m p first end r (at + 1)
summed_turn {at = at} h s less r e z c = summed_more s less (read_is at h r e.0 ∙ z) c

pub good-fits : {d : Decoded} {l : Line} → DecodedFits d → d ≡ Some l → (l.quantity ≤ most_quantity) × KindFits l.kind
good-fits {d} {l} f e = subst DecodedFits e f

pub roomy-one : {b : List ℕ} {m p first end at : ℕ} {s : Sums} → Summed b m p first end s at → at < end → Roomy 1 s
roomy-one h l = record { gases = h.room.gases; added = λ gas g. room_less (h.room.added gas g) (omega arith); taken = room_less h.room.taken (omega arith) }
