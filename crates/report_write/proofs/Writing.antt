-- What is written of a report: numbers behind one another, figures, an entry, a header. Assumes nothing.
use mathlib.Core.List.{List, [], ◌∷◌, ◌++◌, append_assoc, append-nil}
use mathlib.Core.Path.{◌≡◌, refl, sym, ap, ◌∙◌}
use Prim.Native.Nat.{ℕ, ◌+◌, ◌*◌, ◌-◌, ◌/◌, ◌≤◌, ◌<◌}
use native.Mathlib.Nat.{add-zero}
use native.Mathlib.Numerals.{add-one}
use native.Mathlib.Omega.{arith}
use lib.ListN.{length, get_or, take, drop, replicate, length-append, length-drop, drop_of_length-le}
use lib.Seq.{drop-cons, length-take-le}
use Rattle.basis.specs.Bytes.{bytes_of, packed, Bytes, splice, Written}
use Rattle.basis.proofs.Bytes.{length-bytes_of, written_then}
use Rattle.basis.proofs.Rows.{bytes_drop}
use Rattle.meaning.specs.Masses.{gas_count}
use Rattle.meaning.specs.Report.{Entry, figures, totals, report_tag, report_layout, entries_at, entry_length, report_length, report_header, entry_bytes, entry_count, entry_at, entry_in}
use Rattle.meaning.proofs.Reports.{formed, length-figures, entry-again, length-totals}
use Rattle.fields.proofs.Laws.{Writing, writing_none, writing_then, writing_all}
use Rattle.report_read.specs.Readable.{Readable}
use Rattle.report_write.specs.Parts.{figure_bytes, stated_entry, stated_front, stated_header}

same_bytes : {xs ys us zs : List ℕ} {at : ℕ} → ys ≡ us → Written xs at ys zs → Written xs at us zs
same_bytes e w = rw (← e) w

-- numbers written one behind another are packed
pub packed_two : (v w m n : ℕ) {at : ℕ} {xs ys zs : List ℕ} → Written xs at (bytes_of v m) ys → Written ys (at + v) (bytes_of w n) zs
    → Written xs at (packed (v ∷ w ∷ []) (m ∷ n ∷ [])) zs
unfolding packed
packed_two v w m n p q = same_bytes (rw (append-nil (bytes_of w n))) (written_then p q (rw (length-bytes_of v m)))

pub packed_three : (u v w l m n : ℕ) {at : ℕ} {xs ys zs us : List ℕ} → Written xs at (bytes_of u l) ys → Written ys (at + u) (bytes_of v m) zs
    → Written zs (at + (u + v)) (bytes_of w n) us → Written xs at (packed (u ∷ v ∷ w ∷ []) (l ∷ m ∷ n ∷ [])) us
unfolding packed
packed_three u v w l m n p q r =
    same_bytes (rw (append-nil (bytes_of w n), append_assoc (bytes_of u l)))
    (written_then (written_then p q (rw (length-bytes_of u l))) r (rw (length-append, length-bytes_of u l, length-bytes_of v m)))

-- k figures are written
pub record Placing (bs₀ : List ℕ) (at : ℕ) (ns bs : List ℕ) (k : ℕ) : Type 0 where
  pub low : k ≤ length ns
  pub left : Writing bs₀ at (figure_bytes ns) bs (at + 8 * k) (figure_bytes (drop k ns))

pub length-figure_bytes : (ns : List ℕ) → length (figure_bytes ns) ≡ 8 * length ns
unfolding figure_bytes packed
length-figure_bytes [] = refl
length-figure_bytes (n ∷ ns) = rw (length-append, length-bytes_of, length-figure_bytes ns) (omega arith)

pub placing_none : (bs : List ℕ) (at : ℕ) (ns : List ℕ) → at + 8 * length ns ≤ length bs → Placing bs at ns bs 0
placing_none bs at ns h = record { low = omega arith; left = rw add-zero (writing_none bs at (figure_bytes ns) (rw (length-figure_bytes ns) h)) }

module _ {bs₀ : List ℕ} {at : ℕ} {ns bs : List ℕ} {k : ℕ} (p : Placing bs₀ at ns bs k) where
  pub placing_more : {cs : List ℕ} → k < length ns → Written bs (at + 8 * k) (bytes_of 8 (get_or ns k 0)) cs → Placing bs₀ at ns cs (k + 1)
  unfolding figure_bytes packed
  placing_more l w =
      let e : figure_bytes (drop k ns) ≡ bytes_of 8 (get_or ns k 0) ++ figure_bytes (drop (k + 1) ns) = rw (drop-cons ns k 0 l, add-one k) in
      let q : at + 8 * (k + 1) ≡ at + 8 * k + length (bytes_of 8 (get_or ns k 0)) = rw (length-bytes_of 8 (get_or ns k 0)) (omega arith) in
      record { low = omega arith; left = rw q (writing_then (rw e at p.left) w) }

  pub placing_all : length ns ≤ k → Written bs₀ at (figure_bytes ns) bs
  unfolding figure_bytes packed
  placing_all l = writing_all (rw (drop_of_length-le ns l) at p.left)

pub length_put : (n : ℕ) {whole : ℕ} {xs ys zs : List ℕ} → whole ≡ report_length n → Written xs 16 (bytes_of 4 whole) ys → Written ys 20 (bytes_of 4 0) zs
    → Written xs 16 (packed (4 ∷ 4 ∷ []) (report_length n ∷ 0 ∷ [])) zs
length_put n {whole} e p q = rw (← e) (packed_two 4 4 whole 0 p q)

-- "Every report starts with the four bytes GREP"
pub tag-written : (year : ℕ) {xs ys zs us : List ℕ} → Written xs 0 report_tag ys → Written ys 4 (bytes_of 2 report_layout) zs → Written zs 6 (bytes_of 2 year) us
    → Written xs 0 (report_tag ++ packed (2 ∷ 2 ∷ []) (report_layout ∷ year ∷ [])) us
tag-written year p q r = written_then p (packed_two 2 2 report_layout year q r) refl

pub front-written : (year n : ℕ) {xs ys zs us : List ℕ} → Written xs 0 (report_tag ++ packed (2 ∷ 2 ∷ []) (report_layout ∷ year ∷ [])) ys
    → Written ys 8 (packed (2 ∷ 2 ∷ 4 ∷ []) (n ∷ 0 ∷ entries_at ∷ [])) zs → Written zs 16 (packed (4 ∷ 4 ∷ []) (report_length n ∷ 0 ∷ [])) us
    → Written xs 0 (stated_front year n) us
unfolding packed bytes_of stated_front
front-written year n p q r = written_then (written_then p q refl) r refl

-- a number of one byte, in four, has three zeros
zeros_behind : (n : ℕ) → n < 256 → bytes_of 4 n ≡ packed (1 ∷ 3 ∷ []) (n ∷ 0 ∷ [])
unfolding packed bytes_of
zeros_behind n l = let z : n / 256 ≡ 0 = omega arith in rw z

pub entry_fronted : (number method : ℕ) {at : ℕ} {xs ys zs : List ℕ} → method < 256 → Written xs at (bytes_of 4 number) ys → Written ys (at + 4) (bytes_of 4 method) zs
    → Written xs at (packed (4 ∷ 1 ∷ 3 ∷ []) (number ∷ method ∷ 0 ∷ [])) zs
unfolding packed
entry_fronted number method l p q =
    same_bytes (ap (λ (bs : List ℕ). bytes_of 4 number ++ bs) (zeros_behind method l)) (written_then p q (rw (length-bytes_of 4 number)))

-- an entry's front, and its figures behind it
pub entry-written : (number method : ℕ) (ns : List ℕ) {at : ℕ} {xs ys zs : List ℕ} → Written xs at (packed (4 ∷ 1 ∷ 3 ∷ []) (number ∷ method ∷ 0 ∷ [])) ys
    → Written ys (at + 8) (figure_bytes ns) zs → Written xs at (stated_entry number method ns) zs
unfolding stated_entry packed bytes_of
entry-written number method ns p q = written_then p q refl

pub header_written : (year n : ℕ) (ns : List ℕ) {xs ys zs : List ℕ} → Written xs 0 (stated_front year n) ys → Written ys 24 (figure_bytes ns) zs
    → Written xs 0 (stated_header year n ns) zs
unfolding stated_header stated_front packed bytes_of
header_written year n ns p q = written_then p q refl

-- the bytes of an entry and of a report's header, as the meaning has them
pub entry-stated : (e : Entry) → length e.masses ≡ gas_count → stated_entry e.number e.method (figures e) ≡ entry_bytes e
unfolding stated_entry figure_bytes entry_bytes
entry-stated e g = ap (λ (n : ℕ). packed (4 ∷ 1 ∷ 3 ∷ []) (e.number ∷ e.method ∷ 0 ∷ []) ++ packed (replicate n 8) (figures e)) (length-figures e g)

pub header_stated : (year : ℕ) (es : List Entry) → stated_header year (length es) (totals es) ≡ report_header year es
unfolding stated_header stated_front figure_bytes report_header
header_stated year es = ap (λ (n : ℕ). stated_front year (length es) ++ packed (replicate n 8) (totals es)) (length-totals es)

-- an entry that is copied as it stands
module _ (b : List ℕ) (i : ℕ) (h : Bytes b) (r : Readable b) (l : i < entry_count b) where
  entry-room : entry_length ≤ length (entry_at b i)
  entry-room = rw (length-drop (entries_at + entry_length * i) b) (omega (arith, r.filled))

  pub entry-stands : entry_bytes (entry_in (entry_at b i)) ≡ take entry_length (entry_at b i)
  entry-stands =
      let e = (formed b r.right).entry i l in
      entry-again (entry_at b i) e.zeros e.right (bytes_drop (entries_at + entry_length * i) b h) entry-room

  pub entry_carried : {spare₀ spare xs ys : List ℕ} {at : ℕ} → length spare₀ ≡ entry_length
      → Written spare₀ 0 (take (entries_at + entry_length * i + entry_length - (entries_at + entry_length * i)) (entry_at b i)) spare → Written xs at spare ys
      → Written xs at (entry_bytes (entry_in (entry_at b i))) ys
  unfolding splice
  entry_carried {spare₀} {spare} z w v =
      let q : entries_at + entry_length * i + entry_length - (entries_at + entry_length * i) ≡ entry_length = omega arith in
      let u : Written spare₀ 0 (take entry_length (entry_at b i)) spare = rw q at w in
      let n : length (take entry_length (entry_at b i)) ≡ entry_length = length-take-le entry_length (entry_at b i) entry-room in
      let s : spare ≡ take entry_length (entry_at b i) = u.is ∙ rw (n, drop_of_length-le spare₀ {i = 0 + entry_length} (omega arith)) (append-nil (take entry_length (entry_at b i))) in
      same_bytes (s ∙ sym entry-stands) v
