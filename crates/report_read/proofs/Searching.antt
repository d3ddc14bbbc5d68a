-- Where a number stands in a report whose numbers ascend: what a binary search over its entries answers. Assumes nothing.
use mathlib.Core.Bool.{Bool, true, false, cond}
use mathlib.Core.List.{List, [], map}
use mathlib.Core.Path.{◌≡◌, refl, sym, ap, ◌∙◌}
use Prim.Native.Nat.{ℕ, zero, suc, ◌+◌, ◌*◌, ◌-◌, ◌/◌, ◌≤◌, ◌<◌}
use native.Mathlib.Decide.{dec_lt}
use native.Mathlib.Nat.{add-zero}
use native.Mathlib.Omega.{arith}
use borrow.Author.Tests.{ne_eqb, eq-eqb, lt-ltb, le-ltb, ltb-true, ltb-false}
use lib.Dec.{ltb}
use lib.ListN.{length, get_or, take, drop, length-map, length-drop}
use lib.Seq.{drop-drop, take_all}
use Rattle.std.specs.Prelude.{Some, None, Result, Ok, Err}
use Rattle.std.specs.Ordering.{nat_cmp}
use Rattle.std.specs.Result.{result_ok}
use Rattle.std.specs.Simd.{first_chunks}
use Rattle.std.specs.List.Sorted.{IsBinarySearchResult, IsSearchInRange}
use Rattle.std.proofs.lemmas.Option.{cond_some, none-some}
use Rattle.std.proofs.lemmas.List.{get_or-map, take-take}
use Rattle.std.proofs.lemmas.List.Sorted.{searched}
use Rattle.basis.specs.Bytes.{number_of, number_at}
use Rattle.basis.specs.First.{first}
use Rattle.basis.proofs.First.{first-is, first-end}
use Rattle.meaning.specs.Report.{entries_at, entry_length, entry_count, number_before, entry_in}
use Rattle.meaning.proofs.Reports.{formed}
use Rattle.report_read.specs.Readable.{Readable}
use Rattle.report_read.specs.Entries.{entry_number, numbered_at, index_numbered}

-- numbers ascend
module _ {b : List ℕ} (r : Readable b) where
  rising : (k i : ℕ) → i + k < entry_count b → entry_number b i ≤ entry_number b (i + k)
  unfolding entry_number number_before
  rising zero i l = rw (add-zero i) (omega arith)
  rising (suc k) i l =
      let q : i + suc k ≡ suc (i + k) = omega arith in
      rw q (omega (arith, rising k i (omega arith), ((formed b r.right).entry (suc (i + k)) (rw q at l)).above))

  ascending : (i j : ℕ) → i ≤ j → j < entry_count b → entry_number b i ≤ entry_number b j
  ascending i j p l = let q : i + (j - i) ≡ j = omega arith in rw q at (rising (j - i) i (omega arith))

  -- and no two are the same
  apart : (i j : ℕ) → i < j → j < entry_count b → entry_number b i < entry_number b j
  unfolding entry_number number_before
  apart i zero p l = absurd (omega arith)
  apart i (suc j) p l = omega (arith, ascending i j (omega arith) (omega arith), ((formed b r.right).entry (suc j) l).above)

-- the k-th of some chunks
chunk_at : (n count : ℕ) (xs : List ℕ) (k : ℕ) → k < count → get_or (first_chunks n count xs) k [] ≡ take n (drop (n * k) xs)
chunk_at n zero xs k l = absurd (omega arith)
chunk_at n (suc count) xs zero l = let z : n * 0 ≡ 0 = omega arith in rw z refl
chunk_at n (suc count) xs (suc k) l =
    let s : n + n * k ≡ n * suc k = omega arith in
    chunk_at n count (drop n xs) k (omega arith) ∙ ap (take n) (rw s at (drop-drop (n * k) n xs))

-- a search by key among any elements is one among their keys
by_key : {A : Type 0} (key : A → ℕ) (d : A) (xs : List A) (x : ℕ) (r : Result ℕ ℕ) → IsSearchInRange r (length xs)
    → IsBinarySearchResult (λ y. nat_cmp (key y) x) xs r → IsBinarySearchResult (λ y. nat_cmp y x) (map key xs) r
by_key key d xs x (Ok i) l h = λ e. rw (get_or-map key xs i d e l) (h d)
by_key key d xs x (Err i) l h =
    λ rise.
    let size : length (map key xs) ≡ length xs = length-map xs key in
    let parted = h (λ i j e p q. let l : i < length xs = omega arith in
    rw (get_or-map key xs i e 0 l, get_or-map key xs j e 0 q) at (rise i j 0 p (rw size q))) in (
      λ k e p q. let m : k < length xs = omega (arith, l) in rw (get_or-map key xs k d e m) (parted.0 k d p q),
      λ k e p q. let m : k < length xs = omega arith in rw (get_or-map key xs k d e m) (parted.1 k d p m),
    )

-- below a place all are less than x, and from it on more
neither : {i : ℕ} (ns : List ℕ) (x : ℕ) → ((k : ℕ) → k < i → get_or ns k 0 < x) → ((k : ℕ) → i ≤ k → k < length ns → x < get_or ns k 0)
    → (k : ℕ) → k < length ns → get_or ns k 0 ≡ x → ⊥
neither {i} ns x low high k m e = by (dec_lt k i)
  where
    by : Dec (k < i) → ⊥
    by (yes p) = omega (arith, low k p)
    by (no p) = omega (arith, high k (omega arith) m)

-- the bytes behind the header, as they are lent
abbrev behind_header : List ℕ → List ℕ
behind_header b = take (length b - entries_at) (drop entries_at b)

-- what a search among the entries answers
module _ {b : List ℕ} (r : Readable b) {entries : List (List ℕ)}
    (e : entries ≡ first_chunks entry_length (length (behind_header b) / entry_length) (behind_header b)) (n : length entries ≡ length (behind_header b) / entry_length) where
  whole : behind_header b ≡ drop entries_at b
  whole = take_all (length b - entries_at) (drop entries_at b) (omega (arith, length-drop entries_at b))

  all_entries : length (behind_header b) / entry_length ≡ entry_count b
  all_entries = rw whole (omega (arith, r.filled, length-drop entries_at b))

  number_of_entry : (k : ℕ) → k < entry_count b → get_or (map (λ y. number_at 4 y 0) entries) k 0 ≡ entry_number b k
  unfolding entry_number entry_in number_at
  number_of_entry k l =
      let m : k < length entries = omega (arith, all_entries) in
      let c : get_or entries k [] ≡ take entry_length (drop (entry_length * k) (drop entries_at b)) = rw (e, all_entries, whole) (chunk_at entry_length (entry_count b) (drop entries_at b) k l) in
      rw (get_or-map (λ y. number_of (take 4 (drop 0 y))) entries k [] 0 m, c, take-take 4 entry_length (drop (entry_length * k) (drop entries_at b)) (omega arith), drop-drop (entry_length * k) entries_at b) refl

  numbers_rise : (i j : ℕ) → i ≤ j → j < length (map (λ y. number_at 4 y 0) entries) → get_or (map (λ y. number_at 4 y 0) entries) i 0 ≤ get_or (map (λ y. number_at 4 y 0) entries) j 0
  numbers_rise i j p q =
      let size = length-map entries (λ y. number_at 4 y 0) in
      let m : j < entry_count b = omega (arith, size, all_entries) in
      rw (number_of_entry i (omega arith), number_of_entry j m) (ascending r i j p m)

  module _ (x : ℕ) where
    found : (i : ℕ) → i < entry_count b → entry_number b i ≡ x → Some i ≡ index_numbered b x
    unfolding index_numbered numbered_at
    found i l h =
        let f = first-is (numbered_at b x) (entry_count b) i l (λ j p. ne_eqb (entry_number b j) x (λ q. omega (arith, apart r j i p l))) (eq-eqb _ _ h) in
        rw (f, lt-ltb i (entry_count b) l) refl

    absent : ((j : ℕ) → j < entry_count b → entry_number b j ≡ x → ⊥) → None ≡ index_numbered b x
    unfolding index_numbered numbered_at
    absent h =
        let f = first-end (numbered_at b x) (entry_count b) (λ j p. ne_eqb (entry_number b j) x (h j p)) in
        rw (f, le-ltb (entry_count b) (entry_count b) (omega arith)) refl

    pub found-is : (answer : Result ℕ ℕ) → IsSearchInRange answer (length entries) → IsBinarySearchResult (λ y. nat_cmp (number_at 4 y 0) x) entries answer
        → result_ok answer ≡ index_numbered b x
    found-is (Ok i) l s =
        let h = searched (map (λ y. number_at 4 y 0) entries) x (Ok i) (by_key (λ y. number_at 4 y 0) [] entries x (Ok i) l s) numbers_rise in
        let m : i < entry_count b = omega (arith, l, all_entries) in
        found i m (sym (number_of_entry i m) ∙ h.1)
    found-is (Err i) l s =
        let h = searched (map (λ y. number_at 4 y 0) entries) x (Err i) (by_key (λ y. number_at 4 y 0) [] entries x (Err i) l s) numbers_rise in
        absent (λ k m q. neither (map (λ y. number_at 4 y 0) entries) x h.1 h.2 k (omega (arith, all_entries, length-map entries (λ y. number_at 4 y 0))) (number_of_entry k m ∙ q))

-- where there is an index, it is the first with the number, and where there is none, no entry has it
module _ (b : List ℕ) (x : ℕ) where
  pub index-some : {i : ℕ} → index_numbered b x ≡ Some i → (i ≡ first (numbered_at b x) (entry_count b)) × (i < entry_count b)
  unfolding index_numbered
  index-some e = let s = cond_some (ltb (first (numbered_at b x) (entry_count b)) (entry_count b)) _ _ e in (sym s.1, rw s.1 at (ltb-true _ _ s.0))

  pub index-none : index_numbered b x ≡ None → entry_count b ≤ first (numbered_at b x) (entry_count b)
  unfolding index_numbered
  index-none = by _ refl
    where
      by : (t : Bool) → ltb (first (numbered_at b x) (entry_count b)) (entry_count b) ≡ t → cond t (Some (first (numbered_at b x) (entry_count b))) None ≡ None
          → entry_count b ≤ first (numbered_at b x) (entry_count b)
      by true t e = absurd (none-some _ (sym e))
      by false t e = ltb-false _ _ t
