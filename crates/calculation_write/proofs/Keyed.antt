-- The entries in the order of the keys are the entries in the order of their numbers. Assumes nothing.
use mathlib.Core.List.{List, map, map-map}
use mathlib.Core.Logic.{◌≢◌}
use mathlib.Core.Path.{◌≡◌, refl, sym, ap, ◌∙◌}
use Prim.Native.Nat.{ℕ, ◌+◌, ◌*◌, ◌<◌}
use native.Mathlib.Decide.{dec_lt}
use native.Mathlib.Omega.{arith}
use borrow.Author.Tests.{le-leb, lt-leb}
use lib.Dec.{leb}
use Rattle.basis.specs.Answers.{Passes, first_refusal}
use Rattle.basis.specs.Lists.{count_up, sorted_by}
use Rattle.basis.proofs.Lists.{AllAlike, sort_map}
use Rattle.basis.proofs.ByIndex.{same-by_index, alike_by_index}
use Rattle.sort_merge.specs.Order.{itself}
use Rattle.meaning.specs.Register.{source_count, most_sources, source_entry, number_in, source_at, sources_of, register_tests}
use Rattle.meaning.specs.Report.{Entry, entry_of, in_order}
use Rattle.meaning.specs.Calls.{entries_for}
use Rattle.register_order.specs.Keys.{key_at, keys_of, sorted_keys}
use Rattle.register_order.proofs.Tested.{passed_headed}
use Rattle.register_order.proofs.Accepted.{passed-once, passed-parts}
use Rattle.calculation_write.specs.Ready.{entry_of_key}

-- keys compare as their numbers do, where those differ
compared : (x y i j : ℕ) → i < most_sources → j < most_sources → x ≢ y → leb (x * most_sources + i) (y * most_sources + j) ≡ leb x y
compared x y i j l m d = by (dec_lt y x)
  where
    by : Dec (y < x) → leb (x * most_sources + i) (y * most_sources + j) ≡ leb x y
    by (yes h) = lt-leb (x * most_sources + i) (y * most_sources + j) (omega arith) ∙ sym (lt-leb x y h)
    by (no h) = le-leb (x * most_sources + i) (y * most_sources + j) (omega arith) ∙ sym (le-leb x y (omega arith))

module _ (b : List ℕ) (p : first_refusal (register_tests b) ≡ Passes) where
  abbrev n : ℕ
  n = source_count b

  abbrev number : ℕ → ℕ
  number i = number_in (source_entry b i)

  key_entry : (i : ℕ) → i < n → entry_of_key b (key_at b i) ≡ entry_of (source_at b i)
  unfolding entry_of_key
  key_entry i l = rw (passed-parts b p i l).1

  number_is : (i : ℕ) → (entry_of (source_at b i)).number ≡ number i
  unfolding entry_of source_at
  number_is i = refl

  key_number : (i : ℕ) → i < n → (entry_of_key b (key_at b i)).number ≡ number i
  key_number i l = ap (λ (e : Entry). e.number) (key_entry i l) ∙ number_is i

  keys_compared : (i j : ℕ) → i < j → j < n → leb (key_at b i) (key_at b j) ≡ leb (number i) (number j)
  unfolding key_at
  keys_compared i j l m =
      let few = (passed_headed b p).sources in
      compared (number i) (number j) i j (omega arith) (omega arith) (passed-once b p i j l m)

  alike : (i j : ℕ) → i < j → j < n → leb (key_at b i) (key_at b j) ≡ leb (entry_of_key b (key_at b i)).number (entry_of_key b (key_at b j)).number
  alike i j l m = rw (key_number i (omega arith), key_number j m) (keys_compared i j l m)

  -- in the order of the table the entries by key are those by source
  table-entries : map (entry_of_key b) (keys_of b) ≡ map entry_of (sources_of b)
  unfolding keys_of sources_of
  table-entries =
      map-map (entry_of_key b) (key_at b) (count_up 0 n)
      ∙ same-by_index (λ i. entry_of_key b (key_at b i)) (λ i. entry_of (source_at b i)) n 0 (λ i z l. key_entry i (omega arith))
      ∙ sym (map-map entry_of (source_at b) (count_up 0 n))

  all_alike : AllAlike (entry_of_key b) itself (λ e. e.number) (keys_of b)
  unfolding keys_of
  all_alike = alike_by_index (entry_of_key b) itself (λ e. e.number) (key_at b) n 0 (λ i j z l m. alike i j l (omega arith))

  pub keys_in_order : map (entry_of_key b) (sorted_keys b) ≡ entries_for (sources_of b)
  unfolding sorted_keys entries_for in_order
  keys_in_order =
      sort_map (entry_of_key b) itself (λ e. e.number) (keys_of b) all_alike ∙ ap (sorted_by (λ (e : Entry). e.number)) table-entries
