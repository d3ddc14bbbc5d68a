-- The words that the statements share with the meaning are what the library's functions say. Assumes nothing.
use mathlib.Core.List.{List, [], ◌∷◌, flatten, foldr}
use mathlib.Core.Path.{◌≡◌, refl, sym, ap, ap₂, ◌∙◌}
use Prim.Native.Nat.{ℕ, zero, suc, ◌+◌, ◌*◌, ◌^◌, ◌<◌}
use native.Mathlib.Nat.{mul_comm}
use native.Mathlib.Numerals.{add-one}
use native.Mathlib.Omega.{arith}
use lib.ListN.{get_or}
use Rattle.basis.specs.Bytes.{number_of, number_at}
use Rattle.basis.specs.Lists.{sum, joined}
use Rattle.basis.proofs.Bytes.{number_at-parts}
use Rattle.basis.proofs.Counting.{get_d_count_up}
use Rattle.basis.proofs.Lists.{length-count_up, each_at, at_each}
use Rattle.basis.proofs.Rows.{each-bytes}
use Rattle.demands.specs.Words.{sum_below, Words}

one_byte : (bs : List ℕ) (at : ℕ) → number_at 1 bs at ≡ get_or bs at 0
unfolding number_at number_of
one_byte [] zero = refl
one_byte [] (suc at) = refl
one_byte (b ∷ bs) zero = omega arith
one_byte (b ∷ bs) (suc at) = one_byte bs at

lowest_first : (k : ℕ) (bs : List ℕ) (at : ℕ) → number_at k bs at ≡ sum_below k (λ i. get_or bs (at + i) 0 * 256 ^ i)
unfolding number_at number_of
lowest_first zero bs at = refl
lowest_first (suc k) bs at =
    ap (λ (n : ℕ). number_at n bs at) (sym (add-one k))
    ∙ number_at-parts k 1 bs at
    ∙ ap₂ ◌+◌ (lowest_first k bs at) (ap (λ (n : ℕ). 256 ^ k * n) (one_byte bs (at + k)) ∙ mul_comm (256 ^ k) (get_or bs (at + k) 0))

all-added : (ns : List ℕ) → sum ns ≡ foldr ◌+◌ 0 ns
unfolding sum
all-added [] = refl
all-added (n ∷ ns) = ap (n +◌) (all-added ns)

one_list : (A : Type 0) (ls : List (List A)) → joined ls ≡ flatten ls
unfolding joined flatten
one_list A [] = refl
one_list A (l ∷ ls) = rw (one_list A ls)

pub words : Words
words =
    record {
      numbers = lowest_first;
      bytes = λ bs. (λ h i l. h i, λ h. each-bytes bs (at_each (λ b. b < 256) bs 0 h));
      sums = all-added;
      counts = λ i k. (length-count_up i k, λ j l. get_d_count_up 0 k i j l);
      lists = one_list;
      every = λ A P xs x. (each_at P xs x, at_each P xs x);
      gives = λ o a bs. (λ g. (g.answers, g.leaves), λ e. record { answers = e.0; leaves = e.1 });
      shows = λ A bs base start offset size held place. (λ s. (s.holds, s.stands), λ e. record { holds = e.0; stands = e.1 });
    }
