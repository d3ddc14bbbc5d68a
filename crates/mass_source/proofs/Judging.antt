-- Sums in whole grams, gas by gas; what a source's lines come to. Assumes nothing.
use Rattle.std.specs.Prelude.{Result, Ok, Err, IsErrAnd, Option, Some, None, ok_or}
use mathlib.Core.Bool.{false}
use mathlib.Core.List.{List, [], ◌∷◌, ◌++◌, map}
use mathlib.Core.Path.{◌≡◌, refl, sym, ap, subst, ◌∙◌}
use Prim.Native.Nat.{ℕ, zero, suc, ◌+◌, ◌<◌}
use native.Mathlib.Omega.{arith}
use borrow.Author.Tests.{le-ltb, lt-ltb}
use lib.Dec.{ltb}
use lib.ListN.{length, get_or, set, length-set, length-append}
use lib.Seq.{get_or-set_same, get_or-set_other}
use Rattle.basis.specs.Lists.{count_up, Each}
use Rattle.basis.proofs.Lists.{at_each}
use Rattle.basis.proofs.Counting.{counted_all}
use Rattle.meaning.specs.Masses.{gas_count, rounded, equivalent, limit}
use Rattle.mass_exact.specs.declared.Amount.{Amount}
use Rattle.mass_exact.specs.Equivalents.{within_limit}
use Rattle.mass_exact.proofs.Equivalents.{some-within, none-above}
use Rattle.std.specs.Iterator.{Yields}
use Rattle.std.specs.Array.{list_steps}
use Rattle.mass_exact.specs.Amounts.{gram, value, nothing, Room, Subtracted}
use Rattle.mass_exact.proofs.Amounts.{room-left}
use Rattle.mass_sums.specs.declared.Sums.{Sums}
use Rattle.mass_sums.specs.Sums.{Roomy}
use Rattle.mass_source.specs.declared.Fault.{Fault}
use Rattle.mass_source.specs.declared.Fault.TheVariants.{AboveLimit}
use Rattle.mass_source.specs.Source.{AllRoomy, grams_at, grams_of, Judged, WeighedBy, net_grams, net_masses, JudgedBy}

-- what holds of each of an array holds of the one that is next
next_held : {A : Type 0} (P : A → Type 0) (s xs t : List A) {x : A} {u : List A} → Each P s → Yields list_steps s xs t → t ≡ x ∷ u → P x
next_held P s [] t e y n = let f : Each P (_ ∷ _) = rw (y, n) at e in f.0
next_held P s (z ∷ xs) t e (j, g, y) n = let f : Each P (z ∷ j) = rw g at e in next_held P j xs t f.1 y n

-- each amount has room to be rounded when it is its turn
pub roomy_turn : {amounts t : List Amount} {x : Amount} {u : List Amount} (xs : List Amount) → AllRoomy amounts → Yields list_steps amounts xs t → t ≡ x ∷ u → Room 0 x
roomy_turn {amounts} {t} xs h = next_held (Room 0) amounts xs t (at_each (Room 0) amounts nothing (λ i l. h.each i (omega (arith, h.gases))))

-- masses that are rounded each from its own amount
pub rounded_each : (amounts : List Amount) {masses : List ℕ} → length masses ≡ gas_count
    → ((gas : ℕ) → gas < gas_count → get_or masses gas 0 ≡ rounded (value (get_or amounts gas nothing)) gram) → masses ≡ grams_of amounts
unfolding grams_of
rounded_each amounts {masses} e f = sym (counted_all (grams_at amounts) 0 masses (λ i l. sym (f i (omega arith)))) ∙ ap (λ (n : ℕ). map (grams_at amounts) (count_up 0 n)) e

-- the fault that is handed on where there is no equivalent
abbrev fault_given : Result ℕ Fault → Fault
fault_given (Ok n) = AboveLimit
fault_given (Err fault) = fault

-- the equivalent and its limit
pub weighed-above : {ms : List ℕ} {w : Option ℕ} {fault : Fault} (r : Judged) → w ≡ within_limit ms → w ≡ None → Err fault ≡ ok_or w AboveLimit
    → IsErrAnd r (λ e. e ≡ fault) → WeighedBy ms r
weighed-above (Ok figures) v a t h = elim h [ ]
weighed-above {ms} (Err e) v a t h =
    let f : e ≡ AboveLimit = h ∙ ap fault_given (t ∙ ap (λ (o : Option ℕ). ok_or o AboveLimit) a) in
    rw f (record { size = refl; fault = rw (lt-ltb limit (equivalent ms) (none-above ms (sym v ∙ a))); figures = refl })

pub weighed-within : {ms : List ℕ} {w : Option ℕ} {n : ℕ} {figures : List ℕ} → length ms ≡ gas_count → w ≡ within_limit ms → w ≡ Some n → figures ≡ ms ++ (n ∷ []) → WeighedBy ms (Ok figures)
weighed-within {ms} {n = n} m e a f =
    let s = some-within ms (sym e ∙ a) in
    record {
      size = ap length f ∙ length-append ms (n ∷ []) ∙ ap (λ (k : ℕ). k + 1) m;
      fault = rw (le-ltb limit (equivalent ms) (omega (arith, s.0, s.1)));
      figures = f ∙ ap (λ (x : ℕ). ms ++ (x ∷ [])) s.1;
    }

-- CO2 with what is taken from it
abbrev pub co2 : Sums → Amount
co2 s = get_or s.added 0 nothing

module _ {s : Sums} {net : Amount} (room : Roomy 0 s) (left : Subtracted (co2 s) s.taken net) where
  length_net : length (set s.added 0 net) ≡ gas_count
  length_net = length-set s.added 0 net ∙ room.gases

  first_net : get_or (set s.added 0 net) 0 nothing ≡ net
  first_net = get_or-set_same s.added 0 net nothing (omega (arith, room.gases))

  later_net : (gas : ℕ) → get_or (set s.added 0 net) (suc gas) nothing ≡ get_or s.added (suc gas) nothing
  later_net gas = get_or-set_other s.added 0 (suc gas) net nothing (omega arith)

  pub net_roomy : AllRoomy (set s.added 0 net)
  net_roomy = record { gases = length_net; each = each }
    where
      each : (gas : ℕ) → gas < gas_count → Room 0 (get_or (set s.added 0 net) gas nothing)
      each zero l = rw first_net (room-left (room.added 0 l) left)
      each (suc gas) l = rw (later_net gas) (room.added (suc gas) l)

  net_is : grams_of (set s.added 0 net) ≡ net_masses s
  unfolding grams_of net_masses net_grams count_up
  net_is = rw (first_net, later_net 0, later_net 1, left.is)

  pub judged-weighed : {masses : List ℕ} {r : Judged} → ltb (value (co2 s)) (value s.taken) ≡ false → masses ≡ grams_of (set s.added 0 net) → WeighedBy masses r → JudgedBy s r
  judged-weighed {masses} {r} h e w =
      let v : WeighedBy (net_masses s) r = subst (λ (ms : List ℕ). WeighedBy ms r) (e ∙ net_is) w in
      record { size = v.size; fault = rw h v.fault; figures = v.figures }
