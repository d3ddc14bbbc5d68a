-- Demand 3, over any verdict of sources and any writer of reports: however sources are dealt and reports are combined, the whole comes out. Assumes nothing.
use mathlib.Core.List.Permᴰ
use mathlib.Core.List.{List, [], ◌∷◌, ◌++◌, map, append-nil, append_assoc, nil≢cons, cons≢nil, head-eq_of_cons-eq, tail-eq_of_cons-eq, Permᴰ}
use mathlib.Core.Logic.{◌≢◌}
use mathlib.Core.Path.{◌≡◌, refl, sym, ap, ap₂, subst, subst⁻¹, subst₂, ◌∙◌}
use Prim.Native.Nat.{ℕ, suc, ◌+◌, ◌≤◌}
use native.Mathlib.Omega.{arith}
use lib.ListN.{length, length-append}
use Rattle.basis.proofs.Lists.{each-split}
use Rattle.basis.specs.Lists.{Each, joined, sorted_by}
use Rattle.basis.specs.Answers.{Outcome}
use Rattle.demands.specs.Valid.{Distinct}
use Rattle.demands.specs.Trees.{Tree, report, combine, leaves, wrote, Accepted, result, EachAccepted, entries, Room}
use Rattle.demands.proofs.Order.{each_perm, distinct_perm, sorted_perm}

pub distinct_split : {A : Type 0} (key : A → ℕ) (xs ys : List A) → Distinct key (xs ++ ys) → Distinct key xs × Distinct key ys
distinct_split key [] ys h = (tt, h)
distinct_split key (x ∷ xs) ys h =
    let r = distinct_split key xs ys h.1 in
    (((each-split (λ y. key x ≢ key y) xs ys h.0).0, r.0), r.1)

pub joined_append : {A : Type 0} (xs ys : List (List A)) → joined (xs ++ ys) ≡ joined xs ++ joined ys
unfolding joined
joined_append [] ys = refl
joined_append (x ∷ xs) ys = ap (λ (l : List _). x ++ l) (joined_append xs ys) ∙ sym (append_assoc x (joined xs) (joined ys))

-- a list that is made of two is made of two lists
pub map-split : {A B : Type 0} (f : A → B) (xs ys : List B) (zs : List A) → xs ++ ys ≡ map f zs
    → (us : List A) × (vs : List A) × (xs ≡ map f us) × (ys ≡ map f vs) × (us ++ vs ≡ zs)
map-split f [] ys zs e = ([], zs, refl, e, refl)
map-split f (x ∷ xs) ys [] e = absurd (cons≢nil e)
map-split f (x ∷ xs) ys (z ∷ zs) e =
    let r = map-split f xs ys zs (tail-eq_of_cons-eq e) in
    (z ∷ r.0, r.1, ap₂ ◌∷◌ (head-eq_of_cons-eq e) r.2, r.3, ap (λ (l : List _). z ∷ l) r.4)

-- what is dealt anew of what was made is made of what is dealt anew
pub perm_map : {A B : Type 0} (f : A → B) {ls ms : List B} → Permᴰ ls ms → (xs : List A) → ms ≡ map f xs → (ys : List A) × (ls ≡ map f ys) × Permᴰ ys xs
perm_map f Permᴰ.nil [] e = ([], refl, Permᴰ.nil)
perm_map f Permᴰ.nil (x ∷ xs) e = absurd (nil≢cons e)
perm_map f (Permᴰ.cons q d) [] e = absurd (cons≢nil e)
perm_map f (Permᴰ.cons q d) (x ∷ xs) e =
    let r = perm_map f d xs (tail-eq_of_cons-eq e) in
    (x ∷ r.0, ap₂ ◌∷◌ (q ∙ head-eq_of_cons-eq e) r.1, Permᴰ.cons refl r.2)
perm_map f (Permᴰ.swap p q) [] e = absurd (cons≢nil e)
perm_map f (Permᴰ.swap p q) (x ∷ []) e = absurd (cons≢nil (tail-eq_of_cons-eq e))
perm_map f (Permᴰ.swap p q) (x ∷ y ∷ xs) e =
    let t = tail-eq_of_cons-eq e in
    (y ∷ x ∷ xs, ap₂ ◌∷◌ (p ∙ head-eq_of_cons-eq t) (ap₂ ◌∷◌ (q ∙ head-eq_of_cons-eq e) (tail-eq_of_cons-eq t)), Permᴰ.swap refl refl)
perm_map f (Permᴰ.trans d g) xs e =
    let r = perm_map f g xs e in
    let s = perm_map f d r.0 r.1 in
    (s.0, s.1, Permᴰ.trans s.2 r.2)

pub joined_perm : {A : Type 0} {xs ys : List (List A)} → Permᴰ xs ys → Permᴰ (joined xs) (joined ys)
unfolding joined
joined_perm Permᴰ.nil = Permᴰ.nil
joined_perm (Permᴰ.cons {b = b} {l₁ = l₁} {l₂ = l₂} e d) = subst⁻¹ (λ (a : List _). Permᴰ (a ++ joined l₁) (b ++ joined l₂)) e (Permᴰ.append_left b (joined_perm d))
joined_perm (Permᴰ.swap {a = a} {b = b} {l = l} e f) =
    subst₂ (λ (c d : List _). Permᴰ (a ++ (b ++ joined l)) (c ++ (d ++ joined l))) f e
    (subst₂ (λ (u v : List _). Permᴰ u v) (append_assoc a b (joined l)) (append_assoc b a (joined l)) (Permᴰ.append_right (joined l) (Permᴰ.append_comm a b)))
joined_perm (Permᴰ.trans d f) = Permᴰ.trans (joined_perm d) (joined_perm f)

pub length_perm : {A : Type 0} {xs ys : List A} → Permᴰ xs ys → length xs ≡ length ys
length_perm Permᴰ.nil = refl
length_perm (Permᴰ.cons e d) = ap suc (length_perm d)
length_perm (Permᴰ.swap e f) = refl
length_perm (Permᴰ.trans d f) = length_perm d ∙ length_perm f

-- sources with numbers, entries with keys, a verdict for each source, a writer of a year and entries in order, and a combiner
module _ {S E : Type 0} (number : S → ℕ) (key : E → ℕ) (entry : S → E) (Sound : S → Type 0) (Year : ℕ → Type 0) (write : ℕ → List E → List ℕ)
    (count : List ℕ → ℕ) (needed : ℕ → ℕ) (most : ℕ) (combines : List ℕ → List ℕ → List ℕ → Outcome)
  where
    abbrev pub report_of : ℕ → List S → List ℕ
    report_of y ss = write y (sorted_by key (map entry ss))

    -- sources that make a report: each sound, no number twice, not too many
    pub record Makes (y : ℕ) (ss : List S) : Type 0 where
      pub year : Year y
      pub sound : Each Sound ss
      pub once : Distinct number ss
      pub few : length ss ≤ most

    -- what is asked of them: a report states its count, and two that go together combine
    pub record Reporting : Type 0 where
      pub keyed : (s : S) → key (entry s) ≡ number s
      pub counted : (y : ℕ) (ss : List S) → Makes y ss → count (report_of y ss) ≡ length ss
      pub combined : (y : ℕ) (ss ts : List S) → Makes y (ss ++ ts) → (buffer : List ℕ) → needed (length ss + length ts) ≤ length buffer
          → Accepted (combines (report_of y ss) (report_of y ts) buffer) × (wrote (combines (report_of y ss) (report_of y ts) buffer) ≡ report_of y (ss ++ ts))

    pub makes-split : (y : ℕ) (ss ts : List S) → Makes y (ss ++ ts) → Makes y ss × Makes y ts
    makes-split y ss ts m =
        let e = each-split Sound ss ts m.sound in
        let d = distinct_split number ss ts m.once in
        let l = rw (length-append ss ts) at m.few in
        (record { year = m.year; sound = e.0; once = d.0; few = omega arith }, record { year = m.year; sound = e.1; once = d.1; few = omega arith })

    pub makes_perm : (y : ℕ) {ss ts : List S} → Permᴰ ss ts → Makes y ss → Makes y ts
    makes_perm y d m =
        record { year = m.year; sound = each_perm Sound d m.sound; once = distinct_perm number d m.once; few = rw (length_perm d) at m.few }

    module _ (r : Reporting) where
      -- a tree of reports, each made of some sources, comes to the report of all of them
      tree : (y : ℕ) (t : Tree) (sss : List (List S)) → leaves t ≡ map (report_of y) sss → Makes y (joined sss) → Room count needed t
          → EachAccepted combines t × (result combines t ≡ report_of y (joined sss)) × (entries count needed t ≡ length (joined sss))
      unfolding joined
      tree y (report b) [] e m o = absurd (cons≢nil e)
      tree y (report b) (ss ∷ []) e m o =
          let f : b ≡ report_of y (ss ++ []) = head-eq_of_cons-eq e ∙ ap (report_of y) (sym (append-nil ss)) in
          (tt, f, ap count f ∙ r.counted y (ss ++ []) m)
      tree y (report b) (ss ∷ ts ∷ sss) e m o = absurd (nil≢cons (tail-eq_of_cons-eq e))
      tree y (combine t u buffer) sss e m o =
          let p = map-split (report_of y) (leaves t) (leaves u) sss e in
          let f : joined sss ≡ joined p.0 ++ joined p.1 = ap joined (sym p.4) ∙ joined_append p.0 p.1 in
          let g = subst (Makes y) f m in
          let h = makes-split y (joined p.0) (joined p.1) g in
          let a = tree y t p.0 p.2 h.0 o.0 in
          let b = tree y u p.1 p.3 h.1 o.1 in
          let l : entries count needed t + entries count needed u ≡ length (joined p.0) + length (joined p.1) = ap₂ ◌+◌ a.2 b.2 in
          let c = r.combined y (joined p.0) (joined p.1) g buffer (subst (λ (n : ℕ). needed n ≤ length buffer) l o.2) in
          let d : combines (result combines t) (result combines u) buffer ≡ combines (report_of y (joined p.0)) (report_of y (joined p.1)) buffer =
          ap₂ (λ (v w : List ℕ). combines v w buffer) a.1 b.1 in (
            (a.0, b.0, ap (λ (q : Outcome). q.answer.number) d ∙ c.0),
            ap wrote d ∙ c.1 ∙ ap (report_of y) (sym f),
            l ∙ sym (length-append (joined p.0) (joined p.1)) ∙ ap length (sym f),
          )

      keys_distinct : (ss : List S) → Distinct number ss → Distinct key (map entry ss)
      keys_distinct [] d = tt
      keys_distinct (s ∷ ss) d = (each_keyed s ss d.0, keys_distinct ss d.1)
        where
          each_keyed : (s : S) (ss : List S) → Each (λ t. number s ≢ number t) ss → Each (λ e. key (entry s) ≢ key e) (map entry ss)
          each_keyed s [] h = tt
          each_keyed s (t ∷ ts) h = (λ e. h.0 (sym (r.keyed s) ∙ e ∙ r.keyed t), each_keyed s ts h.1)

      -- the report of sources does not go by their order
      pub report_perm : (y : ℕ) {ss ts : List S} → Permᴰ ss ts → Distinct number ss → report_of y ss ≡ report_of y ts
      report_perm y {ss} d o = ap (write y) (sorted_perm key (Permᴰ.map entry d) (keys_distinct ss o))

      -- sources dealt out in any way, their reports combined in any order and any grouping: the whole report
      pub dealt : (y : ℕ) (ss : List S) (sss : List (List S)) → Permᴰ (joined sss) ss → Makes y ss → (t : Tree) → Permᴰ (leaves t) (map (report_of y) sss)
          → Room count needed t → EachAccepted combines t × (result combines t ≡ report_of y ss)
      dealt y ss sss d m t l o =
          let p = perm_map (report_of y) l sss refl in
          let f = Permᴰ.trans (joined_perm p.2) d in
          let g = makes_perm y (Permᴰ.symm f) m in
          let q = tree y t p.0 p.1 g o in
          (q.0, q.1 ∙ report_perm y f g.once)
