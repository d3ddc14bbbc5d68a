-- The whole text: its length, its lines one behind another, and the answer of the call. Assumes nothing.
use Rattle.std.specs.Prelude.{Result, Ok, Err, IsErrAnd}
use mathlib.Core.List.{List, [], ◌∷◌, ◌++◌, map, append_assoc}
use mathlib.Core.Path.{◌≡◌, refl, sym, ap, ◌∙◌}
use Prim.Native.Nat.{ℕ, zero, suc, ◌+◌, ◌*◌, ◌-◌, ◌≤◌, ◌<◌}
use native.Mathlib.Nat.{add-zero, sub-zero}
use native.Mathlib.Numerals.{add-one}
use native.Mathlib.Omega.{arith}
use mir.Syntax.{w64}
use mir.Val.{Fits}
use lib.Dec.{ltb}
use lib.ListN.{length, length-append}
use Rattle.basis.specs.declared.Refusal.{Refusal}
use Rattle.basis.specs.Answers.{Verdict, Passes, refuse_if, first_refusal, answered, Gives}
use Rattle.basis.specs.Bytes.{splice, Written}
use Rattle.basis.proofs.Bytes.{length-written, written_then}
use Rattle.basis.specs.Lists.{count_up, joined}
use Rattle.meaning.specs.Report.{figure_count, entries_at, entry_length, entry_count, entry_at, entry_in, entries_of, report_year}
use Rattle.meaning.specs.Text.{decimal, text_line, report_text}
use Rattle.meaning.specs.Calls.{form_test, text}
use Rattle.meaning.proofs.Calls.{refused-gives, short-gives, made-gives}
use Rattle.meaning.proofs.Reports.{formed, count-is, length-masses, length-figures, length-totals}
use Rattle.fields.specs.Fields.{Field}
use Rattle.report_read.specs.Figures.{figures_at}
use Rattle.basis.proofs.Answers.{room-there}
use Rattle.report_read.specs.Readable.{Readable}
use Rattle.report_read.specs.Entries.{entry_number}
use Rattle.decimal_write.specs.Digits.{field, pair, Ends, Put, Placed}
use Rattle.decimal_write.proofs.Counts.{some-digit, decimal-many}
use Rattle.decimal_write.proofs.Digits.{put_none, put_before}
use Rattle.report_text.specs.Rows.{Measured, head_numbers, entry_numbers, front_fields, entry_line, entry_lines, text_of}
use Rattle.decimal_write.proofs.Fields.{length-field, second-room, first-room}
use Rattle.report_text.proofs.Rows.{totals_are, entry_read, method_read, length-figures as figures-length}

-- the lines of the entries from i on
unfoldable pub lines_from : List ℕ → ℕ → List ℕ
lines_from b i = joined (map (λ e. text_line (entry_numbers e)) (map (λ j. entry_in (entry_at b j)) (count_up i (entry_count b - i))))

text-parts : (b : List ℕ) → text_of b ≡ text_line (head_numbers b) ++ entry_lines b
unfolding report_text head_numbers entry_numbers entry_lines
text-parts b = refl

text-length : (b : List ℕ) → length (text_of b) ≡ length (text_line (head_numbers b)) + length (entry_lines b)
text-length b = ap length (text-parts b) ∙ length-append (text_line (head_numbers b)) (entry_lines b)

lines-all : (b : List ℕ) → lines_from b 0 ≡ entry_lines b
unfolding lines_from entry_lines entries_of
lines-all b = rw sub-zero

lines_next : (b : List ℕ) (i : ℕ) → i < entry_count b → lines_from b i ≡ entry_line b i ++ lines_from b (i + 1)
unfolding lines_from entry_line joined count_up
lines_next b i l = let q : entry_count b - i ≡ suc (entry_count b - (i + 1)) = omega arith in rw q

lines_none : (b : List ℕ) (i : ℕ) → entry_count b ≤ i → lines_from b i ≡ []
unfolding lines_from joined count_up
lines_none b i l = let z : entry_count b - i ≡ 0 = omega arith in rw z

-- the bytes of a line at most
abbrev line_most : ℕ
line_most = 21 * (2 + figure_count)

-- the lines before entry i are total bytes long
pub record Lengthening (b : List ℕ) (total i : ℕ) : Type 0 where
  pub low : i ≤ entry_count b
  pub rest : total + length (lines_from b i) ≡ length (text_of b)
  pub small : total ≤ line_most * (i + 1)

length-head : (b : List ℕ) → length (head_numbers b) ≡ 2 + figure_count
unfolding head_numbers
length-head b = ap (λ (k : ℕ). suc (suc k)) (length-totals (entries_of b))

length-entry : (b : List ℕ) (i : ℕ) → length (entry_numbers (entry_in (entry_at b i))) ≡ 2 + figure_count
unfolding entry_numbers
length-entry b i = ap (λ (k : ℕ). suc (suc k)) (length-figures (entry_in (entry_at b i)) (length-masses (entry_at b i)))

pub lengthening_none : (b : List ℕ) {n : ℕ} → Measured (head_numbers b) n → Lengthening b n 0
lengthening_none b m =
    record { low = omega arith; rest = omega (arith, m.is, text-length b, ap length (lines-all b)); small = omega (arith, length-head b, m.small) }

module _ {b : List ℕ} {total i : ℕ} (t : Lengthening b total i) {n : ℕ} (f : n ≡ entry_count b) where
  module _ (l : i < n) (r : Readable b) {k : ℕ} (m : Measured (entry_numbers (entry_in (entry_at b i))) k) where
    line_small : k ≤ line_most
    line_small = omega (arith, length-entry b i, m.small)

    pub lengthening_fits : Fits w64 (total + k)
    lengthening_fits = record { fits = omega (arith, line_small, t.small, f, r.few) }

    pub lengthening_more : Lengthening b (total + k) (i + 1)
    unfolding entry_line
    lengthening_more =
        let s : length (lines_from b i) ≡ length (entry_line b i) + length (lines_from b (i + 1)) =
        ap length (lines_next b i (omega (arith, f))) ∙ length-append (entry_line b i) (lines_from b (i + 1)) in
        record { low = omega (arith, f); rest = omega (arith, t.rest, m.is); small = omega (arith, line_small, t.small) }

  pub lengthening_all : n ≤ i → total ≡ length (text_of b)
  lengthening_all l = omega (arith, t.rest, ap length (lines_none b i (omega (arith, f))))

-- the lines from an entry on are not longer than all
from-within : (b : List ℕ) (i : ℕ) → i ≤ entry_count b → length (lines_from b i) ≤ length (entry_lines b)
from-within b zero l = omega (arith, ap length (lines-all b))
from-within b (suc i) l =
    let n = rw (add-one i) at (ap length (lines_next b i (omega arith))) in
    omega (arith, n, length-append (entry_line b i) (lines_from b (suc i)), from-within b i (omega arith))

-- the lines from entry i on are written
pub record Texting (b buf₀ : List ℕ) (end : ℕ) (buf : List ℕ) (p i : ℕ) : Type 0 where
  pub low : i ≤ entry_count b
  pub room : 7 + length (entry_lines b) ≤ end
  pub put : Put buf₀ p (lines_from b i) buf end

pub texting_none : (b buf : List ℕ) (end : ℕ) {n : ℕ} → n ≡ entry_count b → Readable b × Ends buf (entry_lines b) end → Texting b buf end buf end n
texting_none b buf end {n} f h =
    record { low = omega (arith, f); room = h.1.short; put = rw (lines_none b n (omega (arith, f))) (put_none buf end h.1.within) }

module _ {b buf₀ : List ℕ} {end : ℕ} {buf : List ℕ} {p i : ℕ} (t : Texting b buf₀ end buf p i) where
  pub texting_kept : length buf ≡ length buf₀
  texting_kept = t.put.same

  module _ (l : 0 < i) where
    before : lines_from b (i - 1) ≡ entry_line b (i - 1) ++ lines_from b i
    before = let q : i - 1 + 1 ≡ i = omega arith in rw q at (lines_next b (i - 1) (omega (arith, t.low)))

    pub texting_entry : i - 1 < entry_count b
    texting_entry = omega (arith, t.low)

    pub texting_room : Ends buf (entry_line b (i - 1)) p
    texting_room =
        record {
          short =
              omega
              (arith, t.room, t.put.ends, ap length before, length-append (entry_line b (i - 1)) (lines_from b i), from-within b (i - 1) (omega (arith, t.low)));
          within = omega (arith, t.put.within, t.put.ends, texting_kept);
        }

    pub texting_more : {cs : List ℕ} {q : ℕ} → Put buf q (entry_line b (i - 1)) cs p → Texting b buf₀ end cs q (i - 1)
    texting_more w = record { low = omega (arith, t.low); room = t.room; put = rw before (put_before t.put w) }

  pub texting_all : i ≤ 0 → Put buf₀ p (entry_lines b) buf end
  texting_all l = let z : i ≡ 0 = omega arith in let e : lines_from b i ≡ entry_lines b = rw z (lines-all b) in rw e at t.put

-- the figures of a line, and the two numbers before them
figures_are : {b : List ℕ} {at co2 ch4 n2o equivalent : ℕ} → Field 8 b at co2 → Field 8 b (at + 8) ch4 → Field 8 b (at + 16) n2o → Field 8 b (at + 24) equivalent
    → figures_at figure_count b at ≡ co2 ∷ ch4 ∷ n2o ∷ equivalent ∷ []
unfolding figures_at count_up
figures_are {at = at} c h n e = rw (c.is, h.is, n.is, e.is, add-zero at)

module _ {b : List ℕ} {at co2 ch4 n2o equivalent : ℕ} (c : Field 8 b at co2) (h : Field 8 b (at + 8) ch4) (n : Field 8 b (at + 16) n2o) (e : Field 8 b (at + 24) equivalent) where
  figures-parts : text_line (figures_at figure_count b at) ≡ pair co2 ch4 32 ++ pair n2o equivalent 10
  unfolding text_line pair field
  figures-parts = rw (figures_are c h n e) (simp append_assoc)

  module _ {xs : List ℕ} {end : ℕ} (r : (at + 8 * figure_count ≤ length b) × Ends xs (text_line (figures_at figure_count b at)) end) where
    pub figures-second : Ends xs (pair n2o equivalent 10) end
    figures-second = second-room (pair co2 ch4 32) (pair n2o equivalent 10) (rw figures-parts at r.1)

    module _ {ys : List ℕ} {p : ℕ} (w : Put xs p (pair n2o equivalent 10) ys end) where
      pub figures-first : Ends ys (pair co2 ch4 32) p
      figures-first = first-room (pair co2 ch4 32) (pair n2o equivalent 10) (rw figures-parts at r.1) w

      pub figures_put : {zs : List ℕ} {q : ℕ} → Put ys q (pair co2 ch4 32) zs p → Put xs q (text_line (figures_at figure_count b at)) zs end
      figures_put v = rw figures-parts (put_before w v)

line-parts : (a b : ℕ) (fs : List ℕ) → 0 < length fs → text_line (a ∷ b ∷ fs) ≡ pair a b 32 ++ text_line fs
unfolding text_line pair field
line-parts a b [] h = absurd (omega arith)
line-parts a b (f ∷ fs) h = simp append_assoc

-- the line of an entry
module _ {b : List ℕ} {i number method : ℕ} (f : number ≡ entry_number b i) (m : Field 1 b (entries_at + entry_length * i + 4) method)
    {xs : List ℕ} {end : ℕ} (h : Readable b × (i < entry_count b) × Ends xs (entry_line b i) end) where
  abbrev entry_figures : List ℕ
  entry_figures = text_line (figures_at figure_count b (entries_at + entry_length * i + 8))

  entry-parts : entry_line b i ≡ pair number method 32 ++ entry_figures
  unfolding entry_line
  entry-parts =
      rw (entry_read h.0 h.1 f, ← method_read h.0 h.1 m)
      (line-parts number method (figures_at figure_count b (entries_at + entry_length * i + 8)) (omega (arith, figures-length b (entries_at + entry_length * i + 8))))

  pub entry-figures : Ends xs entry_figures end
  entry-figures = second-room (pair number method 32) entry_figures (rw entry-parts at h.2)

  module _ {ys : List ℕ} {p : ℕ} (w : Put xs p entry_figures ys end) where
    pub entry-pair : Ends ys (pair number method 32) p
    entry-pair = first-room (pair number method 32) entry_figures (rw entry-parts at h.2) w

    pub entry_put : {zs : List ℕ} {q : ℕ} → Put ys q (pair number method 32) zs p → Put xs q (entry_line b i) zs end
    entry_put v = rw entry-parts (put_before w v)

-- the first two numbers, at the front
module _ {b : List ℕ} {year n : ℕ} (y : year ≡ report_year b) (f : n ≡ entry_count b) (xs : List ℕ) (h : Readable b × (length (front_fields b) ≤ length xs)) where
  front-parts : front_fields b ≡ field year 32 ++ field n 32
  unfolding front_fields pair
  front-parts = rw (y, f, count-is b)

  front_length : length (front_fields b) ≡ length (decimal year) + 1 + (length (decimal n) + 1)
  front_length = ap length front-parts ∙ length-append (field year 32) (field n 32) ∙ rw (length-field year 32, length-field n 32)

  pub year-room : 0 + (length (decimal year) + 1) ≤ length xs
  year-room = omega (arith, h.1, front_length)

  module _ {ys : List ℕ} {at : ℕ} (w : Placed xs 0 (field year 32) ys at) where
    pub count_room : at + (length (decimal n) + 1) ≤ length ys
    count_room = omega (arith, h.1, front_length, w.ends, length-field year 32, length-written w.written)

    pub front-written : {zs : List ℕ} {r : ℕ} → Placed ys at (field n 32) zs r → Written xs 0 (front_fields b) zs
    front-written v = rw front-parts (written_then w.written v.written w.ends)

-- the lines of the entries, the totals before them, and the front
module _ (b buf : List ℕ) (end : ℕ) (h : Readable b × (end ≡ length (text_of b)) × (end ≤ length buf)) where
  abbrev totals_line : List ℕ
  totals_line = text_line (figures_at figure_count b 24)

  head-parts : text_line (head_numbers b) ≡ front_fields b ++ totals_line
  unfolding head_numbers front_fields
  head-parts =
      rw (totals_are h.0) (line-parts (report_year b) (length (entries_of b)) (figures_at figure_count b 24) (omega (arith, figures-length b 24)))

  whole_length_lem : end ≡ length (front_fields b) + length totals_line + length (entry_lines b)
  whole_length_lem = omega (arith, h.1, text-length b, ap length head-parts, length-append (front_fields b) totals_line)

  front_long : 7 ≤ length (front_fields b)
  unfolding front_fields pair
  front_long =
      omega (
        arith,
        length-append (field (report_year b) 32) (field (length (entries_of b)) 32),
        length-field (report_year b) 32,
        length-field (length (entries_of b)) 32,
        decimal-many 3 (report_year b) (omega (arith, (formed b h.0.right).header.year.0)),
        some-digit (length (entries_of b)),
      )

  pub lines-room : Ends buf (entry_lines b) end
  lines-room = record { short = omega (arith, whole_length_lem, front_long); within = h.2 }

  module _ {cs : List ℕ} {p : ℕ} (w : Put buf p (entry_lines b) cs end) where
    pub totals-room : Ends cs totals_line p
    totals-room = record { short = omega (arith, whole_length_lem, front_long, w.ends); within = omega (arith, w.within, w.same, w.ends) }

    module _ {ds : List ℕ} {at : ℕ} (t : Put cs at totals_line ds p) where
      pub front-room : length (front_fields b) ≤ length ds
      front-room = omega (arith, whole_length_lem, h.2, w.same, t.same)

      pub text-written : {es : List ℕ} → Written ds 0 (front_fields b) es → Written buf 0 (text_of b) es
      unfolding splice
      text-written v =
          let z : 0 + length (front_fields b) ≡ at = omega (arith, whole_length_lem, w.ends, t.ends) in
          let e : 0 + length (text_of b) ≡ end = omega (arith, h.1) in
          record {
            fits = omega (arith, h.1, h.2);
            is = v.is ∙ rw (z, e, (put_before w t).is, text-parts b, head-parts) (simp append_assoc);
          }

-- where the report is malformed, where there is no room, and where the text is made
module _ (b buf : List ℕ) where
  pub text_malformed : {v : Verdict} {refusal : Refusal} (w : Result ℕ Refusal) → v ≡ form_test b 1 → v ≡ Err refusal → IsErrAnd w (λ r. r ≡ refusal)
      → Gives (text b buf) (answered w) buf
  unfolding text first_refusal
  text_malformed w e t = refused-gives (form_test b 1 ∷ []) (text_of b) buf w (rw (← e, t)) t

  module _ (r : Readable b) {needed : ℕ} (l : needed ≡ length (text_of b)) where
    passed : first_refusal (form_test b 1 ∷ []) ≡ Passes
    unfolding first_refusal
    passed = rw r.right

    pub text-room : {v : Verdict} → v ≡ refuse_if (ltb (length buf) needed) 8 needed → v ≡ Passes → needed ≤ length buf
    text-room s t = room-there (length buf) needed s t

    pub text-short : {v : Verdict} {refusal : Refusal} (w : Result ℕ Refusal) → v ≡ refuse_if (ltb (length buf) needed) 8 needed → v ≡ Err refusal
        → IsErrAnd w (λ r. r ≡ refusal) → Gives (text b buf) (answered w) buf
    unfolding text
    text-short = short-gives (form_test b 1 ∷ []) (text_of b) buf passed (sym l)

    pub text-made : {left : List ℕ} → Written buf 0 (text_of b) left → Gives (text b buf) (answered (Ok needed)) left
    unfolding text
    text-made = made-gives (form_test b 1 ∷ []) (text_of b) buf passed (sym l)
