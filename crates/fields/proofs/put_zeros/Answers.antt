use Rattle.std.proofs.Common.{ap, ◌∙◌, ℕ, ◌≡◌, ◌+◌, ◌-◌, replicate, length, take, drop}
use native.Mathlib.Omega.{arith}
use lib.ListN.{length-drop}
use lib.Seq.{length-take-le}
use Rattle.basis.proofs.Bytes.{length-bytes_of}
use Rattle.fields.proofs.Laws.{written_part}
use Rattle.fields.proofs.Words.{zeros_bytes}
use Rattle.fields.proofs.put_zeros.Goals as goal

pub returns : goal.returns
returns c =
    let at = c.args.at in
    let k = c.args.k in
    let n = length (take (at + k - at) (drop at c.args.buf.now)) in
    let size : n ≡ k = length-take-le _ _ (rw length-drop (omega (arith, c.requires))) ∙ omega arith in
    written_part at (at + k - at) (omega (arith, length-bytes_of k 0)) (omega (arith, c.requires, length-bytes_of k 0))
    (c.fill.ensures.after (λ y e. e) ∙ ap (λ (m : ℕ). replicate m 0) size ∙ zeros_bytes k)
