use Rattle.std.proofs.Common.{◌≡◌, ◌+◌, ◌-◌, sym, length, drop, take, append_assoc, arith}
use Rattle.std.proofs.lemmas.List.{drop-drop}
use Rattle.basis.specs.Bytes.{splice}
use Rattle.calculation_judge.proofs.keep_figures.Goals as goal

pub returns : goal.returns
unfolding splice
returns c =
    let part : c.args.at + length c.args.figures.now - c.args.at ≡ length c.args.figures.now = omega arith in
    let behind = append_assoc (take c.args.at c.args.kept.now) c.args.figures.now (drop (c.args.at + length c.args.figures.now) c.args.kept.now) in
    record { fits = c.requires; is = rw (c.copy_from_slice.ensures.after, part, drop-drop) (sym behind) }
