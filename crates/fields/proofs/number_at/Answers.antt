use Prim.Native.Nat.{◌+◌, ◌-◌}
use native.Mathlib.Omega.{arith}
use Rattle.fields.proofs.Words.{word_field}
use Rattle.fields.proofs.number_at.Goals as goal

pub returns : goal.returns
returns g c =
    word_field c.args.at g.row.N (c.args.at + g.row.N - c.args.at) (omega arith) (omega arith) (omega arith) c.type_inv.s c.copy_from_slice.ensures.after c.from_le_bytes.ensures
