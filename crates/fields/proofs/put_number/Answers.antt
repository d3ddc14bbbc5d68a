use Prim.Native.Nat.{◌+◌, ◌-◌}
use native.Mathlib.Omega.{arith}
use Rattle.fields.proofs.Words.{word_written}
use Rattle.fields.proofs.put_number.Goals as goal

pub returns : goal.returns
returns g c = word_written c.args.v c.args.at g.row.N (c.args.at + g.row.N - c.args.at) (omega arith) (omega arith) (omega arith) (search) c.copy_from_slice.ensures.after
