use Rattle.std.proofs.Common.{arith, rules}
use Rattle.basis.specs.Bytes.{Bytes}
use Rattle.report_write.proofs.Writing.{entry_carried}
use Rattle.report_write.proofs.carry_entry.Goals as goal

pub returns : goal.returns
returns c =
    let bytes : Bytes c.args.from.now = λ k. omega (arith, c.type_inv.from k) in
    search (rules, entry_carried)
