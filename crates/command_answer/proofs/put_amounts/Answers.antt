use Rattle.std.proofs.Common.{rules, arith, length-append}
use Rattle.input_stock_cards.proofs.Parts.{part-within, part-first, part-next, parts-end}
use Rattle.command_answer.proofs.Amounts.{lined_none, lined_room, lined_more, lined_all}
use Rattle.command_answer.proofs.put_amounts.Goals as goal

pub loop-amount-init : goal.loop-amount-init
loop-amount-init c = record { can = search rules; finite = search rules; parted = search rules; lined = lined_none _ _ }

pub put_field_at-at-requires : goal.put_field_at-at-requires
put_field_at-at-requires c =
    let v = c.loop-amount.invariant in
    lined_room v.lined
    (omega (arith, part-within v.parted c.in-Some.amount c.next.new.self c.in-Some.ensures.steps))
    (part-first v.parted c.in-Some.amount c.next.new.self c.in-Some.ensures.steps 8 (omega arith) c.number_at.ensures)
    c.requires

pub loop-amount-preserved : goal.loop-amount-preserved
loop-amount-preserved c =
    let v = c.loop-amount.invariant in
    let next = part-next v.parted c.in-Some.amount c.next.new.self c.in-Some.ensures.steps in
    record {
      can = omega (arith, next.some, next.size);
      finite = v.finite;
      parted = simp length-append next;
      lined =
          simp length-append
          (lined_more v.lined
          (omega (arith, part-within v.parted c.in-Some.amount c.next.new.self c.in-Some.ensures.steps))
          (part-first v.parted c.in-Some.amount c.next.new.self c.in-Some.ensures.steps 8 (omega arith) c.number_at.ensures)
          c.put_field_at-at.ensures);
    }

pub returns : goal.returns
returns c = let v = c.loop-amount.invariant in lined_all v.lined (omega (arith, parts-end v.parted c.next.new.self c.in-None.ensures.steps))
