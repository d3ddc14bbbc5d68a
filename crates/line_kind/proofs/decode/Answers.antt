use Rattle.std.proofs.Common.{refl}
use Rattle.meaning.specs.Methods.{decoded}
use Rattle.line_kind.proofs.decode.Goals as goal

pub returns-then-is_in_range : goal.returns-then-is_in_range
unfolding decoded
returns-then-is_in_range c = (rw (c.requires, ← c.is_in_range.ensures, c.if-is_in_range.true) c.decode_by_method.ensures.0, c.decode_by_method.ensures.1)

pub returns : goal.returns
unfolding decoded
returns c = (rw (c.requires, ← c.is_in_range.ensures, c.if-is_in_range.false) refl, tt)
