use mathlib.Core.Logic.{⊎_elim}
use mathlib.Core.Path.{refl}
use Rattle.std.proofs.Common.{arith}
use Rattle.decimal_read.proofs.Digits.{reading_none, reading_empty, reading_all, reading_low, reading_high, reading_past, reading_more}
use Rattle.decimal_read.proofs.numeral_in.Goals as goal

pub returns-then-is_empty : goal.returns-then-is_empty
returns-then-is_empty c = grind (arith, reading_empty)

pub loop-byte-init : goal.loop-byte-init
loop-byte-init c = grind (arith, reading_none)

pub returns-then-byte-lt48 : goal.returns-then-byte-lt48
returns-then-byte-lt48 c = ⊎_elim (λ h. search reading_low) (λ h. reading_high c.loop-byte.invariant c.loop-byte-test.true refl (omega arith)) c.then-byte-lt48.either

pub returns-then-above : goal.returns-then-above
returns-then-above c = search reading_past

pub loop-byte-preserved : goal.loop-byte-preserved
loop-byte-preserved c = search reading_more

pub returns : goal.returns
returns c = search reading_all
