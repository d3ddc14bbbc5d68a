use Rattle.std.proofs.Common.{arith}
use Rattle.mass_exact.specs.Amounts.{nothing}
use Rattle.mass_source.proofs.Judging.{roomy_turn, rounded_each}
use Rattle.mass_source.proofs.grams.Goals as goal

pub map-requires : goal.map-requires
map-requires c = (omega arith, (omega arith, (omega arith, record { at = λ xs t q x u y r n. roomy_turn xs c.requires y n })))

pub returns : goal.returns
returns c = rounded_each c.args.amounts c.map.ensures.items.long (λ gas l. (c.map.ensures.items.at gas nothing 0 l).2.met)
