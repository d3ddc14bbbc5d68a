use Rattle.hash_repeats.proofs.Slots.{home_is}
use Rattle.hash_repeats.proofs.home_of.Goals as goal

pub returns : goal.returns
returns c = home_is c.args.number
