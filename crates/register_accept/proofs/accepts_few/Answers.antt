use Rattle.register_accept.proofs.Accepted.{accepted-is}
use Rattle.register_accept.proofs.accepts_few.Goals as goal

pub returns : goal.returns
returns c = accepted-is c.test_register.ensures c.is_ok.ensures.value
