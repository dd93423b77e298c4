use Rattle.aea_machine.proofs.Machines.{asks-stay}
use Rattle.aea_machine.proofs.laws.asks_stay.Goals as goal

pub returns : goal.returns
returns c = asks-stay
