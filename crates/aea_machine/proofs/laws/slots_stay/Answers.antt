use Rattle.aea_machine.proofs.Machines.{slots-stay}
use Rattle.aea_machine.proofs.laws.slots_stay.Goals as goal

pub returns : goal.returns
returns c = slots-stay
