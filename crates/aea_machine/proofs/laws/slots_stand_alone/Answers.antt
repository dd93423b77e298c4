use Rattle.aea_machine.proofs.Machines.{slots-alone}
use Rattle.aea_machine.proofs.laws.slots_stand_alone.Goals as goal

pub returns : goal.returns
returns c = slots-alone
