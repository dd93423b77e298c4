use Rattle.aea_machine.proofs.Machines.{refusals-stay}
use Rattle.aea_machine.proofs.laws.refusals_stay.Goals as goal

pub returns : goal.returns
returns c = refusals-stay
