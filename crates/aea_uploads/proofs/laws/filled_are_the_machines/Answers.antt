use Rattle.aea_uploads.proofs.Filled.{filled-machine}
use Rattle.aea_uploads.proofs.laws.filled_are_the_machines.Goals as goal

pub returns : goal.returns
returns c = filled-machine
