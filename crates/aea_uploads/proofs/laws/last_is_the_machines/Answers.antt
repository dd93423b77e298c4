use Rattle.aea_uploads.proofs.Filled.{last-machine}
use Rattle.aea_uploads.proofs.laws.last_is_the_machines.Goals as goal

pub returns : goal.returns
returns c = last-machine
