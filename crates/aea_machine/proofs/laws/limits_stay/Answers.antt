use Rattle.aea_machine.proofs.Names.{limits-kept}
use Rattle.aea_machine.proofs.laws.limits_stay.Goals as goal

pub returns : goal.returns
returns c = limits-kept
