use Rattle.aea_machine.proofs.Holding.{none-hold}
use Rattle.aea_machine.proofs.laws.none_hold.Goals as goal

pub returns : goal.returns
returns c = none-hold
