use Rattle.aea_machine.proofs.Holding.{closed-held}
use Rattle.aea_machine.proofs.laws.closed_are_held.Goals as goal

pub returns : goal.returns
returns c = closed-held
