use Rattle.aea_machine.proofs.Closings.{closed-placed}
use Rattle.aea_machine.proofs.laws.closed_are_placed.Goals as goal

pub returns : goal.returns
returns c = closed-placed
