use Rattle.aea_machine.proofs.Holding.{closed-read}
use Rattle.aea_machine.proofs.laws.closed_are_read.Goals as goal

pub returns : goal.returns
returns c = closed-read
