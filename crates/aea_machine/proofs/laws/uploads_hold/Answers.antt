use Rattle.aea_machine.proofs.Holding.{uploads-hold}
use Rattle.aea_machine.proofs.laws.uploads_hold.Goals as goal

pub returns : goal.returns
returns c = uploads-hold
