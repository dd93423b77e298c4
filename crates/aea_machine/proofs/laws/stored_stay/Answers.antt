use Rattle.aea_machine.proofs.Names.{stored-kept}
use Rattle.aea_machine.proofs.laws.stored_stay.Goals as goal

pub returns : goal.returns
returns c = stored-kept
