use Rattle.aea_machine.proofs.Names.{names-own}
use Rattle.aea_machine.proofs.laws.names_stay_own.Goals as goal

pub returns : goal.returns
returns c = names-own
