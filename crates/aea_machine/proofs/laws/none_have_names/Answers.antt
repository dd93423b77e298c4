use Rattle.aea_machine.proofs.Names.{none-named}
use Rattle.aea_machine.proofs.laws.none_have_names.Goals as goal

pub returns : goal.returns
returns c = none-named
