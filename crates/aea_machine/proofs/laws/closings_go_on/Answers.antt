use Rattle.aea_machine.proofs.Closings.{closings-go-on}
use Rattle.aea_machine.proofs.laws.closings_go_on.Goals as goal

pub returns : goal.returns
returns c = closings-go-on
