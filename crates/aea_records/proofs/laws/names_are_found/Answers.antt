use Rattle.aea_records.proofs.Placing.{names_are_found}
use Rattle.aea_records.proofs.laws.names_are_found.Goals as goal

pub returns : goal.returns
returns c = names_are_found
