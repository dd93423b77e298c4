use Rattle.aea_records.proofs.Tails.{tails_are_spelled}
use Rattle.aea_records.proofs.laws.tails_are_spelled.Goals as goal

pub returns : goal.returns
returns c = tails_are_spelled
