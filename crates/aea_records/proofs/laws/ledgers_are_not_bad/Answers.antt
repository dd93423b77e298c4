use Rattle.aea_records.proofs.Whole.{not_bad}
use Rattle.aea_records.proofs.laws.ledgers_are_not_bad.Goals as goal

pub returns : goal.returns
returns c = not_bad
