use Rattle.aea_records.proofs.Whole.{one_reading}
use Rattle.aea_records.proofs.laws.ledgers_have_one_reading.Goals as goal

pub returns : goal.returns
returns c = one_reading
