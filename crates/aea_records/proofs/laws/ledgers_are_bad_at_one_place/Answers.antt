use Rattle.aea_records.proofs.Whole.{one_place}
use Rattle.aea_records.proofs.laws.ledgers_are_bad_at_one_place.Goals as goal

pub returns : goal.returns
returns c = one_place
