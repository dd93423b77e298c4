use Rattle.aea_records.proofs.Counts.{records_are_few}
use Rattle.aea_records.proofs.laws.records_are_few.Goals as goal

pub returns : goal.returns
returns c = records_are_few
