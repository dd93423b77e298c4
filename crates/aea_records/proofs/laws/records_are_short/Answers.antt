use Rattle.aea_records.proofs.Shortness.{records_are_short}
use Rattle.aea_records.proofs.laws.records_are_short.Goals as goal

pub returns : goal.returns
returns c = records_are_short
