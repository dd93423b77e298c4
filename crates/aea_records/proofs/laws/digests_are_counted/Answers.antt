use Rattle.aea_records.proofs.Counts.{digests_are_counted}
use Rattle.aea_records.proofs.laws.digests_are_counted.Goals as goal

pub returns : goal.returns
returns c = digests_are_counted
