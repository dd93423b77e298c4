use Rattle.aea_records.proofs.Counts.{fences_may_follow}
use Rattle.aea_records.proofs.laws.fences_may_follow.Goals as goal

pub returns : goal.returns
returns c = fences_may_follow
