use Rattle.aea_degraded.proofs.Summing.{fate_sums}
use Rattle.aea_degraded.proofs.laws.fates_are_sums.Goals as goal

pub returns : goal.returns
returns c = fate_sums
