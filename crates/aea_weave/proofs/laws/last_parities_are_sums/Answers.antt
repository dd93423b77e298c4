use Rattle.aea_weave.proofs.Weaving.{last-sums}
use Rattle.aea_weave.proofs.laws.last_parities_are_sums.Goals as goal

pub returns : goal.returns
returns c = last-sums
