use Rattle.aea_lattice.proofs.Greatest.{joined-after}
use Rattle.aea_lattice.proofs.facts.joined_stand_after_the_fence.Goals as goal

pub returns : goal.returns
returns c = joined-after
