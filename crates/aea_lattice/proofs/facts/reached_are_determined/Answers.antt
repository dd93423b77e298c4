use Rattle.aea_lattice.proofs.Sums.{reached-determined}
use Rattle.aea_lattice.proofs.facts.reached_are_determined.Goals as goal

pub returns : goal.returns
returns c = reached-determined
