use Rattle.aea_lattice.proofs.SetSums.{sums-listed}
use Rattle.aea_lattice.proofs.facts.sums_are_listed.Goals as goal

pub returns : goal.returns
returns c = sums-listed
