use Rattle.aea_lattice.proofs.SetSums.{sets-add_up}
use Rattle.aea_lattice.proofs.facts.sets_add_up.Goals as goal

pub returns : goal.returns
returns c = sets-add_up
