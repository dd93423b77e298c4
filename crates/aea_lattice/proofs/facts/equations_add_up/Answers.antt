use Rattle.aea_lattice.proofs.Sums.{equations-add_up}
use Rattle.aea_lattice.proofs.facts.equations_add_up.Goals as goal

pub returns : goal.returns
returns c = equations-add_up
