use Rattle.aea_lattice.proofs.Among.{passing-among}
use Rattle.aea_lattice.proofs.facts.passing_are_among.Goals as goal

pub returns : goal.returns
returns c = passing-among
