use Rattle.aea_lattice.proofs.Among.{blocks-inside}
use Rattle.aea_lattice.proofs.facts.blocks_are_inside.Goals as goal

pub returns : goal.returns
returns c = blocks-inside
