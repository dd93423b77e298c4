use Rattle.aea_lattice.proofs.Equations.{number_equal}
use Rattle.aea_lattice.proofs.facts.numbers_reveal_blocks.Goals as goal

pub returns : goal.returns
returns c = number_equal
