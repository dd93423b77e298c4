use Rattle.aea_lattice.proofs.Opens.{lasts-enter}
use Rattle.aea_lattice.proofs.facts.lasts_enter.Goals as goal

pub returns : goal.returns
returns c = lasts-enter
