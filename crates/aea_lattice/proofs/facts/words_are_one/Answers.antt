use Rattle.aea_lattice.proofs.OneWord.{words_one}
use Rattle.aea_lattice.proofs.facts.words_are_one.Goals as goal

pub returns : goal.returns
returns c = words_one
