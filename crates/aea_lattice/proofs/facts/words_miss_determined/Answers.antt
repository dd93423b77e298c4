use Rattle.aea_lattice.proofs.Words.{words-miss}
use Rattle.aea_lattice.proofs.facts.words_miss_determined.Goals as goal

pub returns : goal.returns
returns c = words-miss
