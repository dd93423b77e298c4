use Rattle.aea_lattice.specs.Lists.{has_node}
use Rattle.aea_lattice.proofs.Words.{word-not_determined}
use Rattle.aea_fates.proofs.laws.words_are_open.Goals as goal

pub returns : goal.returns
returns c l known b nodes has word = word-not_determined l known (has_node nodes) b has word.chosen.1.contains word.chosen.1.word.misses
