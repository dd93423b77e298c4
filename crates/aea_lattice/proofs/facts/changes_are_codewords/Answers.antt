use Rattle.aea_lattice.proofs.Words.{changes-words}
use Rattle.aea_lattice.proofs.facts.changes_are_codewords.Goals as goal

pub returns : goal.returns
returns c = changes-words
