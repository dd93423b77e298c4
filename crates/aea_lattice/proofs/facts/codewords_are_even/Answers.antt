use Rattle.aea_lattice.proofs.Codewords.{codewords-even}
use Rattle.aea_lattice.proofs.facts.codewords_are_even.Goals as goal

pub returns : goal.returns
returns c = codewords-even
