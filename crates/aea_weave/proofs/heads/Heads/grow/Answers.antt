use Rattle.aea_weave.specs.Stored.{all_strands}
use Rattle.aea_weave.proofs.Pieces.{length-pieces}
use Rattle.aea_weave.proofs.heads.Heads.grow.Goals as goal

pub returns-clause-all : goal.returns-clause-all
returns-clause-all c = length-pieces c.self.inside.size (all_strands c.in-Some.lattice) c.self.inside.bytes.items
