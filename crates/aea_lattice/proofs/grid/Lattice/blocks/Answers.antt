use Rattle.std.proofs.Common.{sym}
use Rattle.aea_lattice.proofs.Numbers.{length-blocks_of}
use Rattle.aea_lattice.proofs.grid.Lattice.blocks.Goals as goal

pub returns-clause-all : goal.returns-clause-all
returns-clause-all c = rw c.from.ensures (sym (length-blocks_of c.args.self.now))
