use Rattle.aea_lattice.proofs.Tables.{horiz-input}
use Rattle.aea_lattice.proofs.grid.Lattice.horiz_input.Goals as goal

pub returns : goal.returns
returns c =
    horiz-input c.args.self.now c.args.node c.earlier.result c.requires.first
    (record {
      found = rw c.from.ensures at c.earlier.ensures.found;
      none = rw c.from.ensures at c.earlier.ensures.none;
    })
