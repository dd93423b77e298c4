use Rattle.std.proofs.Common.{◌+◌}
use Rattle.aea_lattice.specs.declared.blocks.Class.TheVariants.{Horiz}
use Rattle.aea_lattice.proofs.Tables.{horiz-output, IsNextNeighbour-from}
use Rattle.aea_lattice.proofs.grid.Lattice.horiz_output.Goals as goal

pub returns : goal.returns
returns c =
    let l = c.args.self.now in
    IsNextNeighbour-from l Horiz c.args.node (c.args.node + l.s) c.later.result
    (horiz-output l c.args.node c.requires.first)
    (record {
      found = rw c.from.ensures at c.later.ensures.found;
      none = rw c.from.ensures at c.later.ensures.none;
    })
