use Rattle.std.proofs.Common.{◌+◌, ◌-◌, ◌*◌}
use Rattle.aea_lattice.specs.declared.blocks.Class.TheVariants.{Right}
use Rattle.aea_lattice.proofs.Tables.{right-output_bottom, right-output_other, IsNextNeighbour-from}
use Rattle.aea_lattice.proofs.grid.Lattice.right_output.Goals as goal

pub returns-then-node-s : goal.returns-then-node-s
returns-then-node-s c =
    let l = c.args.self.now in
    IsNextNeighbour-from l Right c.args.node (c.args.node + (l.s * l.p + 1 - l.s * l.s)) c.later.result
    (right-output_bottom l c.args.node c.requires.woven c.requires.node.first (rw c.from-s.ensures at c.if-node-s.true))
    (record {
      found = rw (c.from-s.ensures, c.from.ensures) at c.later.ensures.found;
      none = rw (c.from-s.ensures, c.from.ensures) at c.later.ensures.none;
    })

pub returns : goal.returns
returns c =
    let l = c.args.self.now in
    IsNextNeighbour-from l Right c.args.node (c.args.node + (l.s + 1)) c.later-2.result
    (right-output_other l c.args.node c.requires.woven c.requires.node.first (rw c.from-s.ensures at c.if-node-s.false))
    (record {
      found = rw c.from-s.ensures at c.later-2.ensures.found;
      none = rw c.from-s.ensures at c.later-2.ensures.none;
    })
