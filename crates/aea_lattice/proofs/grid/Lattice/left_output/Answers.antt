use Rattle.std.proofs.Common.{◌+◌, ◌-◌, ◌*◌}
use Rattle.aea_lattice.specs.declared.blocks.Class.TheVariants.{Left}
use Rattle.aea_lattice.proofs.Tables.{left-output_top, left-output_other, IsNextNeighbour-from}
use Rattle.aea_lattice.proofs.grid.Lattice.left_output.Goals as goal

pub returns-then-node-s-eq0 : goal.returns-then-node-s-eq0
returns-then-node-s-eq0 c =
    let l = c.args.self.now in
    IsNextNeighbour-from l Left c.args.node (c.args.node + (l.s * l.p - (l.s - 1) * (l.s - 1))) c.later.result
    (left-output_top l c.args.node c.requires.woven c.requires.node.first (rw c.from-s.ensures at c.if-node-s-eq0.true))
    (record {
      found = rw (c.from-s.ensures, c.from.ensures) at c.later.ensures.found;
      none = rw (c.from-s.ensures, c.from.ensures) at c.later.ensures.none;
    })

pub returns : goal.returns
returns c =
    let l = c.args.self.now in
    IsNextNeighbour-from l Left c.args.node (c.args.node + (l.s - 1)) c.later-2.result
    (left-output_other l c.args.node c.requires.woven c.requires.node.first (rw c.from-s.ensures at c.if-node-s-eq0.false))
    (record {
      found = rw c.from-s.ensures at c.later-2.ensures.found;
      none = rw c.from-s.ensures at c.later-2.ensures.none;
    })
