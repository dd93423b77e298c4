use Rattle.aea_lattice.proofs.Tables.{left-input_bottom, left-input_other}
use Rattle.aea_lattice.proofs.grid.Lattice.left_input.Goals as goal

pub returns-then-node-s : goal.returns-then-node-s
returns-then-node-s c =
    left-input_bottom c.args.self.now c.args.node c.earlier.result c.requires.woven c.requires.node.first
    (rw c.from-s.ensures at c.if-node-s.true)
    (record {
      found = rw (c.from-s.ensures, c.from.ensures) at c.earlier.ensures.found;
      none = rw (c.from-s.ensures, c.from.ensures) at c.earlier.ensures.none;
    })

pub returns : goal.returns
returns c =
    left-input_other c.args.self.now c.args.node c.earlier-2.result c.requires.woven c.requires.node.first
    (rw c.from-s.ensures at c.if-node-s.false)
    (record {
      found = rw c.from-s.ensures at c.earlier-2.ensures.found;
      none = rw c.from-s.ensures at c.earlier-2.ensures.none;
    })
