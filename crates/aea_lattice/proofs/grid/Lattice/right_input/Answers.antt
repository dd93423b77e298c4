use Rattle.aea_lattice.proofs.Tables.{right-input_top, right-input_other}
use Rattle.aea_lattice.proofs.grid.Lattice.right_input.Goals as goal

pub returns-then-node-s-eq0 : goal.returns-then-node-s-eq0
returns-then-node-s-eq0 c =
    right-input_top c.args.self.now c.args.node c.earlier.result c.requires.woven c.requires.node.first
    (rw c.from-s.ensures at c.if-node-s-eq0.true)
    (record {
      found = rw (c.from-s.ensures, c.from.ensures) at c.earlier.ensures.found;
      none = rw (c.from-s.ensures, c.from.ensures) at c.earlier.ensures.none;
    })

pub returns : goal.returns
returns c =
    right-input_other c.args.self.now c.args.node c.earlier-2.result c.requires.woven c.requires.node.first
    (rw c.from-s.ensures at c.if-node-s-eq0.false)
    (record {
      found = rw c.from-s.ensures at c.earlier-2.ensures.found;
      none = rw c.from-s.ensures at c.earlier-2.ensures.none;
    })
