use Rattle.std.proofs.Common.{arith}
use Rattle.aea_sweep.proofs.Labelling.{way_begins, way_on, way_up, way_ends}
use Rattle.aea_sweep.proofs.labels.label_way.Goals as goal

pub loop-node-init : goal.loop-node-init
loop-node-init c = way_begins c.args.lattice.now c.args.first.now c.args.skip.now c.args.class c.args.from c.args.limit c.args.label c.requires.labels

pub loop-node-smaller : goal.loop-node-smaller
loop-node-smaller c =
    let up =
    way_up c.args.lattice.now c.args.first.now c.loop-node.first c.loop-node.skip c.label_parity-node.new.first c.label_parity-node.new.skip c.args.class c.args.from c.args.limit
    c.args.label c.loop-node.node c.label_parity-node.result c.requires.from c.requires.class c.requires.label c.loop-node-test.true c.requires.limit c.loop-node.invariant
    c.label_parity-node.ensures.labels c.label_parity-node.ensures.labelled c.label_parity-node.ensures.skips in
    let less = c.loop-node-test.true in
    omega arith

pub loop-node-preserved : goal.loop-node-preserved
loop-node-preserved c =
    way_on c.args.lattice.now c.args.first.now c.loop-node.first c.loop-node.skip c.label_parity-node.new.first c.label_parity-node.new.skip c.args.class c.args.from c.args.limit
    c.args.label c.loop-node.node c.label_parity-node.result c.requires.from c.requires.class c.requires.label c.loop-node-test.true c.requires.limit c.loop-node.invariant
    c.label_parity-node.ensures.labels c.label_parity-node.ensures.labelled c.label_parity-node.ensures.skips

pub returns-clause-labelled : goal.returns-clause-labelled
returns-clause-labelled c =
    way_ends c.args.lattice.now c.args.first.now c.loop-node.first c.loop-node.skip c.args.class c.args.from c.args.limit c.args.label c.loop-node.node c.requires.from c.requires.class
    c.loop-node-test.false c.loop-node.invariant
