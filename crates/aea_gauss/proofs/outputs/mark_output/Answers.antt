use Rattle.std.proofs.Common.{rules}
use Rattle.aea_lattice.specs.Blocks.{HasBlock, block_of}
use Rattle.aea_gauss.proofs.Marking.{one_added}
use Rattle.aea_gauss.proofs.outputs.mark_output.Goals as goal

pub returns-then-class-alpha : goal.returns-then-class-alpha
returns-then-class-alpha c =
    let has : HasBlock c.args.outputs.now.lattice (block_of c.args.node c.args.class) = search rules in
    one_added c.args.outputs.now c.set.new.self (block_of c.args.node c.args.class)
    (record {
      block = has;
      whole = c.set.ensures.whole;
      same = c.set.ensures.lattice;
      marks = c.set.ensures.marks;
    })
