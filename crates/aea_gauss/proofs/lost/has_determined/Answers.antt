use Rattle.std.proofs.Common.{arith}
use Rattle.aea_gauss.proofs.LostFates.{lost_more, all_lost}
use Rattle.aea_gauss.proofs.lost.has_determined.Goals as goal

pub loop-at-preserved : goal.loop-at-preserved
loop-at-preserved c =
    lost_more c.args.lattice.now c.args.losses.now c.args.blocks.now c.loop-at.at c.number-number.result c.in-Some.field-0.now c.loop-at.invariant c.number-number.ensures.value c.in-Some.ensures

pub returns-clause-lost : goal.returns-clause-lost
returns-clause-lost c none =
    let past = c.loop-at-test.false in
    all_lost c.args.lattice.now c.args.losses.now c.args.blocks.now c.loop-at.at c.loop-at.invariant (omega (arith, past))
