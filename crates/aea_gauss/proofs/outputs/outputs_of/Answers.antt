use Rattle.std.proofs.Common.{arith, subst}
use Rattle.std.proofs.lemmas.List.{take_all}
use Rattle.aea_gauss.specs.Outputs.{AreOutputs}
use Rattle.aea_gauss.proofs.Marking.{outputs_none, outputs_more}
use Rattle.aea_gauss.proofs.outputs.outputs_of.Goals as goal

pub loop-k-init : goal.loop-k-init
loop-k-init c = outputs_none c.args.lattice.now c.in_ok-outputs.outputs c.in_ok-outputs.ensures.lattice c.in_ok-outputs.ensures.marks c.in_ok-outputs.ensures.whole

pub loop-k-preserved : goal.loop-k-preserved
loop-k-preserved c = outputs_more c.args.lattice.now c.args.blocks.now c.loop-k.k c.loop-k.outputs c.mark_around.new.outputs c.loop-k-test.true c.loop-k.invariant c.mark_around.ensures

pub returns : goal.returns
returns c =
    subst (λ bs. AreOutputs c.args.lattice.now bs c.loop-k.outputs) (take_all c.loop-k.k c.args.blocks.now (omega arith)) c.loop-k.invariant
