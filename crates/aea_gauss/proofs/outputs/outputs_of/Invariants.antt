use Rattle.std.proofs.Common.{take}
use Rattle.aea_gauss.specs.Outputs.{AreOutputs}
use Rattle.aea_gauss.proofs.outputs.outputs_of.Given as goal

abbrev pub invariant-loop-k : goal.invariant-loop-k
invariant-loop-k l = AreOutputs l.lattice (take l.k l.blocks) l.outputs
