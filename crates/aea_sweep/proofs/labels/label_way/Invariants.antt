use Rattle.std.proofs.Common.{◌-◌}
use Rattle.aea_sweep.proofs.Labelling.{IsWay}
use Rattle.aea_sweep.proofs.labels.label_way.Given as goal

abbrev pub invariant-loop-node : goal.invariant-loop-node
invariant-loop-node l = IsWay l.lattice l.fn.first l.first l.skip l.class l.from l.limit l.label l.node

abbrev pub decreases-loop-node : goal.decreases-loop-node
decreases-loop-node l = l.limit - l.node
