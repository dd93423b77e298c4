use Rattle.std.proofs.Common.{take}
use Rattle.aea_sweep.specs.Words.{has_odd}
use Rattle.aea_sweep.specs.Labels.{AreLabels}
use Rattle.aea_sweep.specs.Stretches.{AreStretches, AreOpens}
use Rattle.aea_sweep.proofs.marking.pass_nodes.Given as goal

abbrev pub invariant-loop-node : goal.invariant-loop-node
invariant-loop-node l = record {
  labels : AreLabels l.lattice l.first l.skip;
  opens : AreOpens l.lattice l.starts;
  passed : AreStretches l.lattice l.class (has_odd (take l.node-index l.nodes)) (has_odd l.nodes) l.label l.fn.first l.first l.starts;
}
