use Rattle.std.proofs.Common.{take, ◌&&◌, ◌==◌}
use Rattle.aea_lattice.specs.Blocks.{class_number}
use Rattle.aea_sweep.specs.Words.{has_odd}
use Rattle.aea_sweep.specs.Labels.{AreLabels, Labels}
use Rattle.aea_sweep.proofs.marking.label_data.Given as goal

abbrev pub invariant-loop-node : goal.invariant-loop-node
invariant-loop-node l = record {
  labels : AreLabels l.lattice l.first l.skip;
  labelled : Labels l.lattice (λ b. class_number b.class == 0 && has_odd (take l.node-index l.nodes) b.node) l.label l.fn.first l.first;
}
