use Rattle.std.proofs.Common.{◌-◌, ◌≡◌, ◌≤◌, true}
use Rattle.aea_sweep.specs.Labels.{is_along, AreLabels}
use Rattle.aea_sweep.proofs.labels.shorten.Given as goal

abbrev pub invariant-loop-node : goal.invariant-loop-node
invariant-loop-node l = record {
  labels : AreLabels l.lattice l.first l.skip;
  along : l.node ≤ l.lattice.n → is_along l.lattice l.class l.from l.node ≡ true;
}

abbrev pub decreases-loop-node : goal.decreases-loop-node
decreases-loop-node l = l.limit - l.node
