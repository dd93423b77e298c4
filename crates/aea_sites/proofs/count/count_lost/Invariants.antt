use Rattle.aea_sites.specs.Counts.{with_nodes, IsCountOf}
use Rattle.aea_sites.proofs.count.count_lost.Given as goal

abbrev pub invariant-loop-k : goal.invariant-loop-k
invariant-loop-k l = IsCountOf l.lattice l.list (with_nodes l.lattice l.list l.k) l.loss
