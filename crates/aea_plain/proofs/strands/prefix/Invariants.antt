use Rattle.std.proofs.Common.{◌≡◌, ◌-◌}
use Rattle.aea_lattice.specs.Strands.{strand_of, nodes_on}
use Rattle.aea_plain.proofs.strands.prefix.Given as goal

abbrev pub invariant-loop-k : goal.invariant-loop-k
invariant-loop-k l = l.nodes.items ≡ nodes_on l.lattice l.class (strand_of l.lattice l.class l.node) l.node (l.k - 1)
