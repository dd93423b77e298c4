use Rattle.std.proofs.Common.{◌≡◌, ◌-◌}
use Rattle.aea_lattice.specs.Lists.{has_node}
use Rattle.aea_lattice.specs.Strands.{strand_of, nodes_on}
use Rattle.aea_lattice.specs.Equations.{is_odd_count}
use Rattle.aea_plain.proofs.codewords.is_in_codeword.Given as goal

abbrev pub invariant-loop-k : goal.invariant-loop-k
invariant-loop-k l =
    l.is_odd ≡ is_odd_count (has_node l.nodes) (nodes_on l.lattice l.b.class (strand_of l.lattice l.b.class l.b.node) l.b.node (l.k - 1))
