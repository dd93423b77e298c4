use Rattle.std.proofs.Common.{◌≡◌, take}
use Rattle.aea_lattice.specs.Equations.{is_in_codeword}
use Rattle.aea_lattice.specs.Lists.{has_node}
use Rattle.aea_walk.proofs.codewords.is_in_codeword.Given as goal

abbrev pub invariant-loop-k : goal.invariant-loop-k
invariant-loop-k l = l.has ≡ is_in_codeword l.lattice (has_node (take l.k l.nodes)) l.block
