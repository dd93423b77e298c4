use Rattle.std.proofs.Common.{◌≡◌, filter, take}
use Rattle.aea_lattice.specs.Lists.{has_node}
use Rattle.aea_lattice.specs.Blocks.{blocks_of}
use Rattle.aea_lattice.specs.Equations.{is_in_codeword}
use Rattle.aea_plain.proofs.codewords.codeword.Given as goal

abbrev pub invariant-loop-k : goal.invariant-loop-k
invariant-loop-k l =
    l.blocks.items ≡ filter (is_in_codeword l.lattice (has_node l.nodes)) (take l.k (blocks_of l.lattice))
