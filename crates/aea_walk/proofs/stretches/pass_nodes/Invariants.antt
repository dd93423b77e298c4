use Rattle.std.proofs.Common.{◌≡◌, Bool, length, take}
use Rattle.aea_lattice.specs.declared.blocks.BlockId.{BlockId}
use Rattle.aea_lattice.specs.Lists.{has_node}
use Rattle.aea_walk.specs.Stretches.{AreNextOn, ArePassed}
use Rattle.aea_walk.proofs.stretches.pass_nodes.Given as goal

abbrev pub invariant-loop-k : goal.invariant-loop-k
invariant-loop-k l = record {
  strands : length l.opens ≡ 64;
  passed : (intact : BlockId → Bool) → AreNextOn l.lattice intact l.class l.next → ArePassed l.lattice intact l.class (has_node (take l.k l.nodes)) l.opens l.first;
}
