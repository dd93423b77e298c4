use Rattle.std.proofs.Common.{Bool, take}
use Rattle.aea_lattice.specs.declared.blocks.BlockId.{BlockId}
use Rattle.aea_lattice.specs.Lists.{has_node}
use Rattle.aea_walk.specs.Stretches.{AreNextOn, ArePassed}
use Rattle.aea_walk.proofs.Ending.{AreEnded}
use Rattle.aea_walk.proofs.stretches.end_stretches.Given as goal

abbrev pub invariant-loop-k : goal.invariant-loop-k
invariant-loop-k l =
    (intact : BlockId → Bool) → AreNextOn l.lattice intact l.class l.next → ArePassed l.lattice intact l.class (has_node l.nodes) l.opens l.passed
    → AreEnded l.lattice intact l.class l.nodes l.opens (has_node (take l.k l.nodes)) l.first
