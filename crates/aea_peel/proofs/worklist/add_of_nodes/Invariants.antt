use Rattle.std.proofs.Common.{◌<◌, ◌+◌}
use Rattle.std.specs.Prelude.{Contains}
use Rattle.aea_lattice.specs.declared.blocks.EqId.{EqId}
use Rattle.aea_lattice.specs.Equations.{HasEquation}
use Rattle.aea_peel.specs.Queue.{WaitsOrIsSpent}
use Rattle.aea_peel.proofs.worklist.add_of_nodes.Given as goal

abbrev pub invariant-loop-k : goal.invariant-loop-k
invariant-loop-k l = record {
  inside : (e : EqId) → Contains l.waiting.items e → HasEquation l.lattice e;
  rest : (e : EqId) → HasEquation l.lattice e → l.lattice.n < e.node + l.k → WaitsOrIsSpent l.lattice l.marks.marks l.waiting.items e;
}
