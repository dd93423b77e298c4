use Rattle.std.proofs.Common.{◌≡◌, ◌+◌, ◌*◌, Bool, length}
use Rattle.aea_lattice.specs.declared.blocks.BlockId.{BlockId}
use Rattle.aea_lattice.specs.Blocks.{blocks_count}
use Rattle.aea_view.specs.Marked.{AreMarks, unmarked}
use Rattle.aea_peel.specs.Queue.{IsState, IsQueue}
use Rattle.aea_peel.proofs.worklist.peel_marks.Given as goal

abbrev pub invariant-loop-e : goal.invariant-loop-e
invariant-loop-e l = record {
  same : l.marks.lattice ≡ l.lattice;
  long : length l.marks.marks ≡ blocks_count l.lattice;
  state : (known : BlockId → Bool) → AreMarks l.fn.marks known → IsState l.lattice known l.steps l.marks.marks;
  queue : IsQueue l.lattice l.marks.marks l.waiting.items;
}

abbrev pub decreases-loop-e : goal.decreases-loop-e
decreases-loop-e l = length l.waiting.items + 4 * unmarked l.marks
