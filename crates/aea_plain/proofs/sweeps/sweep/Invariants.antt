use Rattle.std.proofs.Common.{◌≡◌, ◌<◌, Bool, true, false, length, take, All}
use Rattle.aea_lattice.specs.declared.blocks.BlockId.{BlockId}
use Rattle.aea_lattice.specs.Blocks.{blocks_count}
use Rattle.aea_view.specs.Marked.{unmarked}
use Rattle.aea_plain.specs.Marks.{IsState, IsSpent}
use Rattle.aea_plain.proofs.sweeps.sweep.Given as goal

abbrev pub invariant-loop-e : goal.invariant-loop-e
invariant-loop-e l = record {
  kept : l.marks.lattice ≡ l.lattice;
  long : length l.marks.marks ≡ blocks_count l.lattice;
  state : (known : BlockId → Bool) → IsState l.lattice known l.fn.marks.marks → IsState l.lattice known l.marks.marks;
  fewer : l.changed ≡ true → unmarked l.marks < unmarked l.fn.marks;
  same : l.changed ≡ false → l.marks ≡ l.fn.marks;
  spent : l.changed ≡ false → All (IsSpent l.lattice l.fn.marks.marks) (take l.e-index l.equations);
}
