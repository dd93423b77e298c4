use Rattle.std.proofs.Common.{◌≡◌, ◌+◌, ◌*◌, false, cond, length, All}
use Rattle.aea_lattice.specs.Blocks.{blocks_count}
use Rattle.aea_lattice.specs.Closure.{is_among}
use Rattle.aea_view.specs.Marked.{unmarked}
use Rattle.aea_plain.specs.Marks.{IsState, IsSpent}
use Rattle.aea_plain.proofs.sweeps.closure.Given as goal

abbrev pub invariant-loop-changed : goal.invariant-loop-changed
invariant-loop-changed l = record {
  kept : l.marks.lattice ≡ l.lattice;
  long : length l.marks.marks ≡ blocks_count l.lattice;
  state : IsState l.lattice (is_among l.known) l.marks.marks;
  spent : l.changed ≡ false → All (IsSpent l.lattice l.marks.marks) l.equations.items;
}

abbrev pub decreases-loop-changed : goal.decreases-loop-changed
decreases-loop-changed l = 2 * unmarked l.marks + cond l.changed 1 0
