use Rattle.std.proofs.Common.{◌≡◌, ◌-◌, length}
use Rattle.aea_lattice.specs.Blocks.{blocks_count}
use Rattle.aea_view.specs.Marked.{is_marked}
use Rattle.aea_sweep.specs.States.{AreEndWords}
use Rattle.aea_sweep.specs.Ends.{AreMarkedFrom}
use Rattle.aea_sweep.proofs.ends.mark_ends.Given as goal

abbrev pub invariant-loop-at : goal.invariant-loop-at
invariant-loop-at l = record {
  same : l.marks.lattice ≡ l.lattice;
  marked : (s : AreEndWords l.lattice (is_marked l.known) l.words)
      → AreMarkedFrom l.lattice (is_marked l.known) (length l.words) s.ends (blocks_count l.lattice - l.at) l.left l.marks;
}
