use Rattle.std.proofs.Common.{◌≡◌, ◌-◌, ◌≤◌, length}
use Rattle.aea_view.specs.Marked.{IsWhole}
use Rattle.aea_disk.specs.Frames.{OnlyReads}
use Rattle.aea_shelf.specs.Places.{cell_size}
use Rattle.aea_scrub.specs.Scans.{AreIntactTo}
use Rattle.aea_scrub.proofs.marking.mark_all.Given as goal

abbrev pub invariant-loop-k : goal.invariant-loop-k
invariant-loop-k g l = record {
  within : l.k ≤ l.count;
  lattice : l.marks.lattice ≡ l.ledger.lattice;
  whole : IsWhole l.marks;
  buffer : length l.cell ≡ cell_size l.ledger.shape;
  intact : g.D.Disk.reveals → AreIntactTo l.ledger (g.D.Disk.state l.fn.disk).files l.marks l.k;
  reads : OnlyReads g.D.Disk.reveals ⊥ (g.D.Disk.state l.fn.disk) (g.D.Disk.state l.disk);
}

abbrev pub decreases-loop-k : goal.decreases-loop-k
decreases-loop-k g l = l.count - l.k
