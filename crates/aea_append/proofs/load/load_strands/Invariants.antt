use Rattle.std.proofs.Common.{◌≡◌, ◌-◌, ◌≤◌, length}
use Rattle.aea_disk.specs.State.{HasEarlier}
use Rattle.aea_disk.specs.Frames.{OnlyReads}
use Rattle.aea_shelf.specs.Places.{cell_size}
use Rattle.aea_append.specs.Loading.{HasLoaded}
use Rattle.aea_append.proofs.load.load_strands.Given as goal

abbrev pub invariant-loop-place : goal.invariant-loop-place
invariant-loop-place g l = record {
  within : l.place ≤ l.count;
  cell : length l.cell ≡ cell_size l.ledger.shape;
  loaded : HasLoaded g.D.Disk.reveals l.ledger (g.D.Disk.state l.fn.disk).files l.heads l.place l.found;
  earlier : HasEarlier (g.D.Disk.state l.fn.disk) (g.D.Disk.state l.disk);
  reads : OnlyReads g.D.Disk.reveals ⊥ (g.D.Disk.state l.fn.disk) (g.D.Disk.state l.disk);
}

abbrev pub decreases-loop-place : goal.decreases-loop-place
decreases-loop-place g l = l.count - l.place
