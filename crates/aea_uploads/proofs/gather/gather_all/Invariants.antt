use Rattle.std.proofs.Common.{◌≡◌, ℕ, ◌+◌, ◌-◌, ◌*◌, ◌<◌, ◌≤◌, length, take}
use Rattle.aea_shelf.specs.Places.{cell_size}
use Rattle.aea_shelf.specs.Writes.{KeepsPadded}
use Rattle.aea_archive.specs.Blocks.{IsBlockIn}
use Rattle.aea_archive.specs.Cells.{WritesCells}
use Rattle.aea_uploads.specs.Gathering.{Gathers}
use Rattle.aea_uploads.proofs.gather.gather_all.Given as goal

abbrev pub invariant-loop-done : goal.invariant-loop-done
invariant-loop-done g l = record {
  within : l.done ≤ length l.bytes;
  cell : length l.cell ≡ cell_size l.shape;
  gathers : Gathers g.D.Disk.reveals l.shape (take l.done l.bytes) l.fn.heads l.heads l.fn.slot l.slot l.fn.digests.items l.digests.items (g.D.Disk.state l.fn.disk).files (g.D.Disk.state l.disk).files;
  writes : (nodes : ℕ) → l.fn.heads.lattice.n * l.shape.block + l.fn.slot.have + length l.bytes < (nodes + 1) * l.shape.block → WritesCells g.D.Disk.reveals l.shape nodes (IsBlockIn l.shape l.fn.heads.lattice.n) ⊥ (g.D.Disk.state l.fn.disk) (g.D.Disk.state l.disk);
  padded : g.D.Disk.reveals → KeepsPadded l.shape (IsBlockIn l.shape l.fn.heads.lattice.n) (g.D.Disk.state l.fn.disk).files (g.D.Disk.state l.disk).files;
}

abbrev pub decreases-loop-done : goal.decreases-loop-done
decreases-loop-done g l = length l.bytes - l.done
