use Rattle.std.proofs.Common.{◌≡◌, ℕ, ◌+◌, ◌-◌, ◌*◌, ◌<◌, ◌≤◌, length}
use Rattle.aea_io.specs.Taken.{Counts}
use Rattle.aea_shelf.specs.Places.{cell_size}
use Rattle.aea_shelf.specs.Writes.{KeepsPadded}
use Rattle.aea_records.specs.Format.{nodes_for}
use Rattle.aea_archive.specs.Blocks.{IsBlockIn}
use Rattle.aea_archive.specs.Cells.{WritesCells}
use Rattle.aea_append.specs.Taking.{Takes}
use Rattle.aea_append.proofs.piece.weave_all.Given as goal

abbrev pub invariant-loop-done : goal.invariant-loop-done
invariant-loop-done g l = record {
  within : l.done ≤ l.limit;
  whole : l.done < l.limit → (n : ℕ) × (l.done ≡ n * l.shape.block) × (l.heads.lattice.n ≡ l.fn.heads.lattice.n + n);
  alpha : l.heads.lattice.alpha ≡ l.shape.alpha;
  size : l.heads.size ≡ l.shape.block;
  block : length l.block ≡ l.shape.block;
  cell : length l.cell ≡ cell_size l.shape;
  took : Takes g.D.Disk.reveals l.shape l.done (g.S.Source.state l.fn.source).left (g.S.Source.state l.source).left l.fn.hasher l.hasher l.fn.heads l.heads l.fn.digests.items l.digests.items (g.D.Disk.state l.fn.disk).files (g.D.Disk.state l.disk).files;
  writes : (nodes : ℕ) → l.fn.heads.lattice.n + nodes_for l.shape l.limit ≤ nodes → WritesCells g.D.Disk.reveals l.shape nodes (IsBlockIn l.shape l.fn.heads.lattice.n) ⊥ (g.D.Disk.state l.fn.disk) (g.D.Disk.state l.disk);
  padded : g.D.Disk.reveals → KeepsPadded l.shape (IsBlockIn l.shape l.fn.heads.lattice.n) (g.D.Disk.state l.fn.disk).files (g.D.Disk.state l.disk).files;
  exact : l.at ≡ l.fn.at + l.done;
  counted : Counts (g.S.Source.state l.fn.source).left (g.S.Source.state l.source).left l.fn.at l.at l.done;
  still : (g.S.Source.state l.source).faults ≡ (g.S.Source.state l.fn.source).faults;
}

abbrev pub decreases-loop-done : goal.decreases-loop-done
decreases-loop-done g l = l.limit - l.done
