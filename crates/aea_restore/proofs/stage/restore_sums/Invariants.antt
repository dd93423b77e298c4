use Rattle.std.proofs.Common.{◌≡◌, length, take, Bool}
use Rattle.std.specs.Prelude.{IsTrue, ◌||◌}
use Rattle.aea_lattice.specs.declared.blocks.BlockId.{BlockId}
use Rattle.aea_lattice.specs.Blocks.{HasBlock}
use Rattle.aea_lattice.specs.Closure.{is_among}
use Rattle.aea_disk.specs.Files.{Files}
use Rattle.aea_shelf.specs.Places.{cell_size}
use Rattle.aea_view.specs.Marked.{is_marked}
use Rattle.aea_restore.specs.Given.{blocks_summed}
use Rattle.aea_restore.specs.InOrder.{AreRestoredFrom}
use Rattle.aea_restore.specs.Repairs.{IsLeft, WritesBlocks}
use Rattle.aea_restore.specs.UnderWay.{IsUnderWay, GoesOn, StaysDrawn}
use Rattle.aea_restore.proofs.stage.restore_sums.Given as goal

abbrev pub invariant-loop-k : goal.invariant-loop-k
invariant-loop-k g l = record {
  lattice : l.marks.lattice ≡ l.ledger.lattice;
  sum : length l.sum ≡ l.ledger.shape.block;
  read : length l.read ≡ cell_size l.ledger.shape;
  write : length l.write ≡ cell_size l.ledger.shape;
  done : (d : BlockId) → HasBlock l.ledger.lattice d → is_marked l.marks d ≡ (is_marked l.fn.marks d || is_among (blocks_summed (take l.k l.fates)) d);
  way : g.D.Disk.reveals → GoesOn l.ledger (is_marked l.fn.marks) (is_marked l.marks) (g.D.Disk.state l.fn.disk).files (g.D.Disk.state l.disk).files;
  drawn : g.D.Disk.reveals → StaysDrawn l.ledger (is_marked l.fn.marks) (is_marked l.marks) (g.D.Disk.state l.fn.disk).files (g.D.Disk.state l.disk).files;
  writes : WritesBlocks g.D.Disk.reveals l.ledger (IsLeft (λ d. IsTrue (is_among (blocks_summed l.fates) d))) ⊥ (g.D.Disk.state l.fn.disk) (g.D.Disk.state l.disk);
  each : (known : BlockId → Bool) (first : Files) → (g.D.Disk.reveals → IsUnderWay l.ledger known (is_marked l.fn.marks) first (g.D.Disk.state l.fn.disk).files) → AreRestoredFrom g.D.Disk.reveals l.ledger known (is_marked l.fn.marks) first l.fates l.k;
}
