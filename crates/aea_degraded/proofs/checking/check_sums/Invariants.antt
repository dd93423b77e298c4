use Rattle.std.proofs.Common.{◌≡◌, length}
use Rattle.std.specs.FinMap.{get}
use Rattle.aea_disk.specs.Frames.{OnlyReads}
use Rattle.aea_shelf.specs.Places.{cell_size}
use Rattle.aea_archive.specs.Objects.{data_under}
use Rattle.aea_fetch.proofs.Loops.{HasSeen}
use Rattle.aea_degraded.proofs.Checked.{UnderPlan}
use Rattle.aea_degraded.proofs.checking.check_sums.Given as goal

-- the blocks so far are checked
abbrev pub invariant-loop-b : goal.invariant-loop-b
invariant-loop-b g l = record {
  cell : length l.cell ≡ cell_size l.ledger.shape;
  sum : length l.sum ≡ l.ledger.shape.block;
  seen : HasSeen g.D.Disk.reveals (UnderPlan l.ledger (g.D.Disk.state l.fn.disk).files l.damaged l.fates (data_under (get l.ledger.objects l.name))) (data_under (get l.ledger.objects l.name)) l.blocks;
  reads : OnlyReads g.D.Disk.reveals ⊥ (g.D.Disk.state l.fn.disk) (g.D.Disk.state l.disk);
}

abbrev pub decreases-loop-b : goal.decreases-loop-b
decreases-loop-b g l = length l.blocks
