use Rattle.std.proofs.Common.{◌≡◌, length}
use Rattle.std.specs.Prelude.{All}
use Rattle.aea_lattice.specs.Blocks.{HasBlock}
use Rattle.aea_disk.specs.Frames.{OnlyReads}
use Rattle.aea_shelf.specs.Places.{cell_size}
use Rattle.aea_archive.specs.Blocks.{IsIntactBy}
use Rattle.aea_fetch.proofs.Loops.{HasSeen}
use Rattle.aea_fetch.proofs.check.check_blocks.Given as goal

-- the blocks so far are intact
abbrev pub invariant-loop-b : goal.invariant-loop-b
invariant-loop-b g l = record {
  inside : All (HasBlock l.ledger.lattice) l.blocks;
  buffer : length l.cell ≡ cell_size l.ledger.shape;
  seen : HasSeen g.D.Disk.reveals (IsIntactBy l.ledger.shape l.ledger.digests (g.D.Disk.state l.fn.disk).files) l.fn.blocks l.blocks;
  reads : OnlyReads g.D.Disk.reveals ⊥ (g.D.Disk.state l.fn.disk) (g.D.Disk.state l.disk);
}

abbrev pub decreases-loop-b : goal.decreases-loop-b
decreases-loop-b g l = length l.blocks
