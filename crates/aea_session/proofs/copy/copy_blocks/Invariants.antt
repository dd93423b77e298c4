use Rattle.std.proofs.Common.{◌≡◌, length}
use Rattle.std.specs.Prelude.{All}
use Rattle.aea_lattice.specs.Blocks.{HasBlock}
use Rattle.aea_disk.specs.Frames.{OnlyReads}
use Rattle.aea_shelf.specs.Places.{cell_size}
use Rattle.aea_fetch.specs.Payloads.{IsPayload}
use Rattle.aea_fetch.proofs.Loops.{HasReached}
use Rattle.aea_session.proofs.copy.copy_blocks.Given as goal

-- the payloads of the blocks so far were printed
abbrev pub invariant-loop-b : goal.invariant-loop-b
invariant-loop-b g l = record {
  buffer : length l.payloads.cell.now ≡ cell_size l.ledger.shape;
  inside : All (HasBlock l.ledger.lattice) l.blocks;
  reached : HasReached (IsPayload g.D.Disk.reveals l.ledger.shape l.ledger.digests (g.D.Disk.state l.fn.disk).files) l.ledger.shape.block l.fn.blocks l.blocks l.most l.left (g.O.Sink.state l.fn.out) l.fn.page (g.O.Sink.state l.out) l.page;
  still : (g.O.Sink.state l.out).faults ≡ (g.O.Sink.state l.fn.out).faults;
  reads : OnlyReads g.D.Disk.reveals ⊥ (g.D.Disk.state l.fn.disk) (g.D.Disk.state l.disk);
}

abbrev pub decreases-loop-b : goal.decreases-loop-b
decreases-loop-b g l = length l.blocks
