use Rattle.std.proofs.Common.{◌≡◌, length}
use Rattle.std.specs.Prelude.{All}
use Rattle.aea_lattice.specs.declared.blocks.BlockId.{BlockId}
use Rattle.aea_lattice.specs.Blocks.{HasBlock}
use Rattle.aea_disk.specs.Frames.{OnlyReads}
use Rattle.aea_fetch.specs.Copies.{IsWide}
use Rattle.aea_fetch.proofs.Loops.{HasReached}
use Rattle.aea_fetch.proofs.copy.copy_blocks.Given as goal

-- the payloads of the blocks so far were printed
abbrev pub invariant-loop-b : goal.invariant-loop-b
invariant-loop-b g l = record {
  ready : (d : BlockId) → g.P.PayloadSource.ready l.fn.payloads g.D.Disk.reveals l.ledger (g.D.Disk.state l.fn.disk).files d → g.P.PayloadSource.ready l.payloads g.D.Disk.reveals l.ledger (g.D.Disk.state l.disk).files d;
  inside : All (HasBlock l.ledger.lattice) l.blocks;
  reached : HasReached (IsWide l.ledger.shape.block (g.P.PayloadSource.has g.D.Disk.reveals l.ledger (g.D.Disk.state l.fn.disk).files)) l.ledger.shape.block l.fn.blocks l.blocks l.most l.left (g.O.Sink.state l.fn.out) l.fn.page (g.O.Sink.state l.out) l.page;
  still : (g.O.Sink.state l.out).faults ≡ (g.O.Sink.state l.fn.out).faults;
  reads : OnlyReads g.D.Disk.reveals ⊥ (g.D.Disk.state l.fn.disk) (g.D.Disk.state l.disk);
}

abbrev pub decreases-loop-b : goal.decreases-loop-b
decreases-loop-b g l = length l.blocks
