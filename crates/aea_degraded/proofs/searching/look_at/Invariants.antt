use Rattle.std.proofs.Common.{◌≡◌, true, length}
use Rattle.std.specs.Prelude.{All}
use Rattle.aea_lattice.specs.Blocks.{HasBlock}
use Rattle.aea_view.specs.Marked.{is_marked}
use Rattle.aea_disk.specs.Frames.{OnlyReads}
use Rattle.aea_shelf.specs.Places.{cell_size}
use Rattle.aea_search.specs.Searches.{Goes}
use Rattle.aea_fetch.proofs.Loops.{HasSeen}
use Rattle.aea_degraded.proofs.searching.look_at.Given as goal

-- the blocks so far were read
abbrev pub invariant-loop-b : goal.invariant-loop-b
invariant-loop-b g l = record {
  inside : All (HasBlock l.ledger.lattice) l.blocks;
  buffer : length l.cell ≡ cell_size l.ledger.shape;
  same : l.search.read.lattice ≡ l.ledger.lattice;
  seen : HasSeen (Unit {0}) (λ b. is_marked l.search.read b ≡ true) l.fn.blocks l.blocks;
  all : All (HasBlock l.ledger.lattice) l.fn.blocks;
  goes : Goes g.D.Disk.reveals l.ledger (g.D.Disk.state l.fn.disk).files l.fn.search l.search;
  reads : OnlyReads g.D.Disk.reveals ⊥ (g.D.Disk.state l.fn.disk) (g.D.Disk.state l.disk);
}

abbrev pub decreases-loop-b : goal.decreases-loop-b
decreases-loop-b g l = length l.blocks
