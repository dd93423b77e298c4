use Rattle.std.proofs.Common.{◌≡◌, ◌+◌, length}
use Rattle.aea_view.specs.Marked.{unmarked}
use Rattle.aea_disk.specs.Frames.{OnlyReads}
use Rattle.aea_shelf.specs.Places.{cell_size}
use Rattle.aea_search.specs.Searches.{Goes}
use Rattle.aea_search.proofs.searching.Search.finish.Given as goal

abbrev pub invariant-loop-b : goal.invariant-loop-b
invariant-loop-b g l = record {
  same : l.self.read.lattice ≡ l.ledger.lattice;
  buffer : length l.cell ≡ cell_size l.ledger.shape;
  goes : Goes g.D.Disk.reveals l.ledger (g.D.Disk.state l.fn.disk).files l.fn.self l.self;
  reads : OnlyReads g.D.Disk.reveals ⊥ (g.D.Disk.state l.fn.disk) (g.D.Disk.state l.disk);
}

abbrev pub decreases-loop-b : goal.decreases-loop-b
decreases-loop-b g l = length l.self.waiting + unmarked l.self.read
