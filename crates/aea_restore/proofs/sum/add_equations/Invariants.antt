use Rattle.std.proofs.Common.{◌≡◌, length, take}
use Rattle.aea_view.specs.Marked.{is_marked}
use Rattle.aea_disk.specs.Frames.{OnlyReads}
use Rattle.aea_shelf.specs.Places.{cell_size}
use Rattle.aea_restore.specs.Drawn.{other_blocks}
use Rattle.aea_restore.specs.Judged.{IsJudgedSum}
use Rattle.aea_restore.proofs.sum.add_equations.Given as goal

abbrev pub invariant-loop-k : goal.invariant-loop-k
invariant-loop-k g l = record {
  buffer : length l.read ≡ cell_size l.ledger.shape;
  size : length l.sum ≡ l.ledger.shape.block;
  added : IsJudgedSum g.D.Disk.reveals l.ledger (g.D.Disk.state l.fn.disk).files l.fn.sum (other_blocks l.ledger.lattice (is_marked l.marks) l.b (take l.k l.equations)) l.sum;
  reads : OnlyReads g.D.Disk.reveals ⊥ (g.D.Disk.state l.fn.disk) (g.D.Disk.state l.disk);
}
