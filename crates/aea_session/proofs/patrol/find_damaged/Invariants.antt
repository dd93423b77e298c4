use Rattle.std.proofs.Common.{◌≡◌, ◌+◌, ◌-◌, ◌≤◌, length, take}
use Rattle.aea_disk.specs.Frames.{OnlyReads}
use Rattle.aea_shelf.specs.Places.{cell_size}
use Rattle.aea_session.specs.Looks.{AreDamaged}
use Rattle.aea_session.proofs.patrol.find_damaged.Given as goal

-- the damaged ones of the blocks so far
abbrev pub invariant-loop-k : goal.invariant-loop-k
invariant-loop-k g l = record {
  from : l.first ≤ l.k;
  within : l.k ≤ l.end;
  few : l.found + l.first ≤ l.k;
  buffer : length l.cell ≡ cell_size l.ledger.shape;
  long : length l.numbers ≡ l.end - l.first;
  damaged : AreDamaged g.D.Disk.reveals l.ledger (g.D.Disk.state l.fn.disk).files l.first (l.k - l.first) (take l.found l.numbers);
  reads : OnlyReads g.D.Disk.reveals ⊥ (g.D.Disk.state l.fn.disk) (g.D.Disk.state l.disk);
}

abbrev pub decreases-loop-k : goal.decreases-loop-k
decreases-loop-k g l = l.end - l.k
