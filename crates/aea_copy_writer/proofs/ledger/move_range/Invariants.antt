use Rattle.std.proofs.Common.{◌≡◌, ◌≤◌, ◌+◌, ◌-◌, length}
use Rattle.aea_disk.specs.Files.{ChangesFile, Holds}
use Rattle.aea_disk.specs.Frames.{OnlyWrites}
use Rattle.aea_copy_writer.specs.Changes.{KeepsFront, FitsChange}
use Rattle.aea_copy_writer.specs.Parts.{part_of, IsThere}
use Rattle.aea_copy_writer.proofs.ledger.move_range.Given as goal

abbrev pub invariant-parts : goal.invariant-parts
invariant-parts g l = record {
  few : l.done ≤ l.fn.count;
  buffer : length l.buffer ≡ 4096;
  there : g.D.Disk.reveals → IsThere ((g.D.Disk.state l.fn.disk).files l.fn.source) l.fn.from l.done;
  moved : g.D.Disk.reveals → ChangesFile 0 (Holds l.fn.to (part_of ((g.D.Disk.state l.fn.disk).files l.fn.source) l.fn.from l.done)) (g.D.Disk.state l.fn.disk).files (g.D.Disk.state l.disk).files;
  writes : OnlyWrites g.D.Disk.reveals (g.D.Disk.state l.fn.disk).free (FitsChange (g.D.Disk.state l.fn.disk) 0 (l.fn.to + l.fn.count)) ⊥ (ChangesFile 0 (KeepsFront l.fn.to)) (g.D.Disk.state l.fn.disk) (g.D.Disk.state l.disk);
}

abbrev pub decreases-parts : goal.decreases-parts
decreases-parts g l = l.fn.count - l.done
