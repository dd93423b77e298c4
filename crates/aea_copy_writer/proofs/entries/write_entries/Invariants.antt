use Rattle.std.proofs.Common.{◌≡◌, ◌≤◌, ◌+◌, ◌-◌, ◌^◌, ℕ, eqb, List, length}
use Rattle.aea_disk.specs.Files.{ChangesFile}
use Rattle.aea_disk.specs.Frames.{OnlyWrites}
use Rattle.aea_copy_writer.specs.Changes.{KeepsFront}
use Rattle.aea_copy_writer.specs.Entries.{HasPieces, IsOn, FitsEntries}
use Rattle.aea_copy_writer.specs.Parts.{IsThere}
use Rattle.aea_copy_writer.proofs.entries.write_entries.Given as goal

abbrev pub invariant-entries : goal.invariant-entries
invariant-entries g l = record {
  from : l.fn.from ≤ l.at;
  until : l.at ≤ l.fn.until;
  gate : l.fn.gate ≤ l.last.gate;
  near : l.last.gate ≤ 2 ^ 58;
  buffer : length l.buffer ≡ 4133;
  there : g.D.Disk.reveals → IsThere ((g.D.Disk.state l.fn.disk).files 0) l.fn.from (l.at - l.fn.from);
  on : g.D.Disk.reveals → (pieces : List (List ℕ)) → HasPieces (eqb l.fn.from 0) pieces l.fn.from l.fn.until ((g.D.Disk.state l.fn.disk).files 0) → IsOn l.fn.file l.fn.gate l.fn.link pieces l.fn.from l.fn.until l.at l.last (g.D.Disk.state l.fn.disk).files (g.D.Disk.state l.disk).files;
  writes : OnlyWrites g.D.Disk.reveals (g.D.Disk.state l.fn.disk).free (FitsEntries (g.D.Disk.state l.fn.disk) l.fn.file l.fn.gate l.fn.link l.fn.from l.fn.until) ⊥ (ChangesFile l.fn.file (KeepsFront (l.fn.gate + 1))) (g.D.Disk.state l.fn.disk) (g.D.Disk.state l.disk);
}

abbrev pub decreases-entries : goal.decreases-entries
decreases-entries g l = l.fn.until - l.at
