use Rattle.std.proofs.Common.{◌≡◌, ◌≤◌, ◌+◌, ◌-◌, ◌^◌, ℕ, List, length}
use Rattle.aea_disk.specs.Files.{ChangesFile}
use Rattle.aea_disk.specs.Frames.{OnlyWrites}
use Rattle.aea_copies.specs.Format.{text_of}
use Rattle.aea_copies.specs.Kept.{IsGood}
use Rattle.aea_copy_writer.specs.Changes.{KeepsFront, FitsChange}
use Rattle.aea_copy_writer.specs.Pieces.{IsFilled}
use Rattle.aea_copy_writer.proofs.ledger.fill_ledger.Given as goal

abbrev pub invariant-pieces : goal.invariant-pieces
invariant-pieces g l = record {
  near : l.at.place ≤ 2 ^ 58;
  until : l.at.text ≤ l.fn.until;
  buffer : length l.buffer ≡ 4096;
  some : g.D.Disk.reveals → 1 ≤ length ((g.D.Disk.state l.disk).files 0);
  there : g.D.Disk.reveals → l.at.text ≤ length ((g.D.Disk.state l.disk).files 0);
  on : g.D.Disk.reveals → (pieces : List (List ℕ)) → IsGood pieces ((g.D.Disk.state l.fn.disk).files l.fn.source) → l.fn.until ≡ length (text_of pieces) → IsFilled l.fn.source pieces l.at (g.D.Disk.state l.fn.disk).files (g.D.Disk.state l.disk).files;
  writes : OnlyWrites g.D.Disk.reveals (g.D.Disk.state l.fn.disk).free (FitsChange (g.D.Disk.state l.fn.disk) 0 (l.fn.until + 1)) ⊥ (ChangesFile 0 (KeepsFront 1)) (g.D.Disk.state l.fn.disk) (g.D.Disk.state l.disk);
}

abbrev pub decreases-pieces : goal.decreases-pieces
decreases-pieces g l = l.fn.until - l.at.text
