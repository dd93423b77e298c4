-- What a repair prints: the report of the archive as it was when it began.
use Rattle.std.specs.Prelude.{◌≡◌, Bool, List, [], Some, Result, IfOk}
use Rattle.aea_io.specs.Streams.{SinkState}
use Rattle.aea_io.specs.Pages.{Prints}
use Rattle.aea_lattice.specs.declared.blocks.BlockId.{BlockId}
use Rattle.aea_disk.specs.Files.{Files}
use Rattle.aea_report.specs.declared.head.Head.{Head}
use Rattle.aea_report.specs.declared.line.Line.{Line}
use Rattle.aea_report.specs.Format.{report_bytes}
use Rattle.aea_report.specs.Printed.{IsPrinted}
use Rattle.aea_report.specs.Fits.{Fits}
use Rattle.aea_ledger.specs.Values.{Opened}
use Rattle.aea_archive.specs.Blocks.{RevealsSurvivors}
use Rattle.aea_archive.specs.Data.{IsDamagePlain}
use Rattle.aea_repair.specs.declared.outcome.Outcome.{Outcome}
use Rattle.aea_repair.specs.declared.fault.RepairFault.{RepairFault}

-- The printed report for some known blocks of the archive, with the ledger's seal. Where the disk's contents are known, these
-- are the blocks that are intact, by whichever test.
pub record IsReportOf (reveals : Type 0) (v : Opened) (c : Files) (h : Head) (lines : List Line) : Type 0 where
  pub known : BlockId → Bool
  pub survivors : reveals → RevealsSurvivors v.shape v.lattice.n v.digests c known
  pub printed : IsPrinted v.lattice known (Some v.seal) h lines
  pub each : reveals → (test : BlockId → Bool) → RevealsSurvivors v.shape v.lattice.n v.digests c test → IsPrinted v.lattice test (Some v.seal) h lines

-- the outcome has the numbers of the report's head
pub record HasNumbersOf (h : Head) (o : Outcome) : Type 0 where
  pub peeled : o.peeled ≡ h.peeled
  pub solved : o.solved ≡ h.solved
  pub lost : o.lost ≡ h.lost

-- The report for the blocks that were intact before was printed, or, where the output failed, a first part of it; and where
-- the damage was plain, it fits the disk as it is after.
pub record HasReported (reveals : Type 0) (v : Opened) (before after : Files) (old new : SinkState) (result : Result Outcome RepairFault) : Type 0 where
  pub head : Head
  pub lines : List Line
  pub report : IsReportOf reveals v before head lines
  pub prints : Prints old [] new [] result (report_bytes head lines)
  pub numbers : IfOk result (HasNumbersOf head)
  pub fits : reveals → IsDamagePlain v.shape v.lattice v.digests before
      → (intact : BlockId → Bool) → RevealsSurvivors v.shape v.lattice.n v.digests after intact → Fits v.lattice v.seal intact head lines
