-- The stages of a rehearsal: what a repair finds, and a report that is accepted.
use Rattle.std.specs.Prelude.{ℕ, ◌≤◌, Bool, List, length, Some}
use Rattle.aea_lattice.specs.declared.blocks.BlockId.{BlockId}
use Rattle.aea_disk.specs.Files.{Files}
use Rattle.aea_disk.specs.State.{State}
use Rattle.aea_report.specs.declared.head.Head.{Head}
use Rattle.aea_report.specs.declared.line.Line.{Line}
use Rattle.aea_report.specs.Format.{report_bytes}
use Rattle.aea_report.specs.Printed.{IsPrinted}
use Rattle.aea_report.specs.Fits.{Fits}
use Rattle.aea_report.specs.Grammar.{IsReport}
use Rattle.aea_records.specs.Format.{Record}
use Rattle.aea_ledger.specs.Recorded.{AreRecordsOf}
use Rattle.aea_ledger.specs.Values.{Opened, HasRecords}
use Rattle.aea_archive.specs.Blocks.{RevealsSurvivors}
use Rattle.aea_archive.specs.Cells.{HaveSitesRoom}
use Rattle.aea_archive.specs.Data.{AreSurvivorsHonest, IsDamagePlain}
use Rattle.aea_rehearse.specs.Rooms.{IsWilling}

-- The archive may be repaired, and nothing fails: its survivors are honest for a data list that its ledger records, the damage
-- is plain, the disk is willing and the sites have space for its rows, and a report for the survivors has no more bytes than
-- there is space for.
pub record IsReady (v : Opened) (s : State) (room : ℕ) : Type 0 where
  pub records : List Record
  pub datas : List (List ℕ)
  pub has : HasRecords v records
  pub recorded : AreRecordsOf v.shape records datas
  pub honest : AreSurvivorsHonest v.shape v.lattice v.digests datas s.files
  pub plain : IsDamagePlain v.shape v.lattice v.digests s.files
  pub willing : IsWilling s
  pub sites : HaveSitesRoom v.shape v.lattice.n s
  pub known : BlockId → Bool
  pub survivors : RevealsSurvivors v.shape v.lattice.n v.digests s.files known
  pub fits : (h : Head) (lines : List Line) → IsReport (report_bytes h lines) h lines → IsPrinted v.lattice known (Some v.seal) h lines → length (report_bytes h lines) ≤ room

-- The bytes are a report that fits the archive as it is, by each test of its intact blocks.
pub record IsFitting (v : Opened) (c : Files) (bytes : List ℕ) : Type 0 where
  pub head : Head
  pub lines : List Line
  pub report : IsReport bytes head lines
  pub fits : (intact : BlockId → Bool) → RevealsSurvivors v.shape v.lattice.n v.digests c intact → Fits v.lattice v.seal intact head lines
