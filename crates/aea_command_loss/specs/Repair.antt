-- What `repair` does: what it restores, what it leaves, and the report that it prints.
use Rattle.std.specs.Prelude.{◌≡◌, ◌≢◌, ◌==◌, ◌≤◌, ℕ, Bool, cond, List, length, Some, Result, Ok, Err, IsErr, IfOk, IfErr}
use Rattle.sha2.specs.Sha256.{sha256}
use Rattle.aea_io.specs.Streams.{SinkState}
use Rattle.aea_lattice.specs.declared.blocks.BlockId.{BlockId}
use Rattle.aea_lattice.specs.declared.grid.Lattice.{Lattice}
use Rattle.aea_lattice.specs.declared.shape.Shape.{Shape}
use Rattle.aea_lattice.specs.Blocks.{HasBlock}
use Rattle.aea_disk.specs.Files.{Files}
use Rattle.aea_disk.specs.State.{State, During, AtEachMoment, IsSynced, IsReady, IsRoomy, NeverFails}
use Rattle.aea_disk.specs.Frames.{OnlyReads}
use Rattle.aea_shelf.specs.Intact.{IsHeldIn}
use Rattle.aea_records.specs.Format.{Record, nodes_of, fences_of, digests_of, spelled}
use Rattle.aea_ledger.specs.declared.open.OpenFault.{OpenFault}
use Rattle.aea_ledger.specs.Recorded.{IsLatticeOf, AreRecordsOf}
use Rattle.aea_ledger.specs.Stops.{HasLedger}
use Rattle.aea_ledger.specs.Values.{Opened, HasRecords, HasSomeRecords, IsThisOne}
use Rattle.aea_archive.specs.Blocks.{recorded_in, IsIntactBy, RevealsSurvivors}
use Rattle.aea_archive.specs.Cells.{IsNoSite, ChangesArchive, HaveSitesRoom}
use Rattle.aea_archive.specs.Data.{AreSurvivorsHonest}
use Rattle.aea_report.specs.declared.head.Head.{Head}
use Rattle.aea_report.specs.declared.line.Line.{Line}
use Rattle.aea_report.specs.Format.{report_bytes}
use Rattle.aea_report.specs.Printed.{IsPrinted}
use Rattle.aea_restore.specs.Drawn.{IsOtherDigest}
use Rattle.aea_restore.specs.Laws.{IsRestorable}
use Rattle.aea_restore.specs.Repairs.{IsLeft}
use Rattle.aea_repair.specs.declared.fault.RepairFault.{RepairFault}
use Rattle.aea_repair.specs.declared.fault.RepairFault.TheVariants as repair
use Rattle.aea_repair.specs.declared.outcome.Outcome.{Outcome}
use Rattle.aea_repair.specs.Repairs.{IsWritten, Restores}
use Rattle.aea_repair.specs.Reports.{HasReported}
use Rattle.aea_command.specs.declared.refusal.Failure.{Failure}
use Rattle.aea_command.specs.declared.refusal.Failure.TheVariants as failure
use Rattle.aea_command.specs.declared.status.Status.TheVariants.{Done, Damage}
use Rattle.aea_command.specs.Openings.{IsUntouched, OpensThen, greatest_sites}
use Rattle.aea_command.specs.Failures.{Answer, opening_failure, repair_failure}

-- what the command returns where the archive was opened: damage where a block is lost
abbrev pub repair_answer : Result Outcome RepairFault → Answer
repair_answer (Ok o) = Ok (cond (o.lost == 0) Done Damage)
repair_answer (Err fault) = Err (repair_failure fault)

-- Of a run that repairs the opened archive, with the disk and `out` before and after it, and what the repair returns. The
-- blocks that are intact when it begins are given by a test, whichever distinguishes them.
pub record RepairsOpened (reveals : Type 0) (v : Opened) (old new : State) (before after : SinkState) (result : Result Outcome RepairFault) : Type 0 where
  -- what is restored, and what is there of each block after each answer
  pub restores : reveals → (known : BlockId → Bool) → RevealsSurvivors v.shape v.lattice.n v.digests old.files known → Restores v known old.files new.files result
  -- after the opening every image has the homes of all blocks but those that can be restored, and each file but those of the
  -- sites, as they were
  pub alone : reveals → (known : BlockId → Bool) → RevealsSurvivors v.shape v.lattice.n v.digests old.files known
      → OpensThen old new (λ opened end. During opened end (ChangesArchive v.shape v.lattice.n (IsLeft (IsRestorable v.lattice known)) (IsNoSite v.shape) old.files))
  -- and so the disk reads
  pub reads : reveals → (known : BlockId → Bool) → RevealsSurvivors v.shape v.lattice.n v.digests old.files known
      → ChangesArchive v.shape v.lattice.n (IsLeft (IsRestorable v.lattice known)) (IsNoSite v.shape) old.files new.files
  -- and each block that was intact is held at every moment; where all is written, each that is intact then is held
  pub held : reveals → (b : BlockId) → HasBlock v.lattice b → IsIntactBy v.shape v.digests old.files b
      → OpensThen old new (λ opened end. AtEachMoment opened end (IsHeldIn v.shape b (recorded_in v.shape v.digests b)))
  pub durable : IsWritten result → reveals → IsSynced new
  -- the report is printed, or, where the output failed, a first part of it; where something else did, nothing
  pub reports : IsWritten result → HasReported reveals v old.files new.files before after result
  pub unused : IsErr result → result ≢ Err repair.WriteFault → after ≡ before
  -- a clash is one of two digests that differ, the first of them the ledger's; and there is none where the intact blocks are
  -- honest for a data list that the ledger records
  pub clash : (b : BlockId) (revealed computed : List ℕ) → result ≡ Err (repair.Clash b revealed computed) → IsOtherDigest v b revealed computed
  pub no_clash : reveals → (records : List Record) (datas : List (List ℕ)) → HasRecords v records → AreRecordsOf v.shape records datas
      → AreSurvivorsHonest v.shape v.lattice v.digests datas old.files → (b : BlockId) (revealed computed : List ℕ) → result ≢ Err (repair.Clash b revealed computed)
  -- lack of memory leaves the disk as it was
  pub out_of_memory : result ≡ Err repair.NoMemory → IsUntouched reveals old new
  -- where `out` has space for the report nothing fails
  pub in_room : reveals → (room : ℕ) (known : BlockId → Bool) (h : Head) (lines : List Line) → before.room ≡ Some room
      → RevealsSurvivors v.shape v.lattice.n v.digests old.files known → IsPrinted v.lattice known (Some v.seal) h lines → length (report_bytes h lines) ≤ room
      → (result ≢ Err repair.WriteFault) × (after.faults ≡ before.faults)

-- the archive is opened, and repaired, and the answer is that of the repair
abbrev pub RepairsThen : Type 0 → Opened → State → State → SinkState → SinkState → Answer → Type 0
RepairsThen reveals v old new before after answer =
    (result : Result Outcome RepairFault) × (answer ≡ repair_answer result) × RepairsOpened reveals v old new before after result

-- the bytes are a ledger of this shape with so many nodes
pub record HasNodeCount (shape : Shape) (nodes : ℕ) (bytes : List ℕ) : Type 0 where
  pub records : List Record
  pub ledger : HasLedger shape records bytes
  pub is : nodes ≡ nodes_of records

-- The disk has some space, and to sync; and where it has an archive, space for the rows of its nodes, of a disk on which the
-- ledger is not known whatever archive that is.
pub record FitsRepair (reveals : Type 0) (s : State) : Type 0 where
  pub some : IsRoomy s
  pub sites : (shape : Shape) (nodes : ℕ) → (reveals → HasNodeCount shape nodes (s.files 0)) → HaveSitesRoom shape nodes s

-- the file is that of a site, of whichever archive
abbrev pub IsSiteFile : ℕ → Type 0
IsSiteFile file = (1 ≤ file) × (file ≤ greatest_sites)

-- the text is the report for the intact blocks of the archive in these files, with its ledger's seal
pub record IsRepairText (files : Files) (text : List ℕ) : Type 0 where
  pub shape : Shape
  pub records : List Record
  pub ledger : HasLedger shape records (files 0)
  pub lattice : Lattice
  pub is_lattice : IsLatticeOf shape (nodes_of records) (fences_of records) lattice
  pub known : BlockId → Bool
  pub survivors : RevealsSurvivors shape (nodes_of records) (digests_of records) files known
  pub head : Head
  pub lines : List Line
  pub printed : IsPrinted lattice known (Some (sha256 (spelled shape records))) head lines
  pub is : text ≡ report_bytes head lines

-- The archive was not opened, which is the answer: nothing is printed, and the disk is only read. But after a fault of the disk
-- the first sync has succeeded, nothing is pending, and every image has every file as it reads.
pub record IsUnopened (reveals : Type 0) (f : Failure) (old new : State) (before after : SinkState) (answer : Answer) : Type 0 where
  pub is : answer ≡ Err f
  pub why : (fault : OpenFault) × (f ≡ opening_failure fault)
  pub unused : after ≡ before
  pub reads : OnlyReads reveals (f ≡ failure.Disk) old new
  pub untouched : f ≢ failure.Disk → IsUntouched reveals old new

-- Of a run that repairs the archive, with the disk and `out` before and after it, and its answer:
pub record RepairsArchive (reveals : Type 0) (old new : State) (before after : SinkState) (answer : Answer) : Type 0 where
  -- over any disk a ledger of some records is opened; where the disk's files are known, that of the archive
  pub opening : Result Opened Failure
  pub records : IfOk opening HasSomeRecords
  pub this_one : IfOk opening (λ v. reveals → IsThisOne v (old.files 0))
  -- where none is, that is the answer, and nothing more is done
  pub unopened : IfErr opening (λ f. IsUnopened reveals f old new before after answer)
  -- where one is, it is repaired
  pub opened : IfOk opening (λ v. RepairsThen reveals v old new before after answer)
  -- where the disk is ready and has the space nothing fails
  pub in_room : reveals → IsReady old → NeverFails (FitsRepair reveals old) (answer ≢ Err failure.Disk) old new
