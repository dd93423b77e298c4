-- What `fetch` does: the object that it writes, whose damaged blocks it computes, and why it is refused.
use Rattle.std.specs.Prelude.{◌≡◌, ◌≢◌, ◌⊎◌, ◌↔◌, ◌≤◌, ℕ, Bool, false, List, None, Some, Result, Ok, Err, IfOk, IfErr, OnOk}
use Rattle.std.specs.FinMap.{get}
use Rattle.std.specs.Io.KnownBytes.{Appends}
use Rattle.aea_io.specs.Streams.{SinkState}
use Rattle.aea_lattice.specs.declared.blocks.BlockId.{BlockId}
use Rattle.aea_lattice.specs.declared.grid.Lattice.{Lattice}
use Rattle.aea_lattice.specs.declared.shape.Shape.{Shape}
use Rattle.aea_lattice.specs.Data.{IsDataList}
use Rattle.aea_lattice.specs.LeastWord.{IsWord}
use Rattle.aea_disk.specs.Files.{Files}
use Rattle.aea_disk.specs.Frames.{OnlyReads}
use Rattle.aea_disk.specs.State.{State}
use Rattle.aea_catalog.specs.Catalogs.{Placed}
use Rattle.aea_records.specs.Faults.{IsNoArchive, IsBadAt}
use Rattle.aea_records.specs.Format.{Record, nodes_of, fences_of, digests_of}
use Rattle.aea_ledger.specs.Recorded.{IsLatticeOf, AreRecordsOf}
use Rattle.aea_ledger.specs.Values.{Opened, HasRecords}
use Rattle.aea_archive.specs.Blocks.{RevealsSurvivors}
use Rattle.aea_archive.specs.Data.{AreSurvivorsHonest}
use Rattle.aea_archive.specs.Objects.{data_of, object_in, IsOneOf}
use Rattle.aea_restore.specs.Drawn.{IsOtherDigest, IsClash}
use Rattle.aea_degraded.specs.Fetched.{HasFetched, HasFetchedPart, IsFirstOpen}
use Rattle.aea_command.specs.declared.refusal.Refusal.{Refusal}
use Rattle.aea_command.specs.declared.refusal.Refusal.TheVariants.{NoArchive, LedgerBad, UnknownName, Undetermined}
use Rattle.aea_command.specs.declared.refusal.Failure.{Failure}
use Rattle.aea_command.specs.declared.refusal.Failure.TheVariants as failure
use Rattle.aea_command.specs.declared.status.Status.TheVariants.{Done}
use Rattle.aea_command.specs.Failures.{Answer, NeverClashes}
use Rattle.aea_command.specs.Openings.{IsUnbegun, HasOpened}
use Rattle.aea_command_read.specs.Get.{HasNoObject, HasObject}

-- The files are an archive in which this is the first data block of the object under the name that the intact blocks do not
-- determine, with its listed nodes.
pub record HasOpenDatum (files : Files) (name : List ℕ) (block : BlockId) (nodes : List ℕ) : Type 0 where
  pub shape : Shape
  pub records : List Record
  pub placed : Placed
  pub object : HasObject files name shape records placed
  pub lattice : Lattice
  pub is_lattice : IsLatticeOf shape (nodes_of records) (fences_of records) lattice
  pub known : BlockId → Bool
  pub survivors : RevealsSurvivors shape (nodes_of records) (digests_of records) files known
  pub first : IsFirstOpen lattice known (data_of placed.parts) block nodes

-- why the object under the name is not fetched, in a folder with these files
abbrev pub FetchCauses : List ℕ → Files → Refusal → Type 0
FetchCauses name files NoArchive = IsNoArchive (files 0)
FetchCauses name files (LedgerBad at) = IsBadAt (files 0) at
FetchCauses name files UnknownName = HasNoObject (files 0) name
FetchCauses name files (Undetermined block nodes) = HasOpenDatum files name block nodes
FetchCauses name files why = ⊥

-- two digests of a block differ
abbrev pub IsClashing : Answer → Type 0
IsClashing answer = (block : BlockId) × (revealed : List ℕ) × (computed : List ℕ) × (answer ≡ Err (failure.Clash block revealed computed))

-- the object was fetched; or no object has the name, or one of its data blocks is not determined; or two digests differ, or the
-- disk or the output failed, or memory ran out
abbrev pub IsFetching : Answer → Type 0
IsFetching answer =
    (answer ≡ Ok Done)
    ⊎ (((answer ≡ Err (failure.Refused UnknownName)) ⊎ ((block : BlockId) × (nodes : List ℕ) × (answer ≡ Err (failure.Refused (Undetermined block nodes)))))
    ⊎ (IsClashing answer ⊎ ((answer ≡ Err failure.Disk) ⊎ ((answer ≡ Err failure.Output) ⊎ (answer ≡ Err failure.Memory)))))

-- the object under the name in the opened archive was written whole
abbrev pub WritesFetched : List ℕ → Type 0 → Opened → Files → SinkState → SinkState → Type 0
WritesFetched name reveals v c before after = (p : Placed) × (get v.objects name ≡ Some p) × HasFetched reveals v c p before after

-- A data block of the object under the name is not determined: these nodes are listed for it for some known blocks; and where
-- the files are known it is the first such block, by whichever test distinguishes the intact ones.
pub record HasUndetermined (name : List ℕ) (reveals : Type 0) (v : Opened) (c : Files) (block : BlockId) (nodes : List ℕ) : Type 0 where
  pub placed : Placed
  pub found : get v.objects name ≡ Some placed
  pub among : IsOneOf (data_of placed.parts) block
  pub test : BlockId → Bool
  pub word : IsWord v.lattice test block nodes
  pub first : reveals → (known : BlockId → Bool) → RevealsSurvivors v.shape v.lattice.n v.digests c known → IsFirstOpen v.lattice known (data_of placed.parts) block nodes

-- Two digests of a data block of the object under the name differ: the block is damaged, the first digest is the ledger's, and
-- the second one that of a payload that is drawn from the intact blocks.
pub record HasClashed (name : List ℕ) (v : Opened) (known : BlockId → Bool) (c : Files) (block : BlockId) (revealed computed : List ℕ) : Type 0 where
  pub among : (p : Placed) → get v.objects name ≡ Some p → IsOneOf (data_of p.parts) block
  pub damaged : known block ≡ false
  pub clash : IsClash v known c block revealed computed

-- Of an answer where the archive was opened, with the files, and `out` before and after it:
pub record FetchesOpened (name : List ℕ) (reveals : Type 0) (v : Opened) (c : Files) (before after : SinkState) (answer : Answer) : Type 0 where
  pub kinds : IsFetching answer
  -- the name is unknown exactly where no object has it
  pub unknown : (answer ≡ Err (failure.Refused UnknownName)) ↔ (get v.objects name ≡ None)
  -- where it is done, the object under the name was written
  pub whole : OnOk answer (WritesFetched name reveals v c before after)
  -- of survivors that are honest for a data list it is the object in that list
  pub own : OnOk answer (reveals → (p : Placed) (datas : List (List ℕ)) → get v.objects name ≡ Some p → IsDataList v.lattice v.shape.block datas
      → AreSurvivorsHonest v.shape v.lattice v.digests datas c → Appends before.written after.written (object_in p datas))
  -- which block is not determined
  pub undetermined : (block : BlockId) (nodes : List ℕ) → answer ≡ Err (failure.Refused (Undetermined block nodes)) → HasUndetermined name reveals v c block nodes
  -- a clash is one of two digests that differ; where the files are known, of a damaged data block, and nothing was written; and
  -- there is none where the survivors are honest for a data list that the ledger records
  pub clash : (block : BlockId) (revealed computed : List ℕ) → answer ≡ Err (failure.Clash block revealed computed) → IsOtherDigest v block revealed computed
  pub computed : reveals → (known : BlockId → Bool) → RevealsSurvivors v.shape v.lattice.n v.digests c known
      → (block : BlockId) (revealed computed : List ℕ) → answer ≡ Err (failure.Clash block revealed computed) → HasClashed name v known c block revealed computed × (after ≡ before)
  pub no_clash : reveals → (records : List Record) (datas : List (List ℕ)) → HasRecords v records → AreRecordsOf v.shape records datas
      → AreSurvivorsHonest v.shape v.lattice v.digests datas c → NeverClashes answer
  -- where it is not done, nothing, or a first part of it; and nothing where it is refused or memory ran out
  pub part : IfErr answer (λ f. (p : Placed) → get v.objects name ≡ Some p → (after ≡ before) ⊎ HasFetchedPart reveals v c p before after)
  pub unused : (why : Refusal) → answer ≡ Err (failure.Refused why) → after ≡ before
  pub none : answer ≡ Err failure.Memory → after ≡ before
  -- in a sink with space for the object nothing fails
  pub in_room : (p : Placed) (room : ℕ) → get v.objects name ≡ Some p → before.room ≡ Some room → p.object.length ≤ room
      → (answer ≢ Err failure.Output) × (after.faults ≡ before.faults)

-- Of a run after the words that fetches the object under the name, with the disk and `out` before and after it, and its answer:
pub record FetchesObject (name : List ℕ) (reveals : Type 0) (old new : State) (before after : SinkState) (answer : Answer) : Type 0 where
  -- the archive is opened, and from the first call to the last the disk is only read
  pub opening : Result Opened Failure
  pub opens : HasOpened reveals old new opening
  pub reads : OnlyReads reveals (answer ≡ Err failure.Disk) old new
  -- where it is not opened, that is the answer
  pub unopened : IfErr opening (λ f. (answer ≡ Err f) × (after ≡ before))
  -- where it is, the object is written, or it is said why not
  pub fetches : IfOk opening (λ v. FetchesOpened name reveals v old.files before after answer)

-- of a run with its words: it is not begun, or does so
abbrev pub FetchesNamed : List ℕ → Type 0 → State → State → SinkState → SinkState → Answer → Type 0
FetchesNamed name reveals old new before after answer = IsUnbegun old new before after answer ⊎ FetchesObject name reveals old new before after answer
