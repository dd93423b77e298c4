-- The replies of a run: where it stands between two messages, and what it prints for each.
use Rattle.std.specs.Prelude.{◌≡◌, ◌⊎◌, ◌≤◌, ℕ, ◌+◌, List, [], ◌∷◌, ◌++◌, length, take, Result, Err}
use Rattle.std.specs.Io.KnownBytes.{Appends}
use Rattle.aea_io.specs.Streams.{SinkState}
use Rattle.aea_disk.specs.Files.{Files}
use Rattle.aea_lattice.specs.declared.blocks.BlockId.{BlockId}
use Rattle.aea_records.specs.Format.{Record, raised_limit}
use Rattle.aea_ledger.specs.Recorded.{AreRecordsOf}
use Rattle.aea_ledger.specs.Values.{Opened, HasRecords, IsThisOne}
use Rattle.aea_archive.specs.Blocks.{IsBlockOn, IsBlockIn, IsIntactBy}
use Rattle.aea_archive.specs.Cells.{IsBesides, ChangesArchive}
use Rattle.aea_archive.specs.Lasts.{AreLastsHonest}
use Rattle.aea_messages.specs.declared.message.Message.{Message}
use Rattle.aea_messages.specs.Messages.{spelled, IsMessage}
use Rattle.aea_machine.specs.Closings.{closing_in}
use Rattle.aea_machine.specs.Machine.{Machine, begun, step}
use Rattle.aea_session.specs.declared.fault.TakeFault.{TakeFault}
use Rattle.aea_session.specs.declared.fault.TakeFault.TheVariants.{WriteFault}
use Rattle.aea_session.specs.declared.serving.Stop.{Stop}
use Rattle.aea_session.specs.declared.serving.Stop.TheVariants as stop
use Rattle.aea_session.specs.Closes.{GoesOn}
use Rattle.aea_session.specs.Looks.{IsReplyTo, MayBegin}

-- Where a run stands between two messages: the state of the machine, the ledger, and the files.
pub record Standing : Type 0 where
  pub machine : Machine
  pub ledger : Opened
  pub files : Files

-- that at its beginning, over an opened ledger and any X with as many blocks as it has nodes
abbrev pub standing : Opened → List (List ℕ) → Files → Standing
standing v datas c = record { machine = begun datas v.objects; ledger = v; files = c }

-- the ledger records X
abbrev pub RecordsX : Standing → Type 0
RecordsX w = (records : List Record) × HasRecords w.ledger records × AreRecordsOf w.ledger.shape records w.machine.datas

-- and the last parities, where they are intact, are those of X
abbrev pub IsHonestFor : Standing → Type 0
IsHonestFor w = RecordsX w × AreLastsHonest w.ledger.shape w.ledger.lattice w.ledger.digests w.machine.datas w.files

-- the change leaves the blocks of X and of W, and the files that are not the archive's
abbrev pub LeavesXW : Standing → Files → Type 0
LeavesXW w c = ChangesArchive w.ledger.shape raised_limit (IsBlockIn w.ledger.shape (length w.machine.datas + length w.machine.woven)) (IsBesides w.ledger.shape) w.files c

-- What a message leaves, where it stands `honest` that the ledger recorded X at the beginning of the run: the machine made its step, and
-- the ledger has the record of a close that was made and none besides. Where the disk's contents are known, that is the ledger of the
-- files; the blocks of X and of W stay; and each block that the message adds to X is intact, by the digest that the ledger keeps of it.
-- These are the digests of the blocks of X.
pub record MovesTo (reveals honest : Type 0) (w u : Standing) (message : Message) : Type 0 where
  pub machine : u.machine ≡ (step w.ledger.shape w.machine message).state
  pub shape : u.ledger.shape ≡ w.ledger.shape
  pub ledger : (records : List Record) → HasRecords w.ledger records → GoesOn w.ledger u.ledger (closing_in w.ledger.shape w.machine message) records
  pub this : reveals → IsThisOne u.ledger (u.files 0)
  pub files : reveals → LeavesXW w u.files
  pub added : reveals → (b : BlockId) → IsBlockOn u.ledger.shape (length w.machine.datas) (length u.machine.datas) b → IsIntactBy u.ledger.shape u.ledger.digests u.files b
  pub recorded : honest → RecordsX u

-- The bytes are the replies to these messages, one after the other, each over the files as they stand at its step.
abbrev pub HasReplied : (reveals honest : Type 0) → Standing → List Message → List ℕ → Standing → Type 0
HasReplied reveals honest w [] bytes u = (u ≡ w) × (bytes ≡ [])
HasReplied reveals honest w (message ∷ messages) bytes u =
    (next : Standing) × (code : ℕ) × (reply : List ℕ) × (rest : List ℕ)
    × IsReplyTo reveals w.ledger w.machine w.files message code reply × MovesTo reveals honest w next message
    × (bytes ≡ reply ++ rest) × HasReplied reveals honest next messages rest u

-- A byte of the reply to this message may stand there where it was not taken for this fault: not to one that closes an upload, but where
-- the output failed, once the close was made.
abbrev pub MayTell : TakeFault → Standing → Message → Type 0
MayTell WriteFault u message = Unit {0}
MayTell fault u message = closing_in u.ledger.shape u.machine message ≡ []

-- What stands behind the replies: where a message was not taken, nothing or a first part of bytes that are or begin its reply; and
-- else nothing.
abbrev pub EndsWith : Type 0 → Standing → List ℕ → Result (Unit {0}) Stop → List ℕ → Type 0
EndsWith reveals u tail (Err (stop.Taken fault)) part =
    (message : Message) × IsMessage message × (tail ≡ spelled message)
    × ((part ≡ []) ⊎ ((bytes : List ℕ) × (k : ℕ) × MayBegin reveals u.ledger u.machine u.files message bytes × (k ≤ length bytes) × (part ≡ take k bytes) × MayTell fault u message))
EndsWith reveals u tail result part = part ≡ []

-- The files at the end of the run: those of the last step; or, where a message was not taken, files that have the blocks of X and W
-- as they were.
abbrev pub EndsIn : Standing → Result (Unit {0}) Stop → Files → Type 0
EndsIn u (Err (stop.Taken fault)) c = LeavesXW u c
EndsIn u result c = c ≡ u.files

-- These messages were taken from there on, and their replies are on the output; then it ended so, with these files.
pub record PrintsReplies (reveals : Type 0) (w : Standing) (messages : List Message) (tail : List ℕ) (before after : SinkState) (result : Result (Unit {0}) Stop) (c : Files) : Type 0 where
  pub last : Standing
  pub bytes : List ℕ
  pub part : List ℕ
  pub replied : HasReplied reveals (reveals × IsHonestFor w) w messages bytes last
  pub ends : EndsWith reveals last tail result part
  pub appended : Appends before.written after.written (bytes ++ part)
  pub there : reveals → EndsIn last result c
