-- What a session does for a message: the step of the machine, the reply, and what it leaves of the disk.
use Rattle.std.specs.Prelude.{◌≡◌, ◌≢◌, ◌⊎◌, ◌≤◌, ℕ, true, List, [], ◌∷◌, Some, Result, Err, IsOk, IfOk, IfErr, OnOk}
use Rattle.std.specs.FinMap.{get}
use Rattle.aea_faults.specs.Faults.{Rose}
use Rattle.aea_io.specs.Streams.{SinkState}
use Rattle.aea_io.specs.Written.{IsFlushed}
use Rattle.aea_lattice.specs.declared.blocks.BlockId.{BlockId}
use Rattle.aea_disk.specs.Frames.{OnlyWrites}
use Rattle.aea_disk.specs.State.{State, IsFixed, IsReady}
use Rattle.aea_shelf.specs.Writes.{KeepsPadded}
use Rattle.aea_records.specs.Format.{Record, raised_limit}
use Rattle.aea_ledger.specs.Values.{HasRecords}
use Rattle.aea_archive.specs.Blocks.{IsBlockIn}
use Rattle.aea_archive.specs.Objects.{data_under, IsOneOf}
use Rattle.aea_archive.specs.Cells.{IsBesides, ChangesArchive, HaveSitesRoom}
use Rattle.aea_messages.specs.declared.message.Message.{Message}
use Rattle.aea_messages.specs.declared.message.Message.TheVariants.{Close, Read}
use Rattle.aea_machine.specs.Closings.{Closing, closing_in}
use Rattle.aea_machine.specs.Machine.{Machine, step}
use Rattle.aea_append.specs.Puts.{LeavesLedger}
use Rattle.aea_session.specs.declared.fault.TakeFault.{TakeFault}
use Rattle.aea_session.specs.declared.fault.TakeFault.TheVariants.{Damaged, DiskFault, WriteFault, NoMemory}
use Rattle.aea_session.specs.declared.work.Work.{Work}
use Rattle.aea_session.specs.Stands.{KeepsMachine, StandsFor, IsTheSessions}
use Rattle.aea_session.specs.Closes.{GoesOn, HasClosed, MayHaveClosed, HasCloseRoom}
use Rattle.aea_session.specs.Looks.{IsReplyTo, MayBegin, Replies, RepliesPart, greatest_reply}

-- the disk has space for the message: that of a close for its record, that of a chunk for its cells
abbrev pub HasTakeRoom : Work → Message → State → Type 0
HasTakeRoom v (Close slot) s = HasCloseRoom v slot s
HasTakeRoom v message s = HaveSitesRoom v.ledger.shape raised_limit s × s.keeps (s.files 0)

-- the block is a data block of the object that the message reads
abbrev pub IsRead : Work → Message → BlockId → Type 0
IsRead v (Read name) b = IsOneOf (data_under (get v.ledger.objects name)) b
IsRead v message b = ⊥

-- Where a message was taken: the session, and the disk, before and after it.
pub record Moves (reveals : Type 0) (v w : Work) (message : Message) (old new : State) : Type 0 where
  -- the step of the machine, in whatever state the session kept it
  pub keeps : (m : Machine) → KeepsMachine v m → KeepsMachine w (step v.ledger.shape m message).state
  pub stands : (m : Machine) → KeepsMachine v m → StandsFor v m → StandsFor w (step v.ledger.shape m message).state
  pub shape : w.ledger.shape ≡ v.ledger.shape
  pub live : w.ledger.live ≡ true
  -- the records of the ledger, whatever the disk
  pub goes : (m : Machine) → KeepsMachine v m → (records : List Record) → HasRecords v.ledger records → GoesOn v.ledger w.ledger (closing_in v.ledger.shape m message) records
  -- the disk is the session's again, and nothing is pending on its ledger
  pub this : reveals → IsTheSessions w new.files
  pub fixed : reveals → IsFixed new 0

-- What a message leaves of the disk, whatever became of it: where it was made, where the disk is at fault, and where memory ran out.
pub record Leaves (reveals : Type 0) (v w : Work) (message : Message) (old new : State) (made fault dry : Type 0) : Type 0 where
  -- the ledger: as it was, or with the record of the close; after a close that was made, with it
  pub ledger : reveals → (m : Machine) → KeepsMachine v m → MayHaveClosed v m (closing_in v.ledger.shape m message) old new
  pub closed : made → reveals → (m : Machine) (c : Closing) → KeepsMachine v m → closing_in v.ledger.shape m message ≡ c ∷ [] → HasClosed v w m (c ∷ []) old new
  -- no want of memory from the first write of the record on
  pub quiet : dry → reveals → LeavesLedger old new
  -- the blocks of X and W stay, and so do the files that are not the archive's, at each moment; and when the disk is at fault
  pub writes : OnlyWrites reveals (IsReady old) (HasTakeRoom v message old) fault
      (ChangesArchive v.ledger.shape raised_limit (IsBlockIn v.ledger.shape v.heads.lattice.n) (IsBesides v.ledger.shape)) old new
  pub padded : (fault → ⊥) → reveals → KeepsPadded v.ledger.shape (IsBlockIn v.ledger.shape v.heads.lattice.n) old.files new.files

-- Of a message that the session took, whatever the result: the session, the disk and the output before and after it.
pub record Takes (reveals : Type 0) (v w : Work) (message : Message) (old new : State) (before after : SinkState) (result : Result ℕ TakeFault) : Type 0 where
  pub moves : OnOk result (Moves reveals v w message old new)
  -- the reply; where there is a fault nothing, or a part of one
  pub replies : IfOk result (λ code. (m : Machine) → KeepsMachine v m → Replies (IsReplyTo reveals v.ledger m old.files message code) before after)
  pub part : IfErr result (λ fault. (m : Machine) → KeepsMachine v m → (after ≡ before) ⊎ RepliesPart (MayBegin reveals v.ledger m old.files message) before after)
  -- of the reply to a close nothing stands there but where the output failed, once the close was made
  pub unsaid : IfErr result (λ fault. fault ≢ WriteFault → (slot : ℕ) → message ≡ Close slot → after ≡ before)
  pub flushed : OnOk result (IsFlushed after)
  -- what is left of the disk; a close whose reply failed was made
  pub leaves : Leaves reveals v w message old new (IsOk result ⊎ (result ≡ Err WriteFault)) (result ≡ Err DiskFault) (result ≡ Err NoMemory)
  -- only a block of an object that is read, and never where the disk's contents are known, is intact and then damaged
  pub damaged : (b : BlockId) → result ≡ Err (Damaged b) → IsRead v message b × (reveals → ⊥)
  -- when the output is at fault: not where there is space for the reply to some state that the session keeps
  pub out_kept : before.faults ≤ after.faults
  pub out_cause : result ≡ Err WriteFault → Rose before.faults after.faults
  pub out_still : result ≢ Err WriteFault → after.faults ≡ before.faults
  pub in_room : (room : ℕ) → before.room ≡ Some room → (m : Machine) → KeepsMachine v m → greatest_reply (step v.ledger.shape m message).answer ≤ room
      → result ≢ Err WriteFault
