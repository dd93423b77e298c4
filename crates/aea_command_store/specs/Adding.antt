-- What a command does that adds a record to the ledger of the archive. The record is determined by the records that are there.
use Rattle.std.specs.Prelude.{◌≡◌, ◌≢◌, ◌⊎◌, ◌≤◌, ◌+◌, ℕ, List, [], ◌∷◌, ◌++◌, length, max, Result, Err, IsOk}
use Rattle.aea_lattice.specs.declared.shape.Shape.{Shape}
use Rattle.aea_disk.specs.Files.{Files, ChangesOnly}
use Rattle.aea_faults.specs.Faults.{Rose}
use Rattle.aea_disk.specs.State.{State, Passes, KeepsOthers, IsSynced, IsReady, IsRoomy, NeverFails}
use Rattle.aea_records.specs.Format.{Record, body, entry, spelled}
use Rattle.aea_records.specs.Grammar.{IsNext}
use Rattle.aea_records.specs.Laws.{IsSomeLedger}
use Rattle.aea_ledger.specs.Recorded.{AreRecordsOf}
use Rattle.aea_ledger.specs.Taking.{FitsAdding}
use Rattle.aea_ledger.specs.Stops.{HasLedger, HasOldOrNew, IsOpened, HasOpening, committed}
use Rattle.aea_command.specs.Openings.{IsUntouched}
use Rattle.aea_command.specs.declared.refusal.Refusal.{Refusal}
use Rattle.aea_command.specs.declared.refusal.Failure.{Failure}
use Rattle.aea_command.specs.declared.refusal.Failure.TheVariants as failure

-- The record was added: the file was a ledger, and is the one with the record after its own. It is the old file, byte for
-- byte, with the body of the record and a closed gate written after the ending gate, and that gate opened. What data the
-- old ledger records, the new one does.
pub record HasAddedRecord (adds : List Record → Record) (old new : List ℕ) : Type 0 where
  pub shape : Shape
  pub records : List Record
  pub before : HasLedger shape records old
  pub after : HasLedger shape (records ++ adds records ∷ []) new
  pub exactly : new ≡ committed old (length (spelled shape records)) (body (adds records) ++ 0 ∷ [])
  pub recorded : (datas : List (List ℕ)) → AreRecordsOf shape records datas → AreRecordsOf shape (records ++ adds records ∷ []) datas

-- The record was added or not: what was a ledger is that one, or the one with the record after its own; what was none is
-- as it was, and so is every other file. Where the record is there, what data the records before it record is recorded with it.
pub record MayHaveAdded (adds : List Record → Record) (old new : Files) : Type 0 where
  pub ledger : (shape : Shape) (records : List Record) → HasLedger shape records (old 0) → HasOldOrNew shape records (adds records) (new 0)
  pub recorded : (shape : Shape) (records : List Record) (datas : List (List ℕ)) → HasLedger shape (records ++ adds records ∷ []) (new 0)
      → AreRecordsOf shape records datas → AreRecordsOf shape (records ++ adds records ∷ []) datas
  pub none : (IsSomeLedger (old 0) → ⊥) → new 0 ≡ old 0
  pub others : ChangesOnly 0 old new

-- The bytes are a ledger that the record may follow, and the new ledger has its ending gate at this place.
pub record WouldEndAt (adds : List Record → Record) (bytes : List ℕ) (end : ℕ) : Type 0 where
  pub shape : Shape
  pub records : List Record
  pub ledger : HasLedger shape records bytes
  pub next : IsNext shape records (adds records)
  pub place : end ≡ length (spelled shape records) + length (entry (adds records))

-- The disk has some space, and to sync; and where the record may follow those of the file, it has space for it up to the place
-- at which the new ledger is to end, of a disk on which the file is not known wherever that is.
pub record FitsRecord (adds : List Record → Record) (reveals : Type 0) (s : State) : Type 0 where
  pub some : IsRoomy s
  pub behind : (end : ℕ) → (reveals → WouldEndAt adds (s.files 0) end) → FitsAdding s 1 end

-- Of a run that adds the record, with the disk before and after it, and what it returns:
pub record AddsRecord {T : Type 0} (adds : List Record → Record) (reveals : Type 0) (old new : State) (answer : Result T Failure) : Type 0 where
  -- the record is there where it is done, and where the output failed, and nothing is pending
  pub stands : IsOk answer ⊎ (answer ≡ Err failure.Output) → reveals → HasAddedRecord adds (old.files 0) (new.files 0) × IsSynced new
  -- a refusal, and lack of memory, leave the disk as it was
  pub refused : (why : Refusal) → answer ≡ Err (failure.Refused why) → IsUntouched reveals old new
  pub out_of_memory : answer ≡ Err failure.Memory → IsUntouched reveals old new
  -- it begins with a sync: what a stop at any moment leaves, and what is there after any answer; but after a fault of the disk
  -- that sync has succeeded
  pub stops : reveals → HasOpening old new (MayHaveAdded adds old.files)
  pub opened : answer ≢ Err failure.Disk → reveals → IsOpened old new (MayHaveAdded adds old.files)
  pub reads : reveals → MayHaveAdded adds old.files new.files
  -- no write ends past the gate that ends the new ledger
  pub long : reveals → (shape : Shape) (records : List Record) → HasLedger shape records (old.files 0)
      → length (new.files 0) ≤ max (length (old.files 0)) (length (spelled shape records) + length (entry (adds records)) + 1)
  -- where the disk is ready and has the space nothing fails
  pub in_room : reveals → IsReady old → NeverFails (FitsRecord adds reveals old) (answer ≢ Err failure.Disk) old new

-- Of calls that change the ledger file alone, whatever they return: each other file stays, time goes on, and a fault of the
-- disk is returned only where the count rose, which never falls, and is what it was where none is; a ready disk whose
-- contents are known is at fault only where the count beneath rose.
pub record KeepsTheRest (reveals fault : Type 0) (old new : State) : Type 0 where
  pub others : KeepsOthers reveals 0 old new
  pub time : Passes old new
  pub kept : old.faults ≤ new.faults
  pub cause : fault → Rose old.faults new.faults
  pub still : (fault → ⊥) → new.faults ≡ old.faults
  pub beneath : reveals → IsReady old → fault → Rose old.beneath new.beneath
