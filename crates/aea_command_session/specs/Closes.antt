-- What a run leaves of the archive: it grows by the closes of its messages.
use Rattle.std.specs.Prelude.{◌≡◌, ◌⊎◌, ℕ, List, [], ◌∷◌, ◌++◌, length, take, Result, Err}
use Rattle.std.specs.List.{flat_map}
use Rattle.aea_lattice.specs.declared.shape.Shape.{Shape}
use Rattle.aea_disk.specs.State.{State, EveryImage}
use Rattle.aea_records.specs.Format.{Record, digests_of}
use Rattle.aea_records.specs.Grammar.{AreRecords}
use Rattle.aea_ledger.specs.Next.{AreItsRecords}
use Rattle.aea_ledger.specs.Recorded.{AreRecordsOf}
use Rattle.aea_ledger.specs.Values.{Opened}
use Rattle.aea_archive.specs.Lasts.{AreLastsHonest}
use Rattle.aea_archive.specs.Stretches.{HasAtLeast}
use Rattle.aea_messages.specs.declared.message.Message.{Message}
use Rattle.aea_messages.specs.Messages.{spelled}
use Rattle.aea_machine.specs.Closings.{Closing, closings_of, AreClosedRecords}
use Rattle.aea_machine.specs.Machine.{begun}
use Rattle.aea_append.specs.Puts.{AreBlocksWide}
use Rattle.aea_uploads.specs.Laws.{AreWide}
use Rattle.aea_session.specs.declared.fault.TakeFault.TheVariants.{DiskFault, WriteFault}
use Rattle.aea_session.specs.declared.serving.Stop.{Stop}
use Rattle.aea_session.specs.declared.serving.Stop.TheVariants as stop
use Rattle.aea_command_store.specs.Growing.{GrowsBy}

-- After these records, in a stretch of a run, the archive grows by the records of these closes, in order.
pub record GrowsByCloses (shape : Shape) (records : List Record) (datas : List (List ℕ)) (closings : List Closing) (old new : State) : Type 0 where
  pub by : GrowsBy shape records (λ l m payload added. AreClosedRecords shape l m payload closings added) old new
  -- the payloads of the new blocks are of a block's size
  pub wide : AreBlocksWide shape by.lattice.n by.longer.n by.payload
  -- Where the new records are there: if the archive recorded this data list, and the last parities are honest for it, it records the
  -- list with the blocks of the closes after it.
  pub more : AreRecords shape (records ++ by.added) → AreRecordsOf shape records datas → AreLastsHonest shape by.lattice (digests_of records) datas old.files
      → AreRecordsOf shape (records ++ by.added) (datas ++ flat_map (λ c. c.blocks) closings)

-- And every image at its end has the first k of the records, or more; so does what is read; and these record the list, if the records
-- before did, with the blocks of the first k closes.
pub record SurelyGrows (shape : Shape) (records : List Record) (datas : List (List ℕ)) (closings : List Closing) (k : ℕ) (old new : State) : Type 0 where
  pub grows : GrowsByCloses shape records datas closings old new
  pub first : EveryImage new (λ c. HasAtLeast shape records grows.by.added k (c 0))
  pub reads : HasAtLeast shape records grows.by.added k (new.files 0)
  pub recorded : AreRecordsOf shape records datas → AreLastsHonest shape grows.by.lattice (digests_of records) datas old.files
      → AreRecordsOf shape (records ++ take k grows.by.added) (datas ++ flat_map (λ c. c.blocks) (take k closings))

-- the message that was made though it was not answered: that whose reply the output did not take
abbrev pub IsMade : Result (Unit {0}) Stop → List ℕ → List Message → Type 0
IsMade (Err (stop.Taken WriteFault)) tail messages = (message : Message) × (tail ≡ spelled message) × (messages ≡ message ∷ [])
IsMade result tail messages = messages ≡ []

-- that one; or, where the disk failed, none or the one that was under way
abbrev pub MayBeMade : Result (Unit {0}) Stop → List ℕ → List Message → Type 0
MayBeMade (Err (stop.Taken WriteFault)) tail messages = (message : Message) × (tail ≡ spelled message) × (messages ≡ message ∷ [])
MayBeMade (Err (stop.Taken DiskFault)) tail messages = (messages ≡ []) ⊎ ((message : Message) × (tail ≡ spelled message) × (messages ≡ message ∷ []))
MayBeMade result tail messages = messages ≡ []

-- the closes of these messages, over an opened ledger and any X with as many blocks as it has nodes
abbrev pub closes_of : Opened → List (List ℕ) → List Message → List Closing
closes_of v datas messages = closings_of v.shape (begun datas v.objects) messages

-- The archive grew by the closes of these messages: those of the messages that were answered, and of the one that was made and not
-- answered, are in every image at its end; and there is none besides, but where the disk failed that which was under way.
abbrev pub ClosesAll : Opened → List Record → List (List ℕ) → List Message → List ℕ → Result (Unit {0}) Stop → State → State → Type 0
ClosesAll v records datas messages tail result old new =
    (made : List Message) × (more : List Message) × IsMade result tail made × MayBeMade result tail more
    × SurelyGrows v.shape records datas (closes_of v datas (messages ++ more)) (length (closes_of v datas (messages ++ made))) old new

-- It is so for each data list with as many blocks as the archive has nodes, whichever it records.
abbrev pub HasClosedAll : Opened → List Message → List ℕ → Result (Unit {0}) Stop → State → State → Type 0
HasClosedAll v messages tail result old new =
    (records : List Record) (datas : List (List ℕ)) → AreItsRecords v records (old.files 0) → length datas ≡ v.lattice.n → AreWide v.shape datas
    → ClosesAll v records datas messages tail result old new
