-- Runs that a stop may cut off, and runs that go on from what a stop left.
use Rattle.std.specs.Prelude.{◌≡◌, ◌≢◌, ◌⊎◌, ◌≤◌, ℕ, List, [], ◌∷◌, ◌++◌, length, Option, Result, Err, IsErr}
use Rattle.sha2.specs.Sha256.{sha256}
use Rattle.aea_lattice.specs.declared.blocks.BlockId.{BlockId}
use Rattle.aea_lattice.specs.declared.shape.Shape.{Shape}
use Rattle.aea_io.specs.Streams.{SinkState}
use Rattle.aea_disk.specs.Files.{Files}
use Rattle.aea_disk.specs.State.{State, IsFixed, IsSynced}
use Rattle.aea_records.specs.Format.{Record, Stored, Object, nodes_of, digests_of}
use Rattle.aea_ledger.specs.Stops.{HasLedger, HasOpening}
use Rattle.aea_ledger.specs.Values.{Opened, HasRecords}
use Rattle.aea_archive.specs.Blocks.{IsBlockIn, IsIntactBy}
use Rattle.aea_archive.specs.Next.{NewObject}
use Rattle.aea_append.specs.Puts.{IsWhole}
use Rattle.aea_messages.specs.declared.message.Message.{Message}
use Rattle.aea_machine.specs.Closings.{Closing}
use Rattle.aea_uploads.specs.Laws.{AreWide}
use Rattle.aea_session.specs.declared.serving.Stop.{Stop}
use Rattle.aea_command.specs.declared.refusal.Refusal.{Refusal}
use Rattle.aea_command.specs.declared.refusal.Failure.TheVariants as failure
use Rattle.aea_command.specs.Failures.{Answer}
use Rattle.aea_command_store.specs.Adding.{AddsRecord}
use Rattle.aea_command_store.specs.Fence.{next_fence}
use Rattle.aea_command_store.specs.Ingest.{MayBeLast, StoresFrames}
use Rattle.aea_command_store.specs.Put.{EndsStored, Stores}
use Rattle.aea_command_store.specs.Upgrade.{next_raise}
use Rattle.aea_command_session.specs.Closes.{IsMade, MayBeMade, closes_of}
use Rattle.aea_session.specs.Closes.{AreRecordsOfCloses}
use Rattle.aea_command_session.specs.Session.{AnswersBy, Serves, Sessions}

-- A run of `put`: the name, what the input had before and after it, and its answer.
pub record PutRun : Type 0 where
  pub name : List ℕ
  pub left : Option (List ℕ)
  pub rest : Option (List ℕ)
  pub answer : Answer

-- A run of `ingest`: what the input had before and after it, the objects whose lines were printed, the one whose line was
-- begun, and its answer.
pub record IngestRun : Type 0 where
  pub left : Option (List ℕ)
  pub rest : Option (List ℕ)
  pub printed : List NewObject
  pub more : List NewObject
  pub answer : Answer

-- A run of `session`: what the input and the output had before and after it, and its answer.
pub record SessionRun : Type 0 where
  pub left : Option (List ℕ)
  pub rest : Option (List ℕ)
  pub before : SinkState
  pub after : SinkState
  pub answer : Answer

-- What a run is: one of `put`, of `ingest`, of `session`, of `fence` or of `upgrade`, or one of a command that leaves the ledger as
-- it is.
pub data RunKind : Type 0 where
  Putting : PutRun → RunKind
  Ingesting : IngestRun → RunKind
  Sessioning : SessionRun → RunKind
  Fencing : Answer → RunKind
  Raising : Answer → RunKind
  Leaving : RunKind

-- what a run does to a disk whose contents are known
abbrev pub DoesRun : RunKind → Type 0 → State → State → Type 0
DoesRun (Putting p) reveals old new = Stores p.name reveals old new p.left p.rest p.answer
DoesRun (Ingesting i) reveals old new = StoresFrames reveals old new i.left i.rest i.printed i.more i.answer
DoesRun (Sessioning s) reveals old new = Sessions reveals old new s.left s.rest s.before s.after s.answer
DoesRun (Fencing answer) reveals old new = AddsRecord next_fence reveals old new answer
DoesRun (Raising answer) reveals old new = AddsRecord next_raise reveals old new answer
DoesRun Leaving reveals old new = reveals → HasOpening old new (λ c. c 0 ≡ old.files 0)

-- A run over a disk of a type whose values have these states: the disk before it, and after it had it gone on to its end; and
-- the files that a stop left, an image of some moment of it.
pub record StoppedRun (D reveals : Type 0) (state : D → State) : Type 0 where
  pub old : D
  pub new : D
  pub kind : RunKind
  pub does : DoesRun kind reveals (state old) (state new)
  pub moment : ℕ
  pub from : (state old).moment ≤ moment
  pub to : moment ≤ (state new).moment
  pub files : Files
  pub image : (state new).image moment files

-- the record has the object's name, length and SHA-256
abbrev pub IsRecordOf : NewObject → Record → Type 0
IsRecordOf o r = (stored : Stored) × (r ≡ Object stored) × (stored.name ≡ o.name) × (stored.size ≡ length o.bytes) × (stored.digest ≡ sha256 o.bytes)

-- the records are those of the objects, in order
abbrev pub AreRecordsFor : List NewObject → List Record → Type 0
AreRecordsFor [] [] = Unit {0}
AreRecordsFor [] (r ∷ records) = ⊥
AreRecordsFor (o ∷ objects) [] = ⊥
AreRecordsFor (o ∷ objects) (r ∷ records) = IsRecordOf o r × AreRecordsFor objects records

-- the object is that of the put, all that the input had, under the name; and the put said that it is stored, or the disk
-- failed in it
abbrev pub IsPutOf : PutRun → NewObject → Type 0
IsPutOf p o = (EndsStored p.answer ⊎ (p.answer ≡ Err failure.Disk)) × IsWhole p.name p.left p.rest o

-- The records are those of the first objects of the ingest: of those whose lines were printed, of the one whose line was begun,
-- and of the one whose commit was under way where the disk failed. Where the run ended before the stop, each object whose
-- line was printed, or begun, has its record.
pub record AreIngested (i : IngestRun) (ended : Type 0) (added : List Record) : Type 0 where
  pub last : List NewObject
  pub may : MayBeLast i.left i.printed i.answer last
  pub objects : List NewObject
  pub others : List NewObject
  pub first : objects ++ others ≡ (i.printed ++ i.more) ++ last
  pub records : AreRecordsFor objects added
  pub acknowledged : ended → length (i.printed ++ i.more) ≤ length objects

-- No record: the session did not begin. It failed, with nothing taken of the input and nothing printed.
abbrev pub IsUnserved : SessionRun → List Record → Type 0
IsUnserved s added = IsErr s.answer × (s.rest ≡ s.left) × (s.after ≡ s.before) × (added ≡ [])

-- The session began over an archive of this shape with these records, and took its messages. The records that were added are
-- those of the first of their closes: of the messages that were answered, of the one that was made though its reply was not taken,
-- and of the one that was under way where the disk failed. Where the run ended before the stop, each close that was answered, or
-- whose reply was begun, has its record. The closes are over some X with as many blocks as the archive has nodes; what these are
-- makes no difference to the record of a close.
pub record AreServed (reveals : Type 0) (shape : Shape) (records : List Record) (s : SessionRun) (ended : Type 0) (added : List Record) : Type 0 where
  pub v : Opened
  pub same : v.shape ≡ shape
  pub has : HasRecords v records
  -- those at its beginning, and those at its end, to which it would have gone on
  pub files : Files
  pub last : Files
  pub messages : List Message
  pub tail : List ℕ
  pub result : Result (Unit {0}) Stop
  pub by : AnswersBy result s.answer
  pub serves : Serves reveals v files last s.left s.rest s.before s.after messages tail result
  pub datas : List (List ℕ)
  pub long : length datas ≡ nodes_of records
  pub wide : AreWide shape datas
  pub made : List Message
  pub is_made : IsMade result tail made
  pub more : List Message
  pub may : MayBeMade result tail more
  pub closings : List Closing
  pub others : List Closing
  pub first : closings ++ others ≡ closes_of v datas (messages ++ more)
  pub are : AreRecordsOfCloses closings added
  pub acknowledged : ended → length (closes_of v datas (messages ++ made)) ≤ length closings

-- no record: the run did not end before the stop with an answer that says that something was added
abbrev pub IsUnadded : Answer → Type 0 → List Record → Type 0
IsUnadded answer ended added = (EndsStored answer → ended → ⊥) × (added ≡ [])

-- the record alone; and the run was not refused, and memory did not run out
abbrev pub IsAdded : Answer → Record → List Record → Type 0
IsAdded answer r added = ((why : Refusal) → answer ≢ Err (failure.Refused why)) × (answer ≢ Err failure.Memory) × (added ≡ r ∷ [])

-- the records are what a stop of the run leaves, in an archive of this shape, after these that were there
abbrev pub IsLeftBy : Type 0 → Shape → List Record → RunKind → Type 0 → List Record → Type 0
IsLeftBy reveals shape records (Putting p) ended added = IsUnadded p.answer ended added ⊎ ((o : NewObject) × IsPutOf p o × AreRecordsFor (o ∷ []) added)
IsLeftBy reveals shape records (Ingesting i) ended added = AreIngested i ended added
IsLeftBy reveals shape records (Sessioning s) ended added = IsUnserved s added ⊎ AreServed reveals shape records s ended added
IsLeftBy reveals shape records (Fencing answer) ended added = IsUnadded answer ended added ⊎ IsAdded answer (next_fence records) added
IsLeftBy reveals shape records (Raising answer) ended added = IsUnadded answer ended added ⊎ IsAdded answer (next_raise records) added
IsLeftBy reveals shape records Leaving ended added = added ≡ []

-- These files are found where those were left: all but the ledger are the same, and of that whatever shape and records it has. So
-- it is where nothing came between; and where the ledger was damaged, or lost, and made anew from a copy.
pub record IsFoundOf (left found : Files) : Type 0 where
  pub others : (f : ℕ) → f ≢ 0 → found f ≡ left f
  pub ledger : (shape : Shape) (records : List Record) → HasLedger shape records (left 0) → HasLedger shape records (found 0)

-- The runs went on one after the other, from these files to those that are found after the last stop: each began over a disk that
-- reads as what is found after the stop before it, and with nothing pending on its ledger.
abbrev pub GoOn : (D reveals : Type 0) (state : D → State) → Files → List (StoppedRun D reveals state) → Files → Type 0
GoOn D reveals state first [] last = IsFoundOf first last
GoOn D reveals state first (r ∷ runs) last = IsFoundOf first (state r.old).files × IsFixed (state r.old) 0 × GoOn D reveals state r.files runs last

-- the records are those that the runs left after these, in order, in an archive of this shape
abbrev pub AreKept : (D reveals : Type 0) (state : D → State) → Shape → List Record → List (StoppedRun D reveals state) → List Record → Type 0
AreKept D reveals state shape records [] added = added ≡ []
AreKept D reveals state shape records (r ∷ runs) added =
    (one : List Record) × (rest : List Record) × (added ≡ one ++ rest) × IsLeftBy reveals shape records r.kind (r.moment ≡ (state r.new).moment) one
    × AreKept D reveals state shape (records ++ one) runs rest

-- Each block of an archive with the later records that is one of the nodes after those of the records before, or was intact, by
-- these, in the old files, is intact in the new ones.
abbrev pub KeepsBlocks : Shape → List Record → List Record → Files → Files → Type 0
KeepsBlocks shape records later old new =
    (b : BlockId) → IsBlockIn shape (nodes_of later) b → (b.node ≤ nodes_of records → IsIntactBy shape (digests_of records) old b) → IsIntactBy shape (digests_of later) new b

-- A run of a command that leaves the ledger leaves the blocks that are intact too: from its first sync on, in every image.
abbrev pub LeavesBlocks : RunKind → Type 0 → State → State → Type 0
LeavesBlocks Leaving reveals old new =
    reveals → (shape : Shape) (records : List Record) → HasLedger shape records (old.files 0) → HasOpening old new (KeepsBlocks shape records records old.files)
LeavesBlocks kind reveals old new = Unit {0}

-- Of a run that leaves the blocks of others: it does, and it began with nothing pending, on the ledger and on the sites.
pub record SparesBlocks (kind : RunKind) (reveals : Type 0) (old new : State) : Type 0 where
  pub synced : IsSynced old
  pub leaves : LeavesBlocks kind reveals old new

-- and so does each of these runs
abbrev pub AllSpareBlocks : (D reveals : Type 0) (state : D → State) → List (StoppedRun D reveals state) → Type 0
AllSpareBlocks D reveals state [] = Unit {0}
AllSpareBlocks D reveals state (r ∷ runs) = SparesBlocks r.kind reveals (state r.old) (state r.new) × AllSpareBlocks D reveals state runs

-- However many runs there are, and wherever each was stopped: the ledger that is found after the last stop has the records that were
-- there before the first, and after them, in order, those that the runs added, of each that was acknowledged. And where each run
-- began with nothing pending, every block of these is intact, and so is each block that was so before the first run.
abbrev pub StopsKeepPuts : {D : Type 0} → Type 0 → (D → State) → Type 0
StopsKeepPuts {D} reveals state =
    reveals → (shape : Shape) (records : List Record) (runs : List (StoppedRun D reveals state)) (first last : Files) → HasLedger shape records (first 0) → GoOn D reveals state first runs last
    → (added : List Record) × AreKept D reveals state shape records runs added × HasLedger shape (records ++ added) (last 0)
    × (AllSpareBlocks D reveals state runs → KeepsBlocks shape records (records ++ added) first last)
