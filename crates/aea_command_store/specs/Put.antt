-- What `put` does: the line that it prints, why it is refused, and the effect on the archive.
use Rattle.std.specs.Prelude.{◌≡◌, ◌≢◌, ◌⊎◌, ◌≤◌, ◌<◌, ℕ, ◌+◌, ◌-◌, ◌*◌, List, [], ◌∷◌, ◌++◌, length, codes, decimal, All, Option, Result, Err, IsOk, IfOk}
use Rattle.std.specs.Io.KnownBytes.{Consumes, IsAtEnd}
use Rattle.hex.specs.Hex.{encode_lower}
use Rattle.sha2.specs.Sha256.{sha256}
use Rattle.aea_io.specs.Streams.{SinkState}
use Rattle.aea_io.specs.Taken.{TakesAtMost}
use Rattle.aea_lattice.specs.declared.blocks.BlockId.{BlockId}
use Rattle.aea_lattice.specs.declared.grid.Lattice.{Lattice}
use Rattle.aea_lattice.specs.declared.shape.Shape.{Shape}
use Rattle.aea_disk.specs.Files.{Files}
use Rattle.aea_disk.specs.State.{State, KeepsImages, IsReady, IsRoomy, NeverFails}
use Rattle.aea_catalog.specs.Names.{IsName}
use Rattle.aea_shelf.specs.Writes.{KeepsPadded}
use Rattle.aea_records.specs.Faults.{IsNoArchive, IsBadAt}
use Rattle.aea_records.specs.Format.{Record, greatest_objects, nodes_for, nodes_of, fences_of, digests_of, stored_of, limit_of, spelled}
use Rattle.aea_records.specs.Laws.{IsSomeLedger}
use Rattle.aea_ledger.specs.Taking.{FitsAdding}
use Rattle.aea_ledger.specs.Recorded.{IsLatticeOf}
use Rattle.aea_ledger.specs.Stops.{HasLedger, IsOpened, HasOpening}
use Rattle.aea_archive.specs.Blocks.{IsBlockIn}
use Rattle.aea_archive.specs.Cells.{HaveSitesRoom}
use Rattle.aea_archive.specs.Lasts.{IsFirstDamagedLast}
use Rattle.aea_archive.specs.Next.{NewObject}
use Rattle.aea_append.specs.Causes.{next_end}
use Rattle.aea_append.specs.Puts.{IsWhole}
use Rattle.aea_command.specs.declared.refusal.Refusal.{Refusal}
use Rattle.aea_command.specs.declared.refusal.Refusal.TheVariants.{NoArchive, LedgerBad, BadName, NameTaken, CatalogFull, HeadDamaged, Full}
use Rattle.aea_command.specs.declared.refusal.Failure.{Failure}
use Rattle.aea_command.specs.declared.refusal.Failure.TheVariants as failure
use Rattle.aea_command.specs.declared.status.Status.TheVariants.{Done}
use Rattle.aea_command.specs.Openings.{IsUntouched, OpensThen, OpensOr, KeepsAllBut, greatest_sites}
use Rattle.aea_command.specs.Causes.{place_of}
use Rattle.aea_command.specs.Failures.{Answer}
use Rattle.aea_command_store.specs.Growing.{Grows, StaysGrown, HasGrown}
use Rattle.aea_command.specs.Lines.{newline}
use Rattle.aea_command.specs.Printed.{PrintsText}

-- `stored NODES LENGTH DIGEST NAME`
abbrev pub stored_text : ℕ → ℕ → List ℕ → List ℕ → List ℕ
stored_text nodes size digest name =
    codes "stored " ++ decimal nodes ++ codes " " ++ decimal size ++ codes " " ++ encode_lower digest ++ codes " " ++ name ++ newline

-- the line of an object that is stored in an archive of this shape
abbrev pub stored_line : Shape → NewObject → List ℕ
stored_line shape o = stored_text (nodes_for shape (length o.bytes)) (length o.bytes) (sha256 o.bytes) o.name

-- the object with these bytes under this name
abbrev pub object_of : List ℕ → List ℕ → NewObject
object_of name bytes = record { name = name; bytes = bytes }

-- the bytes are a ledger in which an object has the name
pub record HasName (bytes name : List ℕ) : Type 0 where
  pub shape : Shape
  pub records : List Record
  pub ledger : HasLedger shape records bytes
  pub taken : All (λ o. o.name ≢ name) (stored_of records) → ⊥

-- the bytes are a ledger with the most objects that there may be
pub record HasAllObjects (bytes : List ℕ) : Type 0 where
  pub shape : Shape
  pub records : List Record
  pub ledger : HasLedger shape records bytes
  pub many : length (stored_of records) ≡ greatest_objects

-- the files are an archive in which this is the damaged last parity with the least number
pub record HasDamagedHead (files : Files) (block : BlockId) : Type 0 where
  pub shape : Shape
  pub records : List Record
  pub ledger : HasLedger shape records (files 0)
  pub lattice : Lattice
  pub is_lattice : IsLatticeOf shape (nodes_of records) (fences_of records) lattice
  pub first : IsFirstDamagedLast shape lattice (digests_of records) files block

-- the bytes are a ledger with so many nodes, and the object takes more than are left
pub record IsFull (bytes input : List ℕ) (nodes : ℕ) : Type 0 where
  pub shape : Shape
  pub records : List Record
  pub ledger : HasLedger shape records bytes
  pub counted : nodes ≡ nodes_of records
  pub past : limit_of records < nodes_of records + nodes_for shape (length input)

-- why an object with these bytes is not stored under the name, in a folder with these files
abbrev pub PutCauses : List ℕ → Files → List ℕ → Refusal → Type 0
PutCauses name files input NoArchive = IsNoArchive (files 0)
PutCauses name files input (LedgerBad at) = IsBadAt (files 0) at
PutCauses name files input BadName = IsSomeLedger (files 0) × (IsName name → ⊥)
PutCauses name files input NameTaken = HasName (files 0) name
PutCauses name files input CatalogFull = HasAllObjects (files 0)
PutCauses name files input (HeadDamaged block) = HasDamagedHead files block
PutCauses name files input (Full nodes) = IsFull (files 0) input nodes
PutCauses name files input why = ⊥

-- a refusal that the input decides too: the object is too long
abbrev pub IsByInput : Refusal → Type 0
IsByInput (Full nodes) = Unit {0}
IsByInput why = ⊥

-- the bytes are a ledger of this shape with this limit on nodes
pub record HasLimit (shape : Shape) (limit : ℕ) (bytes : List ℕ) : Type 0 where
  pub records : List Record
  pub ledger : HasLedger shape records bytes
  pub is : limit ≡ limit_of records

-- the bytes are a ledger, and the one with an object under this name, which is one, with all the bytes that the source has, if
-- they fit the limit, has its ending gate at this place
pub record WouldEndAt (name : List ℕ) (left : Option (List ℕ)) (bytes : List ℕ) (end : ℕ) : Type 0 where
  pub shape : Shape
  pub records : List Record
  pub ledger : HasLedger shape records bytes
  pub rest : Option (List ℕ)
  pub taken : List ℕ
  pub takes : Consumes left rest taken
  pub all : IsAtEnd rest
  pub named : IsName name
  pub fits : nodes_of records + nodes_for shape (length taken) ≤ limit_of records
  pub place : end ≡ next_end (length (spelled shape records)) (length name) (nodes_for shape (length taken) * (1 + shape.alpha))

-- The disk has some space, and to sync; and where it has an archive, space for the rows that its sites may have, and for the
-- record up to the place at which the new ledger is to end, of a disk on which the file is not known whatever and wherever that
-- is.
pub record FitsPut (name : List ℕ) (reveals : Type 0) (left : Option (List ℕ)) (s : State) : Type 0 where
  pub some : IsRoomy s
  pub sites : (shape : Shape) (limit : ℕ) → (reveals → HasLimit shape limit (s.files 0)) → HaveSitesRoom shape limit s
  pub behind : (end : ℕ) → (reveals → WouldEndAt name left (s.files 0) end) → FitsAdding s 1 end

-- a refusal that comes before the input is read
abbrev pub IsEarly : Refusal → Type 0
IsEarly why = place_of why < place_of (Full 0)

-- The disk has some space, and to sync; and unless there is a cause for a refusal before the input is read, space for all that a
-- put writes, of a disk on which the files are not known in any case.
pub record FitsPutUnlessRefused (name : List ℕ) (reveals : Type 0) (left : Option (List ℕ)) (s : State) : Type 0 where
  pub some : IsRoomy s
  pub all : (reveals → (why : Refusal) → IsEarly why → PutCauses name s.files [] why → ⊥) → FitsPut name reveals left s

-- an answer after which the object is stored
abbrev pub EndsStored : {T : Type 0} → Result T Failure → Type 0
EndsStored answer = IsOk answer ⊎ (answer ≡ Err failure.Output)

-- The object is stored, or may be: none is, but after a fault of the disk, and where it is stored, the whole input under
-- this name.
abbrev pub MayHavePut : {T : Type 0} → List ℕ → Option (List ℕ) → Option (List ℕ) → Result T Failure → List NewObject → Type 0
MayHavePut name left rest answer objects =
    (objects ≡ []) ⊎ ((EndsStored answer ⊎ (answer ≡ Err failure.Disk)) × ((o : NewObject) × IsWhole name left rest o × (objects ≡ o ∷ [])))

-- Memory ran out before the archive was opened: every image and every file is as it was.
pub record IsOutOfMemory {T : Type 0} (old new : State) (answer : Result T Failure) : Type 0 where
  pub by : answer ≡ Err failure.Memory
  pub images : KeepsImages old new
  pub reads : new.files ≡ old.files

-- Of a run that stores what the input has under a name, with the disk and the rest of the input before and after it, and
-- what it returns:
pub record Stores {T : Type 0} (name : List ℕ) (reveals : Type 0) (old new : State) (left rest : Option (List ℕ)) (answer : Result T Failure) : Type 0 where
  -- where it is done, and where the output failed, there was an archive, and the object with all that the input had is
  -- in every image, and its blocks are held
  pub archive : EndsStored answer → reveals → IsSomeLedger (old.files 0)
  pub stands : EndsStored answer → reveals → (shape : Shape) (records : List Record) → HasLedger shape records (old.files 0)
      → (o : NewObject) × IsWhole name left rest o × OpensThen old new (HasGrown shape records (o ∷ []))
  -- what a stop at any moment leaves: from the first sync on the archive before, or the one with the object
  pub stops : reveals → (shape : Shape) (records : List Record) → HasLedger shape records (old.files 0)
      → (objects : List NewObject) × MayHavePut name left rest answer objects × OpensOr old new (Grows shape records objects)
  -- but after a fault of the disk what was stored is in every image and as the disk reads, with its blocks held, and nothing
  -- else is; and survivors that were honest, in plain damage, are so
  pub stays : answer ≢ Err failure.Disk → reveals → (shape : Shape) (records : List Record) → HasLedger shape records (old.files 0)
      → (objects : List NewObject) × MayHavePut name left rest answer objects
      × (IsOutOfMemory old new answer ⊎ OpensThen old new (StaysGrown shape records objects))
  -- a refusal before the input is read leaves the disk and the input as they were
  pub untouched : (why : Refusal) → IsEarly why → answer ≡ Err (failure.Refused why) → IsUntouched reveals old new × (rest ≡ left)
  -- any other, a fault of the input and lack of memory leave the ledger as it was, and so does any answer where there is
  -- no ledger
  pub leaves : (f : Failure) → f ≢ failure.Disk → f ≢ failure.Output → answer ≡ Err f → reveals
      → HasOpening old new (λ c. c 0 ≡ old.files 0) × (new.files 0 ≡ old.files 0)
  pub none : reveals → (IsSomeLedger (old.files 0) → ⊥) → KeepsImages old new × (new.files ≡ old.files)
  -- and but after lack of memory, which may come before the first call, the first sync has succeeded
  pub sure : (f : Failure) → f ≢ failure.Disk → f ≢ failure.Output → f ≢ failure.Memory → answer ≡ Err f → reveals
      → IsOpened old new (λ c. c 0 ≡ old.files 0)
  -- but after a fault of the disk the homes of the blocks that there were read as they did, with zeros past the ends of files
  pub padded : answer ≢ Err failure.Disk → reveals → (shape : Shape) (records : List Record) → HasLedger shape records (old.files 0)
      → KeepsPadded shape (IsBlockIn shape (nodes_of records)) old.files new.files
  -- no more of the input is taken than the nodes that are left hold, and one byte
  pub takes : reveals → (shape : Shape) (records : List Record) → HasLedger shape records (old.files 0)
      → TakesAtMost left rest ((limit_of records - nodes_of records) * shape.block + 1)
  -- where the disk is ready and has the space nothing fails
  pub in_room : reveals → IsReady old → NeverFails (FitsPut name reveals left old) (answer ≢ Err failure.Disk) old new
  -- and where there is a cause for a refusal before the input is read, it needs no space but to sync
  pub refused_in_room : reveals → (why : Refusal) → IsEarly why → PutCauses name old.files [] why
      → IsReady old → NeverFails (IsRoomy old) (answer ≢ Err failure.Disk) old new

-- The text is the line of the object with all that the input had, under the name, in an archive of some shape, which is
-- that of the ledger where the disk's contents are known.
pub record IsStoredLine (name : List ℕ) (reveals : Type 0) (bytes : List ℕ) (left rest : Option (List ℕ)) (text : List ℕ) : Type 0 where
  pub shape : Shape
  pub o : NewObject
  pub whole : IsWhole name left rest o
  pub line : text ≡ stored_line shape o
  pub is_shape : reveals → (other : Shape) (records : List Record) → HasLedger other records bytes → shape ≡ other

-- of calls that change the files of an archive alone
abbrev pub KeepsOtherFiles : Type 0 → Type 0 → State → State → Type 0
KeepsOtherFiles reveals fault old new = KeepsAllBut (λ file. file ≤ greatest_sites) reveals fault old new

-- Of a run that stores what the input has under a name, with the disk, the rest of the input, and `out` before and after
-- it, and its answer:
pub record Puts (name : List ℕ) (reveals : Type 0) (old new : State) (left rest : Option (List ℕ)) (before after : SinkState) (answer : Answer) : Type 0 where
  -- no block is lost
  pub done : IfOk answer (λ status. status ≡ Done)
  -- the effect on the archive
  pub stores : Stores name reveals old new left rest answer
  -- what is printed: the line of the object
  pub text : List ℕ
  pub line : EndsStored answer → IsStoredLine name reveals (old.files 0) left rest text
  pub prints : PrintsText before after answer text
