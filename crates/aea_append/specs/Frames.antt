-- The frames of a stream of objects, and what a stream may begin with in place of one.
use Rattle.std.specs.Prelude.{◌≡◌, ◌⊎◌, ◌<◌, ◌≤◌, ℕ, ◌+◌, List, ◌++◌, length, take, drop, Option, Result, Err}
use Rattle.std.specs.Int.{w16, w64, from_be_bytes, to_be_bytes}
use Rattle.std.specs.Io.KnownBytes.{Consumes}
use Rattle.aea_lattice.specs.declared.blocks.BlockId.{BlockId}
use Rattle.aea_disk.specs.State.{State}
use Rattle.aea_catalog.specs.Names.{IsName}
use Rattle.aea_records.specs.Format.{nodes_for, limit_when}
use Rattle.aea_ledger.specs.Values.{Opened}
use Rattle.aea_archive.specs.Cells.{FitsRows}
use Rattle.aea_archive.specs.Next.{NewObject}
use Rattle.aea_append.specs.declared.frame.Head.{Head}
use Rattle.aea_append.specs.declared.frame.Head.TheVariants.{End, Cut, NoName, Whole}
use Rattle.aea_append.specs.declared.ingest.IngestFault.{IngestFault}
use Rattle.aea_append.specs.declared.ingest.IngestFault.TheVariants.{BadName, NameTaken, CatalogFull, HeadDamaged, Full, ReadFault, DiskFault, NoMemory}
use Rattle.aea_append.specs.Causes.{MayEnter, HasRecordRoom}

-- the head of a frame: the length of the name in 2 bytes, the name, and the length of the object in 8, high bytes first
abbrev pub frame_head : List ℕ → ℕ → List ℕ
frame_head name size = to_be_bytes w16 (length name) ++ name ++ to_be_bytes w64 size

-- the frame of an object: its head, and the bytes of the object
abbrev pub frame_of : NewObject → List ℕ
frame_of o = frame_head o.name (length o.bytes) ++ o.bytes

-- what was taken is the frame of this object
abbrev pub IsFramed : Option (List ℕ) → Option (List ℕ) → NewObject → Type 0
IsFramed left rest o = Consumes left rest (frame_of o)

-- the length of the name that a stream begins with
abbrev pub name_length : List ℕ → ℕ
name_length stream = from_be_bytes w16 (take 2 stream)

-- the name after it
abbrev pub frame_name : List ℕ → List ℕ
frame_name stream = take (name_length stream) (drop 2 stream)

-- the length of the object, after the name
abbrev pub object_length : List ℕ → ℕ
object_length stream = from_be_bytes w64 (take 8 (drop (2 + name_length stream) stream))

-- The length of a name is there, and it is one: from 1 to 255.
pub record HasNameLength (stream : List ℕ) : Type 0 where
  pub there : 2 ≤ length stream
  pub least : 1 ≤ name_length stream
  pub most : name_length stream ≤ 255

-- The length of a name is there, and it is none.
pub record HasNoName (stream : List ℕ) : Type 0 where
  pub there : 2 ≤ length stream
  pub none : (name_length stream ≡ 0) ⊎ (255 < name_length stream)

-- The head of a frame is there.
pub record HasHead (stream : List ℕ) : Type 0 where
  pub name : HasNameLength stream
  pub there : 10 + name_length stream ≤ length stream

-- the stream ends inside the head of a frame: in the length of the name, or after it, where that is one
abbrev pub EndsInHead : List ℕ → Type 0
EndsInHead stream = (length stream ≡ 1) ⊎ (HasNameLength stream × (length stream < 10 + name_length stream))

-- what was read of a stream: its end, a head that is cut, no length of a name, or a head with its name and the length
abbrev pub IsHeadOf : List ℕ → Head → List ℕ → Type 0
IsHeadOf stream End buffer = length stream ≡ 0
IsHeadOf stream Cut buffer = EndsInHead stream
IsHeadOf stream NoName buffer = HasNoName stream
IsHeadOf stream (Whole long size) buffer = HasHead stream × (take long buffer ≡ frame_name stream) × (size ≡ object_length stream) × (long ≡ name_length stream)

-- the stream begins with a length that is none of a name, or with the head of a frame whose name is none
abbrev pub HasBadName : List ℕ → Type 0
HasBadName stream = HasNoName stream ⊎ (HasHead stream × (IsName (frame_name stream) → ⊥))

-- The stream begins with the head of a frame whose object may enter the catalog.
pub record HasEntry (v : Opened) (stream : List ℕ) : Type 0 where
  pub head : HasHead stream
  pub enters : MayEnter v (frame_name stream)

-- the nodes of the object that a stream begins with fit
abbrev pub FitsFrame : Opened → List ℕ → Type 0
FitsFrame v stream = v.lattice.n + nodes_for v.shape (object_length stream) ≤ limit_when v.raised

-- they do not
abbrev pub IsTooLong : Opened → List ℕ → Type 0
IsTooLong v stream = limit_when v.raised < v.lattice.n + nodes_for v.shape (object_length stream)

-- how long the frame is that a stream begins with
abbrev pub frame_length : List ℕ → ℕ
frame_length stream = 10 + name_length stream + object_length stream

-- The stream ends inside a frame: in its head, or in the bytes of an object that may enter and fits.
abbrev pub EndsInside : Opened → List ℕ → Type 0
EndsInside v stream = EndsInHead stream ⊎ (HasEntry v stream × FitsFrame v stream × (length stream < frame_length stream))

-- a refusal by the name or the number of objects
abbrev pub IsEarlyFault : {T : Type 0} → Result T IngestFault → Type 0
IsEarlyFault result = (result ≡ Err BadName) ⊎ ((result ≡ Err NameTaken) ⊎ (result ≡ Err CatalogFull))

-- some last parity is damaged, but for a fault of the disk and lack of memory
abbrev pub IsHeadFault : {T : Type 0} → Result T IngestFault → Type 0
IsHeadFault result = ((b : BlockId) × (result ≡ Err (HeadDamaged b))) ⊎ ((result ≡ Err DiskFault) ⊎ (result ≡ Err NoMemory))

-- a read failed, or that
abbrev pub IsReadOrHeadFault : {T : Type 0} → Result T IngestFault → Type 0
IsReadOrHeadFault result = (result ≡ Err ReadFault) ⊎ IsHeadFault result

-- a refusal by the head of a frame that is one, before a byte of the object is read
abbrev pub IsByHead : {T : Type 0} → Result T IngestFault → Type 0
IsByHead result = (result ≡ Err NameTaken) ⊎ ((result ≡ Err CatalogFull) ⊎ (((b : BlockId) × (result ≡ Err (HeadDamaged b))) ⊎ ((nodes : ℕ) × (result ≡ Err (Full nodes)))))

-- The disk has space for all that may be written for the frame that the source can begin with: for the rows of the sites, and
-- for the record of its object.
pub record HasFrameRoom (v : Opened) (left : Option (List ℕ)) (s : State) : Type 0 where
  pub sites : FitsRows v.shape (limit_when v.raised) s
  pub ledger : (o : NewObject) (rest : Option (List ℕ)) → IsFramed left rest o → HasRecordRoom v o.name (length o.bytes) s
