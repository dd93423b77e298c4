-- What `ingest` does: it stores the objects of a stream of frames one after the other, and prints a line for each.
use Rattle.std.specs.Prelude.{◌≡◌, ◌≢◌, ◌⊎◌, ◌≤◌, ◌<◌, ℕ, ◌+◌, ◌*◌, ◌^◌, List, [], ◌∷◌, ◌++◌, length, map, take, codes, decimal, All, Option, Some, Result, Err, IsOk, IfOk, IfErr, OnOk, IsErr}
use Rattle.std.specs.List.{flat_map}
use Rattle.std.specs.Io.KnownBytes.{Consumes, Appends, IsAtEnd}
use Rattle.aea_io.specs.Streams.{SinkState}
use Rattle.aea_lattice.specs.declared.blocks.BlockId.{BlockId}
use Rattle.aea_lattice.specs.declared.shape.Shape.{Shape}
use Rattle.aea_disk.specs.Files.{Files}
use Rattle.aea_disk.specs.State.{State, EveryImage, KeepsImages, IsReady, IsRoomy, NeverFails}
use Rattle.aea_catalog.specs.Names.{IsName}
use Rattle.aea_shelf.specs.Writes.{KeepsPadded}
use Rattle.aea_records.specs.Faults.{IsNoArchive, IsBadAt}
use Rattle.aea_records.specs.Format.{Record, Stored, Object, greatest_objects, nodes_for, nodes_of, stored_of, limit_of, limit_when, spelled}
use Rattle.aea_records.specs.Laws.{IsSomeLedger}
use Rattle.aea_ledger.specs.Taking.{FitsAdding}
use Rattle.aea_ledger.specs.Stops.{HasLedger, IsOpened, StaysAll}
use Rattle.aea_ledger.specs.Next.{AreItsRecords}
use Rattle.aea_ledger.specs.Values.{Opened}
use Rattle.aea_archive.specs.Blocks.{IsBlockIn}
use Rattle.aea_archive.specs.Cells.{HaveSitesRoom, FitsRows}
use Rattle.aea_archive.specs.Lasts.{AreLastsIntact}
use Rattle.aea_archive.specs.Next.{NewObject}
use Rattle.aea_archive.specs.Stretches.{HasAtLeast}
use Rattle.aea_append.specs.Causes.{next_end}
use Rattle.aea_append.specs.Frames.{frame_of, HasHead, HasBadName, EndsInHead, frame_name, object_length, frame_length}
use Rattle.aea_command.specs.declared.refusal.Refusal.{Refusal}
use Rattle.aea_command.specs.declared.refusal.Refusal.TheVariants.{NoArchive, LedgerBad, BadName, NameTaken, CatalogFull, HeadDamaged, Full, BadStream, Occupied}
use Rattle.aea_command.specs.declared.refusal.Failure.{Failure}
use Rattle.aea_command.specs.declared.refusal.Failure.TheVariants as failure
use Rattle.aea_command.specs.declared.status.Status.TheVariants.{Done}
use Rattle.aea_command.specs.Causes.{place_of}
use Rattle.aea_command.specs.Failures.{Answer}
use Rattle.aea_command.specs.Openings.{OpensThen}
use Rattle.aea_command_store.specs.Growing.{Grows, StaysGrown, HasGrown}
use Rattle.aea_command.specs.Lines.{newline}
use Rattle.aea_command.specs.Printed.{FitsText}
use Rattle.aea_command_store.specs.Put.{EndsStored, HasDamagedHead, HasLimit, stored_line}

-- ---- the texts

-- the frames of these objects, one after the other
abbrev pub frames_of : List NewObject → List ℕ
frames_of objects = flat_map frame_of objects

-- the lines of these objects, stored in an archive of this shape
abbrev pub stored_lines : Shape → List NewObject → List ℕ
stored_lines shape objects = flat_map (stored_line shape) objects

-- `end K`
abbrev pub end_line : ℕ → List ℕ
end_line k = codes "end " ++ decimal k ++ newline

-- the line that follows those of so many objects: that of one more, or, where there is none, the last
abbrev pub next_line : Shape → ℕ → List NewObject → List ℕ
next_line shape k [] = end_line k
next_line shape k (o ∷ objects) = stored_line shape o

-- ---- why a frame is not stored

-- How full an archive is: the names of its objects, its nodes, and the limit on them.
pub record Filled : Type 0 where
  pub names : List (List ℕ)
  pub nodes : ℕ
  pub limit : ℕ

-- that of an archive with these records
abbrev pub filled_by : List Record → Filled
filled_by records = record { names = map (λ o. o.name) (stored_of records); nodes = nodes_of records; limit = limit_of records }

-- and with one more object
abbrev pub filled_more : Shape → Filled → NewObject → Filled
filled_more shape f o = record { names = f.names ++ o.name ∷ []; nodes = f.nodes + nodes_for shape (length o.bytes); limit = f.limit }

-- and with several
abbrev pub filled_all : Shape → Filled → List NewObject → Filled
filled_all shape f [] = f
filled_all shape f (o ∷ objects) = filled_all shape (filled_more shape f o) objects

-- An object may have the name: it is one, no object has it, and there are not the most objects.
pub record MayHaveName (f : Filled) (name : List ℕ) : Type 0 where
  pub named : IsName name
  pub new : All (λ n. n ≢ name) f.names
  pub few : length f.names ≢ greatest_objects

-- The object may be stored: under its name, and its nodes fit the limit.
pub record MayBeTaken (shape : Shape) (f : Filled) (o : NewObject) : Type 0 where
  pub name : MayHaveName f o.name
  pub fits : f.nodes + nodes_for shape (length o.bytes) ≤ f.limit
  pub size : length o.bytes < 2 ^ 64

-- each of the objects may be stored after those before it
abbrev pub MayAllBeTaken : Shape → Filled → List NewObject → Type 0
MayAllBeTaken shape f [] = Unit {0}
MayAllBeTaken shape f (o ∷ objects) = MayBeTaken shape f o × MayAllBeTaken shape (filled_more shape f o) objects

-- The stream begins with the head of a frame, and an object may have its name.
pub record HasPlace (f : Filled) (stream : List ℕ) : Type 0 where
  pub head : HasHead stream
  pub name : MayHaveName f (frame_name stream)

-- the nodes of the object that the stream begins with fit
abbrev pub FitsLimit : Shape → Filled → List ℕ → Type 0
FitsLimit shape f stream = f.nodes + nodes_for shape (object_length stream) ≤ f.limit

-- Why what the stream begins with is not stored into an archive that is so full, after these objects of the run; the
-- files are those at its beginning, and the input of all had so many bytes.
abbrev pub FrameCauses : Shape → Filled → Files → ℕ → List NewObject → List ℕ → Refusal → Type 0
FrameCauses shape f files long before stream BadName = HasBadName stream
FrameCauses shape f files long before stream NameTaken = HasHead stream × IsName (frame_name stream) × (All (λ n. n ≢ frame_name stream) f.names → ⊥)
FrameCauses shape f files long before stream CatalogFull =
    HasHead stream × IsName (frame_name stream) × All (λ n. n ≢ frame_name stream) f.names × (length f.names ≡ greatest_objects)
-- an object is stored only where all last parities are intact, and leaves them so: one is damaged only before the first
FrameCauses shape f files long before stream (HeadDamaged block) = (before ≡ []) × HasPlace f stream × HasDamagedHead files block
FrameCauses shape f files long before stream (Full nodes) =
    HasPlace f stream × (nodes ≡ f.nodes) × (f.limit < f.nodes + nodes_for shape (object_length stream))
FrameCauses shape f files long before stream (BadStream at) =
    (at ≡ long) × (EndsInHead stream ⊎ (HasPlace f stream × FitsLimit shape f stream × (length stream < frame_length stream)))
FrameCauses shape f files long before stream why = ⊥

-- The archive in these files would store the objects of these first frames of the input, and then, for this cause, no more.
pub record IsRefusedBehind (files : Files) (input : List ℕ) (before : List NewObject) (why : Refusal) : Type 0 where
  pub shape : Shape
  pub records : List Record
  pub ledger : HasLedger shape records (files 0)
  pub rest : List ℕ
  pub framed : input ≡ frames_of before ++ rest
  pub taken : MayAllBeTaken shape (filled_by records) before
  -- and none is stored where a last parity is damaged
  pub intact : before ≢ [] → (block : BlockId) → HasDamagedHead files block → ⊥
  pub cause : FrameCauses shape (filled_all shape (filled_by records) before) files (length input) before rest why

-- it would do so after some first frames
abbrev pub IsRefusedAt : Files → List ℕ → Refusal → Type 0
IsRefusedAt files input why = (before : List NewObject) × IsRefusedBehind files input before why

-- why a run is refused after its opening
abbrev pub OpenedCauses : Files → List ℕ → Refusal → Type 0
OpenedCauses files input NoArchive = ⊥
OpenedCauses files input (LedgerBad at) = ⊥
OpenedCauses files input why = IsRefusedAt files input why

-- why a run over these files and this input is refused
abbrev pub IngestCauses : Files → List ℕ → Refusal → Type 0
IngestCauses files input NoArchive = IsNoArchive (files 0)
IngestCauses files input (LedgerBad at) = IsBadAt (files 0) at
IngestCauses files input why = IsRefusedAt files input why

-- ---- where a run ends before all of its input is stored

-- why a run is refused that stored these objects: at its opening, or for the frame after theirs
abbrev pub EndCauses : Files → List ℕ → List NewObject → Refusal → Type 0
EndCauses files input objects NoArchive = IsNoArchive (files 0)
EndCauses files input objects (LedgerBad at) = IsBadAt (files 0) at
EndCauses files input objects why = IsRefusedBehind files input objects why

-- After the frames of these objects a part of the input was taken that is not the whole of the next frame.
pub record IsReadInPart (input : List ℕ) (rest : Option (List ℕ)) (objects : List NewObject) : Type 0 where
  pub stream : List ℕ
  pub framed : input ≡ frames_of objects ++ stream
  pub part : List ℕ
  pub taken : Consumes (Some stream) rest part
  pub short : HasHead stream → length part < frame_length stream

-- Of a run whose lines are those of these objects: where it is refused, the frame after theirs is the one that is not
-- stored, and where a read failed, the one that was not read whole. So no object before that frame is left out.
pub record EndsEarly {T : Type 0} (reveals : Type 0) (files : Files) (left rest : Option (List ℕ)) (objects : List NewObject) (answer : Result T Failure) : Type 0 where
  pub refused : reveals → (input : List ℕ) → left ≡ Some input → (why : Refusal) → answer ≡ Err (failure.Refused why) → EndCauses files input objects why
  pub unread : (input : List ℕ) → left ≡ Some input → answer ≡ Err failure.Input → IsReadInPart input rest objects
  -- and where it is refused at its opening, nothing of the input was taken
  pub closed : (why : Refusal) → place_of why < place_of Occupied → answer ≡ Err (failure.Refused why) → rest ≡ left

-- ---- the space

-- the record is that of the object: its name, how many bytes it has, and its nodes
abbrev pub IsOfObject : Shape → NewObject → Record → Type 0
IsOfObject shape o r = (stored : Stored) × (r ≡ Object stored) × (stored.name ≡ o.name) × (stored.size ≡ length o.bytes) × (stored.count ≡ nodes_for shape (length o.bytes))

-- the records are those of the objects, in order
abbrev pub AreOfObjects : Shape → List NewObject → List Record → Type 0
AreOfObjects shape [] [] = Unit {0}
AreOfObjects shape [] (r ∷ records) = ⊥
AreOfObjects shape (o ∷ objects) [] = ⊥
AreOfObjects shape (o ∷ objects) (r ∷ records) = IsOfObject shape o r × AreOfObjects shape objects records

-- where a ledger that ends at this place ends with the records of these objects after its own
abbrev pub end_with : Shape → ℕ → List NewObject → ℕ
end_with shape end [] = end
end_with shape end (o ∷ objects) = end_with shape (next_end end (length o.name) (nodes_for shape (length o.bytes) * (1 + shape.alpha))) objects

-- The files are an archive without a damaged last parity; and with the objects of some first frames of the source, each of which
-- may be stored after those before it, its ledger has so many records more and its ending gate at this place.
pub record WouldReach (left : Option (List ℕ)) (files : Files) (more end : ℕ) : Type 0 where
  pub shape : Shape
  pub records : List Record
  pub ledger : HasLedger shape records (files 0)
  pub intact : (block : BlockId) → HasDamagedHead files block → ⊥
  pub objects : List NewObject
  pub some : objects ≢ []
  pub rest : Option (List ℕ)
  pub framed : Consumes left rest (frames_of objects)
  pub taken : MayAllBeTaken shape (filled_by records) objects
  pub count : more ≡ length objects
  pub place : end ≡ end_with shape (length (spelled shape records)) objects

-- The disk has some space, and to sync; and where it has an archive, space for the rows that its sites may have, and for the
-- records up to each place at which its ledger may end in such a run, of a disk on which the file is not known wherever that is.
pub record FitsIngest (reveals : Type 0) (left : Option (List ℕ)) (s : State) : Type 0 where
  pub some : IsRoomy s
  pub sites : (shape : Shape) (limit : ℕ) → (reveals → HasLimit shape limit (s.files 0)) → HaveSitesRoom shape limit s
  pub behind : (more end : ℕ) → (reveals → WouldReach left s.files more end) → FitsAdding s more end

-- the disk has space for all that a run may write that stores the frames of the source into an opened archive
pub record FitsFrames (v : Opened) (left : Option (List ℕ)) (s : State) : Type 0 where
  pub sites : FitsRows v.shape (limit_when v.raised) s
  pub ledger : (records : List Record) → AreItsRecords v records (s.files 0) → AreLastsIntact v.shape v.lattice v.digests s.files → (objects : List NewObject) (rest : Option (List ℕ)) → objects ≢ []
      → Consumes left rest (frames_of objects) → MayAllBeTaken v.shape (filled_by records) objects
      → FitsAdding s (length objects) (end_with v.shape v.end objects)

-- The archive in these files would store these objects, those of the first frames of the input, and then come to the rest of it.
pub record WouldStore (files : Files) (input : List ℕ) (shape : Shape) (objects : List NewObject) (rest : List ℕ) : Type 0 where
  pub records : List Record
  pub ledger : HasLedger shape records (files 0)
  pub framed : input ≡ frames_of objects ++ rest
  pub taken : MayAllBeTaken shape (filled_by records) objects
  -- and none is stored where a last parity is damaged
  pub intact : objects ≢ [] → (block : BlockId) → HasDamagedHead files block → ⊥

-- The output has space for the lines of the objects that a run would store, and, where these are all that the input has, for the
-- last line after them.
pub record FitsLines (files : Files) (input : List ℕ) (out : SinkState) : Type 0 where
  pub lines : (shape : Shape) (objects : List NewObject) (rest : List ℕ) → WouldStore files input shape objects rest → FitsText out (stored_lines shape objects)
  pub end : (shape : Shape) (objects : List NewObject) → WouldStore files input shape objects [] → FitsText out (stored_lines shape objects ++ end_line (length objects))

-- ---- what a run leaves

-- In a stretch the archive grew by these objects, and every image at its end has the first k of them, or more; so does
-- what is read.
pub record GrowsSurely (shape : Shape) (records : List Record) (objects : List NewObject) (k : ℕ) (old new : State) : Type 0 where
  pub grows : Grows shape records objects old new
  pub first : EveryImage new (λ c. HasAtLeast shape records grows.by.added k (c 0))
  pub reads : HasAtLeast shape records grows.by.added k (new.files 0)

-- No object more than those whose lines were printed; or, where the output failed, the one whose line was begun.
abbrev pub MayBeMore : {T : Type 0} → Result T Failure → List NewObject → Type 0
MayBeMore answer more = (more ≡ []) ⊎ ((answer ≡ Err failure.Output) × ((o : NewObject) × (more ≡ o ∷ [])))

-- No object after these; or, where the disk failed, the one of the next frame, whose commit was under way.
abbrev pub MayBeLast : {T : Type 0} → Option (List ℕ) → List NewObject → Result T Failure → List NewObject → Type 0
MayBeLast left objects answer last =
    (last ≡ []) ⊎ ((answer ≡ Err failure.Disk) × ((o : NewObject) × (last ≡ o ∷ []) × ((taken : Option (List ℕ)) × Consumes left taken (frames_of (objects ++ o ∷ [])))))

-- The archive was not opened, since the disk failed or memory ran out: none of these objects was stored.
pub record IsNotOpened {T : Type 0} (old new : State) (objects : List NewObject) (answer : Result T Failure) : Type 0 where
  pub by : (answer ≡ Err failure.Disk) ⊎ (answer ≡ Err failure.Memory)
  pub none : objects ≡ []
  pub images : KeepsImages old new
  pub reads : new.files ≡ old.files
  -- but after a fault of the disk its first sync has succeeded
  pub sure : answer ≢ Err failure.Disk → IsOpened old new (StaysAll old.files)

-- Of a run that stores the frames of the input, with the disk and the rest of the input before and after it, and what it
-- returns: the objects whose lines were printed, and the one whose line was begun.
pub record StoresFrames {T : Type 0} (reveals : Type 0) (old new : State) (left rest : Option (List ℕ)) (printed more : List NewObject) (answer : Result T Failure) : Type 0 where
  -- they are those of the first frames, in order; and where it is done, those of all that the input had
  pub framed : (taken : Option (List ℕ)) × Consumes left taken (frames_of (printed ++ more))
  pub most : MayBeMore answer more
  pub whole : IsOk answer → Consumes left rest (frames_of printed) × IsAtEnd rest
  -- where it is done, and where the output failed, there was an archive, and all of them are in every image, and their
  -- blocks are held
  pub archive : EndsStored answer → reveals → IsSomeLedger (old.files 0)
  pub stands : EndsStored answer → reveals → (shape : Shape) (records : List Record) → HasLedger shape records (old.files 0)
      → OpensThen old new (HasGrown shape records (printed ++ more))
  -- what a stop at any moment leaves: from the first sync on the archive with the first of them, and of one more where the
  -- disk failed; and at the end, after any answer, those whose lines were printed are in every image
  pub stops : reveals → (shape : Shape) (records : List Record) → HasLedger shape records (old.files 0)
      → (last : List NewObject) × MayBeLast left printed answer last
      × (IsNotOpened old new (printed ++ more) answer ⊎ OpensThen old new (GrowsSurely shape records ((printed ++ more) ++ last) (length (printed ++ more))))
  -- but after a fault of the disk, all of them are in every image and as the disk reads, and no other is; their blocks are
  -- held, and survivors that were honest, in plain damage, are so
  pub stays : answer ≢ Err failure.Disk → reveals → (shape : Shape) (records : List Record) → HasLedger shape records (old.files 0)
      → IsNotOpened old new (printed ++ more) answer ⊎ OpensThen old new (StaysGrown shape records (printed ++ more))
  -- where there is no ledger, nothing is stored, and but after a fault of the disk the first sync has succeeded
  pub none : reveals → (IsSomeLedger (old.files 0) → ⊥) → KeepsImages old new × (new.files ≡ old.files)
  pub unopened : answer ≢ Err failure.Disk → reveals → (IsSomeLedger (old.files 0) → ⊥) → IsOpened old new (StaysAll old.files)
  -- but after a fault of the disk the homes of the blocks that there were read as they did, with zeros past the ends of files
  pub padded : answer ≢ Err failure.Disk → reveals → (shape : Shape) (records : List Record) → HasLedger shape records (old.files 0)
      → KeepsPadded shape (IsBlockIn shape (nodes_of records)) old.files new.files
  -- where the disk is ready and has the space nothing fails
  pub in_room : reveals → IsReady old → NeverFails (FitsIngest reveals left old) (answer ≢ Err failure.Disk) old new

-- The same of a run after its opening, from where the files have the opened ledger.
pub record StoresOpened {T : Type 0} (reveals : Type 0) (v : Opened) (old new : State) (left rest : Option (List ℕ)) (printed more : List NewObject) (answer : Result T Failure) : Type 0 where
  pub framed : (taken : Option (List ℕ)) × Consumes left taken (frames_of (printed ++ more))
  pub most : MayBeMore answer more
  pub whole : IsOk answer → Consumes left rest (frames_of printed) × IsAtEnd rest
  pub stands : EndsStored answer → reveals → (records : List Record) → AreItsRecords v records (old.files 0) → HasGrown v.shape records (printed ++ more) old new
  pub stops : reveals → (records : List Record) → AreItsRecords v records (old.files 0)
      → (last : List NewObject) × MayBeLast left printed answer last × GrowsSurely v.shape records ((printed ++ more) ++ last) (length (printed ++ more)) old new
  pub stays : answer ≢ Err failure.Disk → reveals → (records : List Record) → AreItsRecords v records (old.files 0) → StaysGrown v.shape records (printed ++ more) old new
  pub padded : answer ≢ Err failure.Disk → reveals → KeepsPadded v.shape (IsBlockIn v.shape v.lattice.n) old.files new.files

-- What is on `out`: the lines of the objects that were printed; after them the last line where all was done, a first
-- part of the line that follows where the output failed, and nothing else where something else did. Where the sink has space for
-- the lines and for the one that follows nothing fails.
pub record PrintsLines (shape : Shape) (printed more : List NewObject) (before after : SinkState) (answer : Answer) : Type 0 where
  pub part : List ℕ
  pub appends : Appends before.written after.written (stored_lines shape printed ++ part)
  pub whole : OnOk answer (part ≡ end_line (length printed))
  pub cut : answer ≡ Err failure.Output → (k : ℕ) × (k ≤ length (next_line shape (length printed) more)) × (part ≡ take k (next_line shape (length printed) more))
  pub quiet : IfErr answer (λ f. f ≢ failure.Output → part ≡ [])
  pub in_room : (room : ℕ) → before.room ≡ Some room → length (stored_lines shape printed ++ next_line shape (length printed) more) ≤ room
      → (answer ≢ Err failure.Output) × (after.faults ≡ before.faults)

-- Of a run that stores the frames of the input into an opened archive, and its answer:
pub record IngestsOpened (reveals : Type 0) (v : Opened) (old new : State) (left rest : Option (List ℕ)) (before after : SinkState) (answer : Answer) : Type 0 where
  pub done : IfOk answer (λ status. status ≡ Done)
  pub printed : List NewObject
  pub more : List NewObject
  pub stores : StoresOpened reveals v old new left rest printed more answer
  pub early : EndsEarly reveals old.files left rest printed answer
  pub prints : PrintsLines v.shape printed more before after answer
  pub lines_in_room : reveals → (input : List ℕ) → left ≡ Some input → FitsLines old.files input before → answer ≢ Err failure.Output

-- Nothing was stored and nothing printed, since there was no archive to begin from.
pub record PrintsNothing (printed more : List NewObject) (before after : SinkState) (answer : Answer) : Type 0 where
  pub failed : IsErr answer
  pub by : answer ≢ Err failure.Output
  pub no_lines : printed ≡ []
  pub no_more : more ≡ []
  pub unused : after ≡ before

-- it printed lines, in an archive of some shape, which is that of the ledger where the disk's contents are known
abbrev pub PrintsSome : Type 0 → List ℕ → List NewObject → List NewObject → SinkState → SinkState → Answer → Type 0
PrintsSome reveals bytes printed more before after answer =
    (shape : Shape) × (reveals → (other : Shape) (records : List Record) → HasLedger other records bytes → shape ≡ other)
    × PrintsLines shape printed more before after answer

-- Of a run that stores a stream of frames, with the disk, the rest of the input, and `out` before and after it, and its
-- answer:
pub record Ingests (reveals : Type 0) (old new : State) (left rest : Option (List ℕ)) (before after : SinkState) (answer : Answer) : Type 0 where
  -- no block is lost
  pub done : IfOk answer (λ status. status ≡ Done)
  -- the objects whose lines were printed, and one more that may have been stored
  pub printed : List NewObject
  pub more : List NewObject
  -- the effect on the archive
  pub stores : StoresFrames reveals old new left rest printed more answer
  -- which frame was not stored, where it is refused, and where a read failed
  pub early : EndsEarly reveals old.files left rest printed answer
  -- what is printed
  pub prints : PrintsNothing printed more before after answer ⊎ PrintsSome reveals (old.files 0) printed more before after answer
  -- and where the output has space for the lines of the objects that a run would store, it does not fail
  pub lines_in_room : reveals → (input : List ℕ) → left ≡ Some input → FitsLines old.files input before → answer ≢ Err failure.Output
