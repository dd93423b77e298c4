-- The loop of a run that stores the frames of a stream: what the call that takes a frame needs there, what a frame that was
-- stored leaves, and how the run ends by what its calls gave.
use Rattle.std.proofs.Common.{◌≡◌, ◌≢◌, ◌⊎◌, inl, inr, ⊎_elim, ℕ, ◌+◌, ◌*◌, ◌<◌, ◌≤◌, List, [], ◌∷◌, ◌++◌, length, refl, sym, ap, subst, arith, Option, Result, Ok, Err, length-append, append_assoc}
use Rattle.std.specs.Int.{w16, w64, to_be_bytes}
use Rattle.std.specs.Io.KnownBytes.{Consumes, IsAtEnd}
use Rattle.aea_io.specs.declared.traits.WriteFault.{WriteFault}
use Rattle.aea_io.specs.Pages.{Prints}
use Rattle.aea_io.specs.Streams.{SinkState}
use Rattle.aea_lattice.specs.declared.blocks.BlockId.{BlockId}
use Rattle.aea_envelope.specs.Facts.{CellsHaveLengths, CellsHaveParts}
use Rattle.aea_disk.specs.Frames.{OnlyWrites}
use Rattle.aea_disk.specs.Ends.{EndsAt}
use Rattle.aea_disk.specs.State.{State, IsReady, IsFixed}
use Rattle.aea_disk.proofs.Frames.{writes_as}
use Rattle.aea_shelf.specs.Writes.{KeepsPadded}
use Rattle.aea_records.specs.Format.{Object, greatest_objects}
use Rattle.aea_records.specs.Laws.{HasOneReading, DigestsAreCounted, ObjectsAreCounted, NewNamesAreFree}
use Rattle.aea_ledger.specs.Values.{Opened, HasRecords, HasSomeRecords, IsThisOne}
use Rattle.aea_archive.specs.Blocks.{IsBlockIn}
use Rattle.aea_archive.specs.Laws.{LastsAreValues, ObjectsRecordMore, SurvivorsStayHonest}
use Rattle.aea_archive.specs.Next.{NewObject}
use Rattle.aea_append.specs.Frames.{frame_head, frame_of, IsFramed, HasFrameRoom}
use Rattle.aea_append.specs.Puts.{HasStored, MayHaveStored, LeavesLedger}
use Rattle.aea_append.specs.Taking.{room_left}
use Rattle.aea_io.specs.Taken.{Counts}
use Rattle.aea_append.specs.declared.ingest.Ingest.{Ingest}
use Rattle.aea_append.specs.declared.ingest.Ingest.TheVariants as frame
use Rattle.aea_append.specs.declared.ingest.IngestFault.{IngestFault}
use Rattle.aea_append.specs.declared.ingest.IngestFault.TheVariants as ingest
use Rattle.aea_append.specs.declared.store.Stored.{Stored}
use Rattle.aea_command.specs.declared.refusal.Failure.{Failure}
use Rattle.aea_command.specs.declared.refusal.Failure.TheVariants as failure
use Rattle.aea_command.specs.declared.refusal.Refusal.{Refusal}
use Rattle.aea_command.specs.declared.refusal.Refusal.TheVariants as refusal
use Rattle.aea_command.specs.declared.status.Status.{Status}
use Rattle.aea_command.specs.declared.status.Status.TheVariants.{Done}
use Rattle.aea_command.specs.Causes.{place_of}
use Rattle.aea_command.specs.Failures.{Answer, NeverClashes, ingest_failure}
use Rattle.aea_command.specs.Openings.{IsAfterOpening}
use Rattle.aea_command_store.specs.Ingest.{EndsEarly, IngestsOpened, FitsFrames, frames_of, end_line}
use Rattle.aea_command_store.specs.Put.{stored_line, stored_text}
use Rattle.aea_command_store.proofs.PutLemmas.Opening.{changes}
use Rattle.aea_command_store.proofs.IngestLemmas.Counting.{fewer_than_most, most_of_frame, at_more}
use Rattle.aea_command_store.proofs.IngestLemmas.Ending.{ingest_not_output, refused_opened, failed_opened, unprinted_opened, ended_opened, unended_opened}
use Rattle.aea_command_store.proofs.IngestLemmas.Going.{HasGone, frames_more, line_of_stored, gone_more, writes_more}

-- ---- the faults of the call

same_answer : (f g : Failure) → (let one : Answer = Err f in one ≡ Err g) → f ≡ g
same_answer f g e = cc

same_fault : (f g : IngestFault) → (let one : Result Ingest IngestFault = Err f in one ≡ Err g) → f ≡ g
same_fault f g e = cc

-- a frame that is not taken is no wrong words
fault_not_words : (fault : IngestFault) → ingest_failure fault ≡ failure.Words → ⊥
fault_not_words ingest.BadName e = let h : failure.Refused refusal.BadName ≡ failure.Words = e in cc
fault_not_words ingest.NameTaken e = let h : failure.Refused refusal.NameTaken ≡ failure.Words = e in cc
fault_not_words ingest.CatalogFull e = let h : failure.Refused refusal.CatalogFull ≡ failure.Words = e in cc
fault_not_words (ingest.HeadDamaged b) e = let h : failure.Refused (refusal.HeadDamaged b) ≡ failure.Words = e in cc
fault_not_words (ingest.Full n) e = let h : failure.Refused (refusal.Full n) ≡ failure.Words = e in cc
fault_not_words (ingest.BadStream n) e = let h : failure.Refused (refusal.BadStream n) ≡ failure.Words = e in cc
fault_not_words ingest.ReadFault e = cc
fault_not_words ingest.DiskFault e = cc
fault_not_words ingest.NoMemory e = cc

pub ingest_not_words : (fault : IngestFault) → (let one : Answer = Err (ingest_failure fault) in one ≢ Err failure.Words)
ingest_not_words fault e = fault_not_words fault (same_answer (ingest_failure fault) failure.Words e)

-- no failure of the output
pub ingest_no_output : (fault : IngestFault) → (let one : Answer = Err (ingest_failure fault) in one ≢ Err failure.Output)
ingest_no_output fault e = ingest_not_output fault (same_answer (ingest_failure fault) failure.Output e)

-- and no clash of digests
fault_not_clash : (fault : IngestFault) (b : BlockId) (revealed computed : List ℕ) → ingest_failure fault ≡ failure.Clash b revealed computed → ⊥
fault_not_clash ingest.BadName b revealed computed e = let h : failure.Refused refusal.BadName ≡ failure.Clash b revealed computed = e in cc
fault_not_clash ingest.NameTaken b revealed computed e = let h : failure.Refused refusal.NameTaken ≡ failure.Clash b revealed computed = e in cc
fault_not_clash ingest.CatalogFull b revealed computed e = let h : failure.Refused refusal.CatalogFull ≡ failure.Clash b revealed computed = e in cc
fault_not_clash (ingest.HeadDamaged a) b revealed computed e = let h : failure.Refused (refusal.HeadDamaged a) ≡ failure.Clash b revealed computed = e in cc
fault_not_clash (ingest.Full n) b revealed computed e = let h : failure.Refused (refusal.Full n) ≡ failure.Clash b revealed computed = e in cc
fault_not_clash (ingest.BadStream n) b revealed computed e = let h : failure.Refused (refusal.BadStream n) ≡ failure.Clash b revealed computed = e in cc
fault_not_clash ingest.ReadFault b revealed computed e = let h : failure.Input ≡ failure.Clash b revealed computed = e in cc
fault_not_clash ingest.DiskFault b revealed computed e = let h : failure.Disk ≡ failure.Clash b revealed computed = e in cc
fault_not_clash ingest.NoMemory b revealed computed e = let h : failure.Memory ≡ failure.Clash b revealed computed = e in cc

pub ingest_no_clash : (fault : IngestFault) → NeverClashes (let one : Answer = Err (ingest_failure fault) in one)
ingest_no_clash fault b revealed computed e = fault_not_clash fault b revealed computed (same_answer (ingest_failure fault) (failure.Clash b revealed computed) e)

-- and it is no refusal of the opening
same_refusal : (one why : Refusal) → failure.Refused one ≡ failure.Refused why → one ≡ why
same_refusal one why e = cc

fault_after : (fault : IngestFault) (why : Refusal) → ingest_failure fault ≡ failure.Refused why → IsAfterOpening why
fault_after ingest.BadName why e = subst IsAfterOpening (same_refusal refusal.BadName why e) tt
fault_after ingest.NameTaken why e = subst IsAfterOpening (same_refusal refusal.NameTaken why e) tt
fault_after ingest.CatalogFull why e = subst IsAfterOpening (same_refusal refusal.CatalogFull why e) tt
fault_after (ingest.HeadDamaged b) why e = subst IsAfterOpening (same_refusal (refusal.HeadDamaged b) why e) tt
fault_after (ingest.Full n) why e = subst IsAfterOpening (same_refusal (refusal.Full n) why e) tt
fault_after (ingest.BadStream n) why e = subst IsAfterOpening (same_refusal (refusal.BadStream n) why e) tt
fault_after ingest.ReadFault why e = let h : failure.Input ≡ failure.Refused why = e in cc
fault_after ingest.DiskFault why e = let h : failure.Disk ≡ failure.Refused why = e in cc
fault_after ingest.NoMemory why e = let h : failure.Memory ≡ failure.Refused why = e in cc

pub ingest_after : (fault : IngestFault) (why : Refusal) → (let one : Answer = Err (ingest_failure fault) in one ≡ Err (failure.Refused why)) → IsAfterOpening why
ingest_after fault why e = fault_after fault why (same_answer (ingest_failure fault) (failure.Refused why) e)

-- it fails by the disk only where its disk failed, by the input only where its source did
fault_disk : (fault : IngestFault) → ingest_failure fault ≡ failure.Disk → fault ≡ ingest.DiskFault
fault_disk ingest.BadName e = let h : failure.Refused refusal.BadName ≡ failure.Disk = e in cc
fault_disk ingest.NameTaken e = let h : failure.Refused refusal.NameTaken ≡ failure.Disk = e in cc
fault_disk ingest.CatalogFull e = let h : failure.Refused refusal.CatalogFull ≡ failure.Disk = e in cc
fault_disk (ingest.HeadDamaged b) e = let h : failure.Refused (refusal.HeadDamaged b) ≡ failure.Disk = e in cc
fault_disk (ingest.Full n) e = let h : failure.Refused (refusal.Full n) ≡ failure.Disk = e in cc
fault_disk (ingest.BadStream n) e = let h : failure.Refused (refusal.BadStream n) ≡ failure.Disk = e in cc
fault_disk ingest.ReadFault e = let h : failure.Input ≡ failure.Disk = e in cc
fault_disk ingest.DiskFault e = refl
fault_disk ingest.NoMemory e = let h : failure.Memory ≡ failure.Disk = e in cc

pub ingest_disk : (fault : IngestFault) → (let one : Answer = Err (ingest_failure fault) in one ≡ Err failure.Disk) → (let one : Result Ingest IngestFault = Err fault in one ≡ Err ingest.DiskFault)
ingest_disk fault e = ap Err (fault_disk fault (same_answer (ingest_failure fault) failure.Disk e))

pub disk_ingest : (fault : IngestFault) → (let one : Result Ingest IngestFault = Err fault in one ≡ Err ingest.DiskFault) → (let one : Answer = Err (ingest_failure fault) in one ≡ Err failure.Disk)
disk_ingest fault e = ap (λ (f : IngestFault). let one : Answer = Err (ingest_failure f) in one) (same_fault fault ingest.DiskFault e)

fault_input : (fault : IngestFault) → ingest_failure fault ≡ failure.Input → fault ≡ ingest.ReadFault
fault_input ingest.BadName e = let h : failure.Refused refusal.BadName ≡ failure.Input = e in cc
fault_input ingest.NameTaken e = let h : failure.Refused refusal.NameTaken ≡ failure.Input = e in cc
fault_input ingest.CatalogFull e = let h : failure.Refused refusal.CatalogFull ≡ failure.Input = e in cc
fault_input (ingest.HeadDamaged b) e = let h : failure.Refused (refusal.HeadDamaged b) ≡ failure.Input = e in cc
fault_input (ingest.Full n) e = let h : failure.Refused (refusal.Full n) ≡ failure.Input = e in cc
fault_input (ingest.BadStream n) e = let h : failure.Refused (refusal.BadStream n) ≡ failure.Input = e in cc
fault_input ingest.ReadFault e = refl
fault_input ingest.DiskFault e = let h : failure.Disk ≡ failure.Input = e in cc
fault_input ingest.NoMemory e = let h : failure.Memory ≡ failure.Input = e in cc

pub ingest_input : (fault : IngestFault) → (let one : Answer = Err (ingest_failure fault) in one ≡ Err failure.Input) → (let one : Result Ingest IngestFault = Err fault in one ≡ Err ingest.ReadFault)
ingest_input fault e = ap Err (fault_input fault (same_answer (ingest_failure fault) failure.Input e))

pub input_ingest : (fault : IngestFault) → (let one : Result Ingest IngestFault = Err fault in one ≡ Err ingest.ReadFault) → (let one : Answer = Err (ingest_failure fault) in one ≡ Err failure.Input)
input_ingest fault e = ap (λ (f : IngestFault). let one : Answer = Err (ingest_failure f) in one) (same_fault fault ingest.ReadFault e)

-- what was stored, or the end, is no fault of the source
pub not_read : (value : Ingest) → (let one : Result Ingest IngestFault = Ok value in one ≢ Err ingest.ReadFault)
not_read value e = let h : (let one : Result Ingest IngestFault = Ok value in one ≡ Err ingest.ReadFault) = e in cc

-- it is no refusal of the opening
fault_no_opening : (fault : IngestFault) (why : Refusal) → place_of why < place_of refusal.Occupied → ingest_failure fault ≡ failure.Refused why → ⊥
fault_no_opening ingest.BadName why opening e = omega (arith, opening, ap place_of (let same : refusal.BadName ≡ why = cc in same))
fault_no_opening ingest.NameTaken why opening e = omega (arith, opening, ap place_of (let same : refusal.NameTaken ≡ why = cc in same))
fault_no_opening ingest.CatalogFull why opening e = omega (arith, opening, ap place_of (let same : refusal.CatalogFull ≡ why = cc in same))
fault_no_opening (ingest.HeadDamaged b) why opening e = omega (arith, opening, ap place_of (let same : refusal.HeadDamaged b ≡ why = cc in same))
fault_no_opening (ingest.Full n) why opening e = omega (arith, opening, ap place_of (let same : refusal.Full n ≡ why = cc in same))
fault_no_opening (ingest.BadStream n) why opening e = omega (arith, opening, ap place_of (let same : refusal.BadStream n ≡ why = cc in same))
fault_no_opening ingest.ReadFault why opening e = let h : failure.Input ≡ failure.Refused why = e in cc
fault_no_opening ingest.DiskFault why opening e = let h : failure.Disk ≡ failure.Refused why = e in cc
fault_no_opening ingest.NoMemory why opening e = let h : failure.Memory ≡ failure.Refused why = e in cc

pub ingest_no_opening : (fault : IngestFault) (why : Refusal) → place_of why < place_of refusal.Occupied → (let one : Answer = Err (ingest_failure fault) in one ≡ Err (failure.Refused why)) → ⊥
ingest_no_opening fault why opening e = fault_no_opening fault why opening (same_answer (ingest_failure fault) (failure.Refused why) e)

-- it is one of the disk, or another
by_disk : (fault : IngestFault) → (fault ≡ ingest.DiskFault) ⊎ (fault ≢ ingest.DiskFault)
by_disk ingest.BadName = inr (λ e. cc)
by_disk ingest.NameTaken = inr (λ e. cc)
by_disk ingest.CatalogFull = inr (λ e. cc)
by_disk (ingest.HeadDamaged b) = inr (λ e. let h : ingest.HeadDamaged b ≡ ingest.DiskFault = e in cc)
by_disk (ingest.Full n) = inr (λ e. let h : ingest.Full n ≡ ingest.DiskFault = e in cc)
by_disk (ingest.BadStream n) = inr (λ e. let h : ingest.BadStream n ≡ ingest.DiskFault = e in cc)
by_disk ingest.ReadFault = inr (λ e. cc)
by_disk ingest.DiskFault = inl refl
by_disk ingest.NoMemory = inr (λ e. cc)

-- ---- the bytes of frames

-- as many as the head has, and the object
frame_long : (o : NewObject) → length (frame_of o) ≡ 10 + length o.name + length o.bytes
frame_long o =
    let two : length (to_be_bytes w16 (length o.name)) ≡ 2 = refl in
    let eight : length (to_be_bytes w64 (length o.bytes)) ≡ 8 = refl in
    omega (arith, length-append (frame_head o.name (length o.bytes)) o.bytes, length-append (to_be_bytes w16 (length o.name) ++ o.name) (to_be_bytes w64 (length o.bytes)), length-append (to_be_bytes w16 (length o.name)) o.name, two, eight)

module _ (reading : HasOneReading) (lengths : CellsHaveLengths) (parts : CellsHaveParts) (values : LastsAreValues) (record_more : ObjectsRecordMore) (counts : DigestsAreCounted)
    (reveals same : Type 0) (v w : Opened) (some : HasSomeRecords v) (left rest : Option (List ℕ)) (old now : State) (before after : SinkState) (objects : List NewObject)
    (gone : HasGone reveals same v w left rest old now before after objects) (still : same → now ≡ old) (is_this : reveals → IsThisOne v (old.files 0)) where
  -- ---- what the call that takes a frame needs

  -- the opened ledger is that of the disk
  pub this_now : reveals → IsThisOne w (now.files 0)
  this_now revealed =
      let one = is_this revealed in
      let its = gone.its revealed one.records (record { has = one.has; ledger = one.ledger }) in
      record { records = one.records ++ gone.added; has = its.has; ledger = its.ledger }

  -- and nothing is pending on its file
  pub fixed_now : reveals → IsFixed now 0
  fixed_now revealed c here = gone.synced revealed c here 0

  -- ---- a frame that was stored

  module _ (w2 : Opened) (rest2 : Option (List ℕ)) (next : State) (name : List ℕ) (stored : Stored) (fault : Type 0)
      (has : (o : NewObject) × (o.name ≡ name) × IsFramed rest rest2 o × HasStored reveals w w2 o now next stored) (writes : OnlyWrites reveals (IsReady now) (HasFrameRoom w rest now) fault (changes w) now next) where
    -- its line is that of the object
    line_is : stored_text stored.nodes stored.length stored.digest name ≡ stored_line v.shape has.0
    line_is = line_of_stored reveals same v w some left rest old now before after objects gone still is_this w2 has.0 next stored name has.1 has.3

    -- the run goes on, with one object more
    pub goes_on : ObjectsAreCounted → NewNamesAreFree → ((b c : List ℕ) (m n : ℕ) → EndsAt c n → now.takes 0 b m → now.takes 0 c n) → (other : Type 0) (after2 : SinkState) → (fault → ⊥) → (reveals → KeepsPadded w.shape (IsBlockIn w.shape w.lattice.n) now.files next.files) → Prints {T = Unit {0}} {E = WriteFault} after [] after2 [] (Ok tt) (stored_text stored.nodes stored.length stored.digest name)
        → HasGone reveals other v w2 left rest2 old next before after2 (objects ++ has.0 ∷ [])
    goes_on count free ended other after2 fine keeps line =
        gone_more reveals same v w some left rest old now before after objects gone still is_this reading lengths parts values record_more counts w2 has.0 next stored has.3 fault writes count free ended other rest2 after2 has.2 fine keeps
        (subst (λ (l : List ℕ). Prints {T = Unit {0}} {E = WriteFault} after [] after2 [] (Ok tt) l) line_is line)

    -- the output failed in its line
    pub breaks_off : (last : SinkState) (broken : WriteFault) → (reveals → KeepsPadded w.shape (IsBlockIn w.shape w.lattice.n) now.files next.files) → Prints {T = Unit {0}} {E = WriteFault} after [] last [] (Err broken) (stored_text stored.nodes stored.length stored.digest name)
        → IngestsOpened reveals v old next left rest2 before last (Err failure.Output)
    breaks_off last broken keeps line =
        unprinted_opened reading lengths parts values record_more counts reveals same v w some left rest old now before after objects gone still is_this w2 has.0 next stored has.3 fault rest2 last broken writes has.2 keeps
        (subst (λ (l : List ℕ). Prints {T = Unit {0}} {E = WriteFault} after [] last [] (Err broken) l) line_is line)

    -- one more is counted, and there are not more than the most
    pub count_more : (count : ℕ) → count ≡ length objects → count + 1 ≡ length (objects ++ has.0 ∷ [])
    count_more count is = omega (arith, is, length-append objects (has.0 ∷ []))

    pub few_more : (count : ℕ) → count ≡ length objects → count < greatest_objects
    few_more count is =
        let all : HasRecords w2 (some.0 ++ (gone.added ++ Object has.3.r ∷ [])) =
        subst (HasRecords w2) (append_assoc some.0 gone.added (Object has.3.r ∷ [])) (has.3.value (some.0 ++ gone.added) (gone.has some.0 some.1)) in
        let few = fewer_than_most w2 v.shape some.0 objects gone.added has.3.r gone.are all in
        omega (arith, is, few)

    -- the bytes that were taken are those of the frames
    pub exact_more : (at next_at : ℕ) → at ≡ length (frames_of objects) → next_at ≡ at + 10 + length name + stored.length → next_at ≡ length (frames_of (objects ++ has.0 ∷ []))
    exact_more at next_at is more =
        omega (arith, is, more, ap length (frames_more objects has.0), length-append (frames_of objects) (frame_of has.0), frame_long has.0, ap length has.1, has.3.size)

    pub at_most_more : (at next_at count : ℕ) → at ≤ count * most_of_frame → Counts rest rest2 at next_at (265 + room_left w) → next_at ≤ (count + 1) * most_of_frame
    at_most_more at next_at count few taken = at_more w at (length taken.bytes) next_at count few taken.counted taken.most

  -- all its writes
  pub writes_by : ObjectsAreCounted → NewNamesAreFree → ((b c : List ℕ) (m n : ℕ) → EndsAt c n → now.takes 0 b m → now.takes 0 c n) → (next : State) (fault disk : Type 0) → (disk → fault) → (fault → disk) → OnlyWrites reveals (IsReady now) (HasFrameRoom w rest now) fault (changes w) now next → OnlyWrites reveals (IsReady old) (FitsFrames v left old) disk (changes v) old next
  writes_by count free ended next fault disk so back writes =
      writes_as reveals (IsReady old) (FitsFrames v left old) fault disk (changes v) old next so back
      (writes_more reveals same v w some left rest old now before after objects gone still is_this count free lengths parts counts ended fault next writes)

  -- ---- a frame that was not stored

  pub fails_by : (fault : IngestFault) (next : State) (rest2 : Option (List ℕ)) (bad : Type 0) → SurvivorsStayHonest → OnlyWrites reveals (IsReady now) (HasFrameRoom w rest now) bad (changes w) now next
      → ((let r : Result Ingest IngestFault = Err fault in r ≢ Err ingest.DiskFault) → ((name : List ℕ) (stored : Stored) → (let r : Result Ingest IngestFault = Err fault in r ≢ Ok (frame.Stored name stored))) → reveals → LeavesLedger now next)
      → ((let r : Result Ingest IngestFault = Err fault in r ≡ Err ingest.DiskFault) → reveals → MayHaveStored w (IsFramed rest rest2) now next)
      → ((let r : Result Ingest IngestFault = Err fault in r ≢ Err ingest.DiskFault) → reveals → KeepsPadded w.shape (IsBlockIn w.shape w.lattice.n) now.files next.files)
      → EndsEarly {T = Status} reveals old.files left rest2 objects (Err (ingest_failure fault))
      → IngestsOpened reveals v old next left rest2 before after (Err (ingest_failure fault))
  fails_by fault next rest2 bad survivors writes leaves stopped keeps early = ⊎_elim
      (λ disk.
      subst (λ (f : IngestFault). IngestsOpened reveals v old next left rest2 before after (Err (ingest_failure f))) (sym disk)
      (failed_opened reading lengths parts values record_more counts reveals same v w some left rest old now before after objects gone still is_this next rest2 bad writes (stopped (ap Err disk))))
      (λ other.
      refused_opened reading lengths parts values record_more counts reveals same v w some left rest old now before after objects gone still is_this fault next rest2 bad survivors writes
      (leaves (λ e. other (same_fault fault ingest.DiskFault e)) (λ name stored e. let h : (let r : Result Ingest IngestFault = Err fault in r ≡ Ok (frame.Stored name stored)) = e in cc))
      (keeps (λ e. other (same_fault fault ingest.DiskFault e))) early)
      (by_disk fault)

  -- ---- the end of the stream

  pub ends_by : (next : State) → next ≡ now → (rest2 : Option (List ℕ)) (last : SinkState) (count : ℕ) → count ≡ length objects → IsAtEnd rest2 → Consumes rest rest2 [] → Prints {T = Unit {0}} {E = WriteFault} after [] last [] (Ok tt) (end_line count)
      → IngestsOpened reveals v old next left rest2 before last (Ok Done)
  ends_by next unchanged rest2 last count is end none line =
      subst (λ (s : State). IngestsOpened reveals v old s left rest2 before last (Ok Done)) (sym unchanged)
      (ended_opened reading lengths parts values record_more counts reveals same v w some left rest old now before after objects gone still is_this rest2 last end none
      (subst (λ (k : ℕ). Prints {T = Unit {0}} {E = WriteFault} after [] last [] (Ok tt) (end_line k)) is line))

  pub cut_by : IsAtEnd rest → (next : State) → next ≡ now → (rest2 : Option (List ℕ)) (last : SinkState) (count : ℕ) (broken : WriteFault) → count ≡ length objects → Prints {T = Unit {0}} {E = WriteFault} after [] last [] (Err broken) (end_line count)
      → IngestsOpened reveals v old next left rest2 before last (Err failure.Output)
  cut_by end next unchanged rest2 last count broken is line =
      subst (λ (s : State). IngestsOpened reveals v old s left rest2 before last (Err failure.Output)) (sym unchanged)
      (unended_opened reading lengths parts values record_more counts reveals same v w some left rest old now before after objects gone still is_this end rest2 last broken
      (subst (λ (k : ℕ). Prints {T = Unit {0}} {E = WriteFault} after [] last [] (Err broken) (end_line k)) is line))

  -- the writes up to there
  pub writes_then : (next : State) (disk : Type 0) → next ≡ now → (disk → ⊥) → OnlyWrites reveals (IsReady old) (FitsFrames v left old) disk (changes v) old next
  writes_then next disk unchanged none =
      subst (λ (s : State). OnlyWrites reveals (IsReady old) (FitsFrames v left old) disk (changes v) old s) (sym unchanged) (writes_as reveals (IsReady old) (FitsFrames v left old) ⊥ disk (changes v) old now none (λ none. absurd none) gone.writes)
