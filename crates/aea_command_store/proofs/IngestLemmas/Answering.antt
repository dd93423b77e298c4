-- How a run that stores the frames of a stream shows why it is refused, by what the call ensures that takes a frame.
use Rattle.std.proofs.Common.{◌≡◌, ◌⊎◌, ℕ, ◌+◌, ◌<◌, ◌≤◌, List, [], ◌++◌, length, refl, sym, ◌∙◌, ap, subst, arith, Option, Some, Result, Ok, Err, length-append}
use Rattle.std.specs.Prelude.{IsSome, unwrap_or}
use Rattle.std.specs.FinMap.{len}
use Rattle.std.specs.Io.KnownBytes.{Consumes, IsAtEnd}
use Rattle.std.proofs.lemmas.Bool.Decides.{nat_tests}
use Rattle.aea_io.specs.Streams.{SinkState}
use Rattle.aea_lattice.specs.declared.blocks.BlockId.{BlockId}
use Rattle.aea_lattice.specs.Facts.{NumbersRevealBlocks}
use Rattle.aea_envelope.specs.Facts.{CellsHaveLengths, CellsHaveParts}
use Rattle.aea_disk.specs.Files.{Files}
use Rattle.aea_disk.specs.State.{State}
use Rattle.aea_catalog.specs.Names.{IsName}
use Rattle.aea_records.specs.Format.{greatest_objects}
use Rattle.aea_records.specs.Laws.{HasOneReading, ObjectsAreCounted, NewNamesAreFree, DigestsAreCounted}
use Rattle.aea_ledger.specs.Values.{Opened, HasRecords, IsThisOne}
use Rattle.aea_archive.specs.Lasts.{IsLastParity, IsDamagedLast, IsFirstDamagedLast, AreLastsIntact}
use Rattle.aea_archive.specs.Next.{NewObject}
use Rattle.aea_append.specs.Causes.{IsTaken}
use Rattle.aea_append.specs.Frames.{HasHead, HasBadName, HasEntry, IsTooLong, EndsInside, IsReadOrHeadFault, frame_name, frame_length}
use Rattle.aea_append.specs.Taking.{room_left}
use Rattle.aea_io.specs.Taken.{Counts}
use Rattle.aea_append.specs.declared.ingest.Ingest.{Ingest}
use Rattle.aea_append.specs.declared.ingest.Ingest.TheVariants.{End}
use Rattle.aea_append.specs.declared.ingest.IngestFault.{IngestFault}
use Rattle.aea_append.specs.declared.ingest.IngestFault.TheVariants as ingest
use Rattle.aea_command.specs.declared.refusal.Refusal.{Refusal}
use Rattle.aea_command.specs.declared.refusal.Failure.TheVariants as failure
use Rattle.aea_command.specs.declared.status.Status.{Status}
use Rattle.aea_command.specs.declared.status.Status.TheVariants.{Done}
use Rattle.aea_command.specs.Causes.{IsFirst, IsStopped, Refuses}
use Rattle.aea_command.specs.Failures.{Answer, ingest_failure}
use Rattle.aea_command_store.specs.Ingest.{OpenedCauses, EndCauses, IsReadInPart, EndsEarly, frames_of}
use Rattle.aea_command_store.specs.Put.{HasDamagedHead}
use Rattle.aea_command_store.proofs.IngestLemmas.Damaged.{damaged_here, damaged_there}
use Rattle.aea_command_store.proofs.IngestLemmas.Going.{HasGone}
use Rattle.aea_command_store.proofs.IngestLemmas.Looping.{ingest_input, ingest_no_opening}
use Rattle.aea_command_store.proofs.IngestLemmas.Refused.{HasAnswered, none_at_end, only_answer, always_answer, ends_behind}
use Rattle.aea_command_store.proofs.IngestLemmas.Revealing.{AreRevealed, are_revealed, counted_all}
use Rattle.aea_command_store.proofs.PutLemmas.Reading.{one_head}
use Rattle.aea_command.proofs.Refusing.{refuses_none}

-- a name has 1 to 255 bytes
pub name_lengths : (name : List ℕ) → IsName name → (1 ≤ length name) × (length name ≤ 255)
name_lengths name named = grind (arith, nat_tests)

-- The clauses of the call that takes a frame that say why it took none, as they are in its contract: the opened ledger and
-- the files of the disk at its entry, what the source had and has left, how many bytes were taken of it before and after the
-- call, and the answer.
pub record HasTried (reveals : Type 0) (w : Opened) (now : Files) (rest after : Option (List ℕ)) (at next : ℕ) (r : Result Ingest IngestFault) : Type 0 where
  pub taken : Counts rest after at next (265 + room_left w)
  pub short : (stream : List ℕ) → rest ≡ Some stream → HasHead stream → r ≡ Err ingest.ReadFault → next < at + frame_length stream
  pub ends : rest ≡ Some [] → (r ≡ Ok End) ⊎ (r ≡ Err ingest.ReadFault)
  pub bad_name : (stream : List ℕ) → rest ≡ Some stream → r ≡ Err ingest.BadName → HasBadName stream
  pub bad_name_refused : (stream : List ℕ) → rest ≡ Some stream → HasBadName stream → (r ≡ Err ingest.BadName) ⊎ (r ≡ Err ingest.ReadFault)
  pub name_taken : (stream : List ℕ) → rest ≡ Some stream → r ≡ Err ingest.NameTaken → HasHead stream × IsName (frame_name stream) × IsTaken w (frame_name stream)
  pub name_taken_refused : (stream : List ℕ) → rest ≡ Some stream → HasHead stream → IsName (frame_name stream) → IsTaken w (frame_name stream) → (r ≡ Err ingest.NameTaken) ⊎ (r ≡ Err ingest.ReadFault)
  pub many : r ≡ Err ingest.CatalogFull
      → (len w.objects ≡ greatest_objects) × ((stream : List ℕ) → rest ≡ Some stream → HasHead stream × IsName (frame_name stream) × (IsTaken w (frame_name stream) → ⊥))
  pub many_refused : (stream : List ℕ) → rest ≡ Some stream → HasHead stream → IsName (frame_name stream) → (IsTaken w (frame_name stream) → ⊥) → len w.objects ≡ greatest_objects
      → (r ≡ Err ingest.CatalogFull) ⊎ (r ≡ Err ingest.ReadFault)
  pub head : (b : BlockId) → r ≡ Err (ingest.HeadDamaged b) → IsLastParity w.lattice b × (reveals → IsFirstDamagedLast w.shape w.lattice w.digests now b)
  pub head_revealed : (b : BlockId) (stream : List ℕ) → rest ≡ Some stream → r ≡ Err (ingest.HeadDamaged b) → HasEntry w stream
  pub head_refused : reveals → (stream : List ℕ) → rest ≡ Some stream → HasEntry w stream → (a : BlockId) → IsDamagedLast w.shape w.lattice w.digests now a → IsReadOrHeadFault r
  pub full : (nodes : ℕ) → r ≡ Err (ingest.Full nodes) → (nodes ≡ w.lattice.n) × (reveals → AreLastsIntact w.shape w.lattice w.digests now)
  pub full_revealed : (nodes : ℕ) (stream : List ℕ) → rest ≡ Some stream → r ≡ Err (ingest.Full nodes) → HasEntry w stream × IsTooLong w stream
  pub full_refused : (stream : List ℕ) → rest ≡ Some stream → HasEntry w stream → IsTooLong w stream → (r ≡ Err (ingest.Full w.lattice.n)) ⊎ IsReadOrHeadFault r
  pub bad_stream : (n : ℕ) → r ≡ Err (ingest.BadStream n) → (n ≡ next) × IsAtEnd after
  pub bad_stream_revealed : (n : ℕ) (stream : List ℕ) → rest ≡ Some stream → r ≡ Err (ingest.BadStream n) → EndsInside w stream
  pub bad_stream_refused : (stream : List ℕ) → rest ≡ Some stream → EndsInside w stream → (r ≡ Err (ingest.BadStream next)) ⊎ IsReadOrHeadFault r

-- the same of a source whose stream is known, and a disk whose files are known
answered : (reveals : Type 0) → reveals → (w : Opened) (now : Files) (rest after : Option (List ℕ)) (at next : ℕ) (r : Result Ingest IngestFault) → HasTried reveals w now rest after at next r
    → (stream : List ℕ) → rest ≡ Some stream → HasAnswered w now stream next r
answered reveals revealed w now rest after at next r gave stream is = record {
  ends = λ nil. gave.ends (is ∙ ap Some nil);
  bad_name = gave.bad_name stream is;
  bad_name_refused = gave.bad_name_refused stream is;
  name_taken = gave.name_taken stream is;
  name_taken_refused = gave.name_taken_refused stream is;
  many = λ e. (let all = gave.many e in (all.0, all.1 stream is));
  many_refused = gave.many_refused stream is;
  head = λ b e. (gave.head_revealed b stream is e, (gave.head b e).1 revealed);
  head_refused = gave.head_refused revealed stream is;
  full = λ n e. (let both = gave.full_revealed n stream is e in ((gave.full n e).0, both.0, both.1));
  full_refused = gave.full_refused stream is;
  bad_stream = λ n e. ((gave.bad_stream n e).0, gave.bad_stream_revealed n stream is e);
  bad_stream_refused = gave.bad_stream_refused stream is;
}

-- The laws that the run calls on; the opened ledger at its beginning and now, the input, the disk and the output; and the
-- objects of the frames that were stored, whose lines are printed.
module _ (reading : HasOneReading) (count : ObjectsAreCounted) (free : NewNamesAreFree) (reveal : NumbersRevealBlocks) (lengths : CellsHaveLengths) (parts : CellsHaveParts) (counts : DigestsAreCounted)
    (reveals same : Type 0) (v w : Opened) (left rest : Option (List ℕ)) (old now : State) (before out : SinkState) (objects : List NewObject)
    -- they are those of the first frames; where there are none the disk is the same
    (gone : HasGone reveals same v w left rest old now before out objects) (still : same → now ≡ old)
    -- at the beginning the files have the opened ledger
    (is_this : reveals → IsThisOne v (old.files 0)) where
  -- why the run is refused
  abbrev revealed_causes : Refusal → Type 0
  revealed_causes = OpenedCauses old.files (unwrap_or left [])

  revealed_frames : IsSome left → AreRevealed left rest (frames_of objects)
  revealed_frames some = are_revealed left rest (frames_of objects) some gone.framed

  module _ (revealed : reveals) (some : IsSome left) where
    -- what is left of the input, and all of it
    abbrev stream : List ℕ
    stream = (revealed_frames some).stream

    abbrev input : List ℕ
    input = (revealed_frames some).input

    has_now : HasRecords w ((is_this revealed).records ++ gone.added)
    has_now = gone.has (is_this revealed).records (is_this revealed).has

    head_here : (b : BlockId) → IsFirstDamagedLast w.shape w.lattice w.digests now.files b → (objects ≡ []) × HasDamagedHead old.files b
    head_here = damaged_here reading lengths parts counts reveals revealed same v w left rest old now before out objects gone still (is_this revealed)

    head_there : (b : BlockId) → HasDamagedHead old.files b → (objects ≡ []) × IsFirstDamagedLast w.shape w.lattice w.digests now.files b
    head_there = damaged_there reading lengths parts counts reveals revealed same v w left rest old now before out objects gone still (is_this revealed)

    only_one : (a b : BlockId) → IsFirstDamagedLast w.shape w.lattice w.digests now.files a → IsFirstDamagedLast w.shape w.lattice w.digests now.files b → a ≡ b
    only_one a b = one_head reveal w.shape w.lattice w.digests now.files a b has_now.lattice.alpha

    -- ---- where the stream is at its end

    none_of_all : IsAtEnd rest → (why : Refusal) → revealed_causes why → ⊥
    none_of_all end why cause =
        none_at_end reading count free name_lengths v w old.files now.files (is_this revealed) objects gone.added gone.are gone.same_shape has_now input stream (revealed_frames some).parts head_here head_there only_one
        (at_end rest stream (revealed_frames some).stream_is end) why (subst (λ (s : List ℕ). OpenedCauses old.files s why) (revealed_frames some).given cause)
      where
        at_end : (known : Option (List ℕ)) (xs : List ℕ) → known ≡ Some xs → IsAtEnd known → xs ≡ []
        at_end known xs is ended = subst IsAtEnd is ended

    -- ---- where a frame was not taken

    module _ (after : Option (List ℕ)) (at next : ℕ) (exact : at ≡ length (frames_of objects)) (fault : IngestFault) (gave : HasTried reveals w now.files rest after at next (Err fault)) where
      -- the bytes are all of the input where it ends inside a frame
      all_bytes : (n : ℕ) → fault ≡ ingest.BadStream n → n ≡ length input
      all_bytes n is =
          let ends = gave.bad_stream n (ap Err is) in
          let counted = counted_all rest after stream at next (265 + room_left w) (revealed_frames some).stream_is gave.taken ends.1 in
          omega (arith, ends.0, counted, exact, ap length (revealed_frames some).parts, length-append (frames_of objects) stream)

      tried : HasAnswered w now.files stream next (Err fault)
      tried = answered reveals revealed w now.files rest after at next (Err fault) gave stream (revealed_frames some).stream_is

      only_tried : (why : Refusal) → (let a : Answer = Err (ingest_failure fault) in a ≡ Err (failure.Refused why)) → IsFirst revealed_causes why
      only_tried why is =
          subst (λ (s : List ℕ). IsFirst (OpenedCauses old.files s) why) (sym (revealed_frames some).given)
          (only_answer reading count free name_lengths v w old.files now.files (is_this revealed) objects gone.added gone.are gone.same_shape has_now input stream (revealed_frames some).parts head_here head_there only_one
          next fault tried all_bytes why is)

      ends_tried : (why : Refusal) → (let a : Answer = Err (ingest_failure fault) in a ≡ Err (failure.Refused why)) → EndCauses old.files input objects why
      ends_tried why is =
          ends_behind reading count free name_lengths v w old.files now.files (is_this revealed) objects gone.added gone.are gone.same_shape has_now input stream (revealed_frames some).parts head_here head_there only_one
          next fault tried all_bytes why is

      always_tried : (why : Refusal) → IsFirst revealed_causes why → (let a : Answer = Err (ingest_failure fault) in (a ≡ Err (failure.Refused why)) ⊎ IsStopped a)
      always_tried why first =
          always_answer reading count free name_lengths v w old.files now.files (is_this revealed) objects gone.added gone.are gone.same_shape has_now input stream (revealed_frames some).parts head_here head_there only_one
          next fault tried all_bytes why (subst (λ (s : List ℕ). IsFirst (OpenedCauses old.files s) why) (revealed_frames some).given first)

  -- Where all ended well: the call that takes a frame found the input at its end, and the last line was printed.
  pub done_refuses : IsAtEnd rest → Refuses {T = Status} (reveals × IsSome left) (OpenedCauses old.files (unwrap_or left [])) (Ok Done)
  done_refuses end = refuses_none (reveals × IsSome left) revealed_causes (Ok Done) never (λ revealed why first. none_of_all revealed.0 revealed.1 end why first.stands)
    where
      never : (why : Refusal) → (let a : Answer = Ok Done in a ≡ Err (failure.Refused why)) → ⊥
      never why e = let h : (let a : Answer = Ok Done in a ≡ Err (failure.Refused why)) = e in cc

  -- Where the call that takes a frame returned a fault: before it as many bytes were taken of the input as the frames have.
  pub fault_refuses : (after : Option (List ℕ)) (at next : ℕ) → at ≡ length (frames_of objects) → (r : Result Ingest IngestFault) → HasTried reveals w now.files rest after at next r
      → (fault : IngestFault) → r ≡ Err fault → Refuses {T = Status} (reveals × IsSome left) (OpenedCauses old.files (unwrap_or left [])) (Err (ingest_failure fault))
  fault_refuses after at next exact r gave fault is =
      let at_fault = subst (HasTried reveals w now.files rest after at next) is gave in
      record {
        only = λ why e revealed. only_tried revealed.0 revealed.1 after at next exact fault at_fault why e;
        always = λ why revealed first. always_tried revealed.0 revealed.1 after at next exact fault at_fault why first;
      }

  -- Which frame was not taken.
  unread_by : (some : IsSome left) (after : Option (List ℕ)) (at next : ℕ) (r : Result Ingest IngestFault) → HasTried reveals w now.files rest after at next r → r ≡ Err ingest.ReadFault → IsReadInPart (revealed_frames some).input after objects
  unread_by some after at next r gave is =
      let revealed = revealed_frames some in
      record {
        stream = revealed.stream;
        framed = revealed.parts;
        part = gave.taken.bytes;
        taken = subst (λ (o : Option (List ℕ)). Consumes o after gave.taken.bytes) revealed.stream_is gave.taken.taken;
        short = λ head. let less = gave.short revealed.stream revealed.stream_is head is in omega (arith, less, gave.taken.counted);
      }

  pub fault_ends : (after : Option (List ℕ)) (at next : ℕ) → at ≡ length (frames_of objects) → (fault : IngestFault) → HasTried reveals w now.files rest after at next (Err fault) → EndsEarly {T = Status} reveals old.files left after objects (Err (ingest_failure fault))
  fault_ends after at next exact fault gave = record {
    refused = λ revealed bytes is why e.
        let some = some_by bytes is in
        subst (λ (s : List ℕ). EndCauses old.files s objects why) (same_input bytes is) (ends_tried revealed some after at next exact fault gave why e);
    unread = λ bytes is e.
        let some = some_by bytes is in
        subst (λ (s : List ℕ). IsReadInPart s after objects) (same_input bytes is) (unread_by some after at next (Err fault) gave (ingest_input fault e));
    closed = λ why opening e. absurd (ingest_no_opening fault why opening e);
  }
    where
      some_by : (bytes : List ℕ) → left ≡ Some bytes → IsSome left
      some_by bytes is = subst IsSome (sym is) refl

      same_input : (bytes : List ℕ) (is : left ≡ Some bytes) → (revealed_frames (some_by bytes is)).input ≡ bytes
      same_input bytes is = let both : Some (revealed_frames (some_by bytes is)).input ≡ Some bytes = sym (revealed_frames (some_by bytes is)).input_is ∙ is in cc
