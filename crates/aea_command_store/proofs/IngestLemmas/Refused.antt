-- How a run that stores the frames of a stream shows why it is refused.
use Rattle.std.proofs.Common.{◌≡◌, ◌≢◌, ◌⊎◌, inl, inr, ⊎_elim, ℕ, ◌+◌, ◌<◌, ◌≤◌, List, [], ◌∷◌, ◌++◌, length, All, refl, sym, ◌∙◌, ap, subst, arith, Option, None, Some, Result, Ok, Err, length-append}
use Rattle.std.specs.Int.{w16, w64, to_be_bytes}
use Rattle.std.specs.FinMap.{get, len}
use Rattle.aea_lattice.specs.declared.blocks.BlockId.{BlockId}
use Rattle.aea_lattice.specs.declared.shape.Shape.{Shape}
use Rattle.aea_disk.specs.Files.{Files}
use Rattle.aea_catalog.specs.Names.{IsName}
use Rattle.aea_records.specs.Format.{Record, greatest_objects, nodes_for}
use Rattle.aea_records.specs.Grammar.{MayFollow}
use Rattle.aea_records.specs.Laws.{HasOneReading, ObjectsAreCounted, NewNamesAreFree}
use Rattle.aea_ledger.specs.Values.{Opened, HasRecords, IsThisOne}
use Rattle.aea_archive.specs.Lasts.{IsDamagedLast, IsFirstDamagedLast}
use Rattle.aea_archive.specs.Next.{NewObject}
use Rattle.aea_append.specs.Causes.{IsTaken}
use Rattle.aea_append.specs.Frames.{frame_head, frame_of, HasHead, HasBadName, HasEntry, IsTooLong, EndsInHead, EndsInside, IsReadOrHeadFault, frame_name, object_length, frame_length}
use Rattle.aea_append.specs.declared.ingest.Ingest.{Ingest}
use Rattle.aea_append.specs.declared.ingest.Ingest.TheVariants.{End}
use Rattle.aea_append.specs.declared.ingest.IngestFault.{IngestFault}
use Rattle.aea_append.specs.declared.ingest.IngestFault.TheVariants as ingest
use Rattle.aea_command.specs.declared.refusal.Refusal.{Refusal}
use Rattle.aea_command.specs.declared.refusal.Refusal.TheVariants.{NoArchive, LedgerBad, BadName, NameTaken, CatalogFull, HeadDamaged, Full, BadStream}
use Rattle.aea_command.specs.declared.refusal.Failure.TheVariants as failure
use Rattle.aea_command.specs.Causes.{place_of, IsFirst, IsStopped}
use Rattle.aea_command.specs.Failures.{Answer, ingest_failure}
use Rattle.aea_command_store.specs.Ingest.{Filled, filled_by, filled_all, HasPlace, FitsLimit, FrameCauses, IsRefusedBehind, IsRefusedAt, OpenedCauses, EndCauses, MayAllBeTaken, AreOfObjects, frames_of}
use Rattle.aea_command_store.specs.Put.{HasDamagedHead}
use Rattle.aea_command_store.proofs.Agreeing.{follow_behind}
use Rattle.aea_command_store.proofs.IngestLemmas.Causing.{place_of_entry, entry_of_place, too_long, is_too_long, inside, ends_inside, names_are_free, free_are_new, as_many, none_before_bad, none_before_taken, none_before_many, none_before_place, none_before_length, none_before_cut, no_cause}
use Rattle.aea_command_store.proofs.IngestLemmas.Filling.{filled_is, taken_all, one_cut, HasNoFrame}
use Rattle.aea_command.proofs.Reading.{has_ledger_of, from_reading}

-- The clauses of the call that takes a frame, of a source whose stream is known and a disk whose files are known: `at` is the
-- number of bytes that were taken.
pub record HasAnswered (w : Opened) (now : Files) (stream : List ℕ) (at : ℕ) (r : Result Ingest IngestFault) : Type 0 where
  pub ends : stream ≡ [] → (r ≡ Ok End) ⊎ (r ≡ Err ingest.ReadFault)
  pub bad_name : r ≡ Err ingest.BadName → HasBadName stream
  pub bad_name_refused : HasBadName stream → (r ≡ Err ingest.BadName) ⊎ (r ≡ Err ingest.ReadFault)
  pub name_taken : r ≡ Err ingest.NameTaken → HasHead stream × IsName (frame_name stream) × IsTaken w (frame_name stream)
  pub name_taken_refused : HasHead stream → IsName (frame_name stream) → IsTaken w (frame_name stream) → (r ≡ Err ingest.NameTaken) ⊎ (r ≡ Err ingest.ReadFault)
  pub many : r ≡ Err ingest.CatalogFull → (len w.objects ≡ greatest_objects) × (HasHead stream × IsName (frame_name stream) × (IsTaken w (frame_name stream) → ⊥))
  pub many_refused : HasHead stream → IsName (frame_name stream) → (IsTaken w (frame_name stream) → ⊥) → len w.objects ≡ greatest_objects → (r ≡ Err ingest.CatalogFull) ⊎ (r ≡ Err ingest.ReadFault)
  -- an answer that names a damaged last parity says that the object may enter
  pub head : (b : BlockId) → r ≡ Err (ingest.HeadDamaged b) → HasEntry w stream × IsFirstDamagedLast w.shape w.lattice w.digests now b
  pub head_refused : HasEntry w stream → (a : BlockId) → IsDamagedLast w.shape w.lattice w.digests now a → IsReadOrHeadFault r
  pub full : (n : ℕ) → r ≡ Err (ingest.Full n) → (n ≡ w.lattice.n) × HasEntry w stream × IsTooLong w stream
  pub full_refused : HasEntry w stream → IsTooLong w stream → (r ≡ Err (ingest.Full w.lattice.n)) ⊎ IsReadOrHeadFault r
  pub bad_stream : (n : ℕ) → r ≡ Err (ingest.BadStream n) → (n ≡ at) × EndsInside w stream
  pub bad_stream_refused : EndsInside w stream → (r ≡ Err (ingest.BadStream at)) ⊎ IsReadOrHeadFault r

-- what the run returns by it, where it is no object that was stored and no fault of the output
abbrev pub answer_by : IngestFault → Answer
answer_by fault = Err (ingest_failure fault)

no_fault : (f g : IngestFault) → (let one : Result Ingest IngestFault = Err f in one ≡ Err g) → f ≡ g
no_fault f g e = cc

module _ (reading : HasOneReading) (count : ObjectsAreCounted) (free : NewNamesAreFree) (name_long : (name : List ℕ) → IsName name → (1 ≤ length name) × (length name ≤ 255))
    (v w : Opened) (files now : Files) (one : IsThisOne v (files 0)) (objects : List NewObject) (added : List Record) (are : AreOfObjects v.shape objects added)
    (same_shape : w.shape ≡ v.shape) (has : HasRecords w (one.records ++ added)) (input stream : List ℕ) (framed : input ≡ frames_of objects ++ stream)
    -- a damaged last parity is one of the archive as it was, before the first object
    (head_here : (b : BlockId) → IsFirstDamagedLast w.shape w.lattice w.digests now b → (objects ≡ []) × HasDamagedHead files b)
    (head_there : (b : BlockId) → HasDamagedHead files b → (objects ≡ []) × IsFirstDamagedLast w.shape w.lattice w.digests now b)
    (one_head : (a b : BlockId) → IsFirstDamagedLast w.shape w.lattice w.digests now a → IsFirstDamagedLast w.shape w.lattice w.digests now b → a ≡ b) where
  abbrev f : Filled
  f = filled_by (one.records ++ added)

  abbrev here : Refusal → Type 0
  here = FrameCauses v.shape f files (length input) objects stream

  taken : MayAllBeTaken v.shape (filled_by one.records) objects
  taken = taken_all v.shape one.records objects added are (subst (λ (s : Shape). MayFollow s one.records added) same_shape (follow_behind w.shape [] one.records added has.valid))

  full_here : filled_all v.shape (filled_by one.records) objects ≡ filled_by (one.records ++ added)
  full_here = filled_is v.shape one.records objects added are

  -- a cause here is one of the run, after the frames that were stored
  refused_behind : (why : Refusal) → here why → IsRefusedBehind files input objects why
  refused_behind why is = record {
    shape = v.shape;
    records = one.records;
    ledger = has_ledger_of reading v (files 0) one;
    rest = stream;
    framed = framed;
    taken = taken;
    intact = λ some b damaged. some (head_there b damaged).0;
    cause = subst (λ (g : Filled). FrameCauses v.shape g files (length input) objects stream why) (sym full_here) is;
  }

  refused_at : (why : Refusal) → here why → IsRefusedAt files input why
  refused_at why is = (objects, refused_behind why is)

  -- a cause of the run that is no damaged last parity is one here, where no frame begins that may be stored
  at_here : HasNoFrame v.shape (filled_by (one.records ++ added)) stream → (why : Refusal) → ((b : BlockId) → why ≢ HeadDamaged b) → IsRefusedAt files input why → here why
  at_here none why apart cause =
      let there = from_reading reading v (files 0) one
      (λ shape records. MayAllBeTaken shape (filled_by records) cause.0 × FrameCauses shape (filled_all shape (filled_by records) cause.0) files (length input) cause.0 cause.1.rest why)
      cause.1.shape cause.1.records cause.1.ledger (cause.1.taken, cause.1.cause) in
      let cut = one_cut name_long v.shape (filled_by one.records) objects cause.0 stream cause.1.rest taken there.0
      (subst (λ (g : Filled). HasNoFrame v.shape g stream) (sym full_here) none)
      (no_cause v.shape (filled_all v.shape (filled_by one.records) cause.0) files (length input) cause.0 cause.1.rest name_long why apart there.1)
      (sym framed ∙ cause.1.framed) in
      subst (λ (g : Filled). FrameCauses v.shape g files (length input) objects stream why) full_here
      (subst (λ (s : List ℕ). FrameCauses v.shape (filled_all v.shape (filled_by one.records) objects) files (length input) objects s why) (sym cut.1)
      (subst (λ (os : List NewObject). FrameCauses v.shape (filled_all v.shape (filled_by one.records) os) files (length input) os cause.1.rest why) (sym cut.0) there.1))

  -- one that is, is one of the archive as it was, and the run is before its first frame
  head_at_here : (b : BlockId) → IsRefusedAt files input (HeadDamaged b) → here (HeadDamaged b)
  head_at_here b cause =
      let first = head_there b cause.1.cause.2 in
      let there = from_reading reading v (files 0) one
      (λ shape records. HasPlace (filled_all shape (filled_by records) cause.0) cause.1.rest) cause.1.shape cause.1.records cause.1.ledger cause.1.cause.1 in
      let place : HasPlace (filled_by one.records) cause.1.rest = subst (λ (os : List NewObject). HasPlace (filled_all v.shape (filled_by one.records) os) cause.1.rest) cause.1.cause.0 there in
      let mine : input ≡ stream = framed ∙ ap (λ (os : List NewObject). frames_of os ++ stream) first.0 in
      let theirs : input ≡ cause.1.rest = cause.1.framed ∙ ap (λ (os : List NewObject). frames_of os ++ cause.1.rest) cause.1.cause.0 in
      let same : filled_by one.records ≡ filled_by (one.records ++ added) = ap (λ (os : List NewObject). filled_all v.shape (filled_by one.records) os) (sym first.0) ∙ full_here in
      (first.0, subst (λ (g : Filled). HasPlace g stream) same (subst (λ (s : List ℕ). HasPlace (filled_by one.records) s) (sym theirs ∙ mine) place), cause.1.cause.2)

  none_here : HasNoFrame v.shape (filled_by (one.records ++ added)) stream → (why : Refusal) → OpenedCauses files input why → here why
  none_here none NoArchive cause = absurd cause
  none_here none (LedgerBad n) cause = absurd cause
  none_here none BadName cause = at_here none BadName (λ b e. cc) cause
  none_here none NameTaken cause = at_here none NameTaken (λ b e. cc) cause
  none_here none CatalogFull cause = at_here none CatalogFull (λ b e. cc) cause
  none_here none (HeadDamaged b) cause = head_at_here b cause
  none_here none (Full n) cause = at_here none (Full n) (λ b e. (let h : Full n ≡ HeadDamaged b = e in cc)) cause
  none_here none (BadStream n) cause = at_here none (BadStream n) (λ b e. (let h : BadStream n ≡ HeadDamaged b = e in cc)) cause
  none_here none why cause = absurd cause.1.cause

  -- the first of the causes
  first_here : HasNoFrame v.shape (filled_by (one.records ++ added)) stream → (why : Refusal) → OpenedCauses files input why → ((other : Refusal) → place_of other < place_of why → here other → ⊥) → IsFirst (OpenedCauses files input) why
  first_here none why stands earlier = record { stands = stands; none = λ other before cause. earlier other before (none_here none other cause) }

  -- ---- where the stream is at its end

  no_frame_at_end : stream ≡ [] → HasNoFrame v.shape (filled_by (one.records ++ added)) stream
  no_frame_at_end nil o rest begins may =
      omega (
        arith,
        ap length nil,
        ap length begins,
        length-append (frame_of o) rest,
        length-append (frame_head o.name (length o.bytes)) o.bytes,
        length-append (to_be_bytes w16 (length o.name) ++ o.name) (to_be_bytes w64 (length o.bytes)),
        length-append (to_be_bytes w16 (length o.name)) o.name,
        (let e : length (to_be_bytes w16 (length o.name)) ≡ 2 = refl in e),
      )

  none_at_nothing : stream ≡ [] → (why : Refusal) → here why → ⊥
  none_at_nothing nil NoArchive is = is
  none_at_nothing nil (LedgerBad n) is = is
  none_at_nothing nil BadName is = ⊎_elim (λ none. (let t = none.there in omega (arith, t, ap length nil))) (λ other. (let t = other.0.there in omega (arith, t, ap length nil))) is
  none_at_nothing nil NameTaken is = (let t = is.0.there in omega (arith, t, ap length nil))
  none_at_nothing nil CatalogFull is = (let t = is.0.there in omega (arith, t, ap length nil))
  none_at_nothing nil (HeadDamaged b) is = (let t = is.1.head.there in omega (arith, t, ap length nil))
  none_at_nothing nil (Full n) is = (let t = is.0.head.there in omega (arith, t, ap length nil))
  none_at_nothing nil (BadStream n) is =
      ⊎_elim
      (λ head. ⊎_elim (λ single. omega (arith, single, ap length nil)) (λ cut. (let t = cut.0.there in omega (arith, t, ap length nil))) head)
      (λ bytes. (let t = bytes.0.head.there in omega (arith, t, ap length nil)))
      is.1
  none_at_nothing nil why is = is

  -- no reason for refusal holds at a stream of which all frames were stored
  pub none_at_end : stream ≡ [] → (why : Refusal) → OpenedCauses files input why → ⊥
  none_at_end nil why cause = none_at_nothing nil why (none_here (no_frame_at_end nil) why cause)

  -- ---- where a frame was not taken

  module _ (at : ℕ) (fault : IngestFault) (gave : HasAnswered w now stream at (Err fault)) (exact : (n : ℕ) → fault ≡ ingest.BadStream n → n ≡ length input) where
    intact_here : HasEntry w stream → ((e : IsReadOrHeadFault (let r : Result Ingest IngestFault = Err fault in r)) → ⊥) → (b : BlockId) → here (HeadDamaged b) → ⊥
    intact_here entry apart b is = apart (gave.head_refused entry b (head_there b is.2).1.damaged)

    -- ---- what was returned is a cause here

    new_name : (IsTaken w (frame_name stream) → ⊥) → All (λ n. n ≢ frame_name stream) (filled_by (one.records ++ added)).names
    new_name fresh = free_are_new count free w (one.records ++ added) has (frame_name stream) (none_of (get w.objects (frame_name stream)) fresh)
      where
        none_of : {A : Type 0} (o : Option A) → (o ≢ None → ⊥) → o ≡ None
        none_of None never = refl
        none_of (Some x) never = absurd (never (λ e. let h : Some x ≡ None = e in cc))

    bad_cause : fault ≡ ingest.BadName → here BadName
    bad_cause is = gave.bad_name (ap Err is)

    taken_cause : fault ≡ ingest.NameTaken → here NameTaken
    taken_cause is =
        let revealed = gave.name_taken (ap Err is) in
        (revealed.0, revealed.1, λ all. revealed.2 (names_are_free count free w (one.records ++ added) has (frame_name stream) all))

    many_cause : fault ≡ ingest.CatalogFull → here CatalogFull
    many_cause is =
        let revealed = gave.many (ap Err is) in
        (revealed.1.0, revealed.1.1, new_name revealed.1.2, sym (as_many count free w (one.records ++ added) has) ∙ revealed.0)

    head_cause : (b : BlockId) → fault ≡ ingest.HeadDamaged b → here (HeadDamaged b)
    head_cause b is =
        let revealed = gave.head b (ap Err is) in
        let head = head_here b revealed.1 in
        (head.0, place_of_entry count free w (one.records ++ added) has stream revealed.0, head.1)

    full_cause : (n : ℕ) → fault ≡ ingest.Full n → here (Full n)
    full_cause n is =
        let revealed = gave.full n (ap Err is) in
        let past = subst (λ (s : Shape). f.limit < f.nodes + nodes_for s (object_length stream)) same_shape (too_long count free w (one.records ++ added) has stream revealed.2) in
        (place_of_entry count free w (one.records ++ added) has stream revealed.1, revealed.0 ∙ has.lattice.n, past)

    cut_cause : (n : ℕ) → fault ≡ ingest.BadStream n → here (BadStream n)
    cut_cause n is =
        let revealed = gave.bad_stream n (ap Err is) in
        (exact n is, subst (λ (s : Shape). EndsInHead stream ⊎ (HasPlace f stream × FitsLimit s f stream × (length stream < frame_length stream))) same_shape (inside count free w (one.records ++ added) has stream revealed.1))

    -- ---- and the first cause

    only_bad : fault ≡ ingest.BadName → IsFirst (OpenedCauses files input) BadName
    only_bad is =
        let cause = bad_cause is in
        first_here (no_cause v.shape f files (length input) objects stream name_long BadName (λ b e. cc) cause) BadName (refused_at BadName cause) (none_before_bad v.shape f files (length input) objects stream)

    only_taken : fault ≡ ingest.NameTaken → IsFirst (OpenedCauses files input) NameTaken
    only_taken is =
        let cause = taken_cause is in
        first_here (no_cause v.shape f files (length input) objects stream name_long NameTaken (λ b e. cc) cause) NameTaken (refused_at NameTaken cause) (none_before_taken v.shape f files (length input) objects stream cause.0 cause.1)

    only_many : fault ≡ ingest.CatalogFull → IsFirst (OpenedCauses files input) CatalogFull
    only_many is =
        let cause = many_cause is in
        first_here (no_cause v.shape f files (length input) objects stream name_long CatalogFull (λ b e. cc) cause) CatalogFull (refused_at CatalogFull cause) (none_before_many v.shape f files (length input) objects stream cause.0 cause.1 cause.2)

    apart_from : ((b : BlockId) → fault ≡ ingest.HeadDamaged b → ⊥) → (fault ≡ ingest.ReadFault → ⊥) → (fault ≡ ingest.DiskFault → ⊥) → (fault ≡ ingest.NoMemory → ⊥) → IsReadOrHeadFault (let r : Result Ingest IngestFault = Err fault in r) → ⊥
    apart_from head read disk memory (inl e) = read (no_fault fault ingest.ReadFault e)
    apart_from head read disk memory (inr (inl found)) = head found.0 (no_fault fault (ingest.HeadDamaged found.0) found.1)
    apart_from head read disk memory (inr (inr (inl e))) = disk (no_fault fault ingest.DiskFault e)
    apart_from head read disk memory (inr (inr (inr e))) = memory (no_fault fault ingest.NoMemory e)

    only_full : (n : ℕ) → fault ≡ ingest.Full n → IsFirst (OpenedCauses files input) (Full n)
    only_full n is =
        let cause = full_cause n is in
        first_here (no_cause v.shape f files (length input) objects stream name_long (Full n) (λ b e. (let h : Full n ≡ HeadDamaged b = e in cc)) cause) (Full n) (refused_at (Full n) cause)
        (none_before_length v.shape f files (length input) objects stream cause.0
        (intact_here (gave.full n (ap Err is)).1 (apart_from (λ b e. (let h : ingest.Full n ≡ ingest.HeadDamaged b = sym is ∙ e in cc)) (λ e. (let h : ingest.Full n ≡ ingest.ReadFault = sym is ∙ e in cc)) (λ e. (let h : ingest.Full n ≡ ingest.DiskFault = sym is ∙ e in cc)) (λ e. (let h : ingest.Full n ≡ ingest.NoMemory = sym is ∙ e in cc)))))

    only_cut : (n : ℕ) → fault ≡ ingest.BadStream n → IsFirst (OpenedCauses files input) (BadStream n)
    only_cut n is =
        let cause = cut_cause n is in
        first_here (no_cause v.shape f files (length input) objects stream name_long (BadStream n) (λ b e. (let h : BadStream n ≡ HeadDamaged b = e in cc)) cause) (BadStream n) (refused_at (BadStream n) cause)
        (⊎_elim
        (λ head. none_before_cut v.shape f files (length input) objects stream head)
        (λ bytes.
        none_before_length v.shape f files (length input) objects stream (place_of_entry count free w (one.records ++ added) has stream bytes.0)
        (intact_here bytes.0 (apart_from (λ b e. (let h : ingest.BadStream n ≡ ingest.HeadDamaged b = sym is ∙ e in cc)) (λ e. (let h : ingest.BadStream n ≡ ingest.ReadFault = sym is ∙ e in cc)) (λ e. (let h : ingest.BadStream n ≡ ingest.DiskFault = sym is ∙ e in cc)) (λ e. (let h : ingest.BadStream n ≡ ingest.NoMemory = sym is ∙ e in cc)))))
        (gave.bad_stream n (ap Err is)).1)

    -- where a last parity is damaged, the run is before the first frame, and so is each cause
    start_at : (b : BlockId) → HasDamagedHead files b → (why : Refusal) → ((a : BlockId) → why ≢ HeadDamaged a) → IsRefusedAt files input why → here why
    start_at b damaged why apart cause =
        let first = (head_there b damaged).0 in
        let empty : cause.0 ≡ [] = nothing cause.0 (λ some. cause.1.intact some b damaged) in
        let there = from_reading reading v (files 0) one
        (λ shape records. FrameCauses shape (filled_all shape (filled_by records) cause.0) files (length input) cause.0 cause.1.rest why) cause.1.shape cause.1.records cause.1.ledger cause.1.cause in
        let at_start : FrameCauses v.shape (filled_by one.records) files (length input) [] cause.1.rest why =
        subst (λ (os : List NewObject). FrameCauses v.shape (filled_all v.shape (filled_by one.records) os) files (length input) os cause.1.rest why) empty there in
        let mine : input ≡ stream = framed ∙ ap (λ (os : List NewObject). frames_of os ++ stream) first in
        let theirs : input ≡ cause.1.rest = cause.1.framed ∙ ap (λ (os : List NewObject). frames_of os ++ cause.1.rest) empty in
        let same : filled_by one.records ≡ filled_by (one.records ++ added) = ap (λ (os : List NewObject). filled_all v.shape (filled_by one.records) os) (sym first) ∙ full_here in
        subst (λ (os : List NewObject). FrameCauses v.shape f files (length input) os stream why) (sym first)
        (subst (λ (g : Filled). FrameCauses v.shape g files (length input) [] stream why) same (subst (λ (s : List ℕ). FrameCauses v.shape (filled_by one.records) files (length input) [] s why) (sym theirs ∙ mine) at_start))
      where
        nothing : (xs : List NewObject) → (xs ≢ [] → ⊥) → xs ≡ []
        nothing [] never = refl
        nothing (x ∷ xs) never = absurd (never (λ e. let h : x ∷ xs ≡ [] = e in cc))

    start_here : (b : BlockId) → HasDamagedHead files b → (why : Refusal) → OpenedCauses files input why → here why
    start_here b damaged NoArchive cause = absurd cause
    start_here b damaged (LedgerBad n) cause = absurd cause
    start_here b damaged BadName cause = start_at b damaged BadName (λ a e. cc) cause
    start_here b damaged NameTaken cause = start_at b damaged NameTaken (λ a e. cc) cause
    start_here b damaged CatalogFull cause = start_at b damaged CatalogFull (λ a e. cc) cause
    start_here b damaged (HeadDamaged a) cause = head_at_here a cause
    start_here b damaged (Full n) cause = start_at b damaged (Full n) (λ a e. (let h : Full n ≡ HeadDamaged a = e in cc)) cause
    start_here b damaged (BadStream n) cause = start_at b damaged (BadStream n) (λ a e. (let h : BadStream n ≡ HeadDamaged a = e in cc)) cause
    start_here b damaged why cause = absurd cause.1.cause

    only_head : (b : BlockId) → fault ≡ ingest.HeadDamaged b → IsFirst (OpenedCauses files input) (HeadDamaged b)
    only_head b is =
        let cause = head_cause b is in
        record {
          stands = refused_at (HeadDamaged b) cause;
          none = λ other before here_is. none_before_place v.shape f files (length input) objects stream cause.1 other before (start_here b cause.2 other here_is);
        }

    -- ---- and the first cause is what was returned, but for faults and lack of memory

    by_fault : (why : Refusal) (other : IngestFault) → ingest_failure other ≡ failure.Refused why → (let r : Result Ingest IngestFault = Err fault in r ≡ Err other) → answer_by fault ≡ Err (failure.Refused why)
    by_fault why other is e = ap answer_by (no_fault fault other e) ∙ ap Err is

    by_read : (let r : Result Ingest IngestFault = Err fault in r ≡ Err ingest.ReadFault) → IsStopped (answer_by fault)
    by_read e = inr (inl (ap answer_by (no_fault fault ingest.ReadFault e)))

    by_head : (why : Refusal)
        → ((b : BlockId) → (let r : Result Ingest IngestFault = Err fault in r ≡ Err (ingest.HeadDamaged b)) → (answer_by fault ≡ Err (failure.Refused why)) ⊎ IsStopped (answer_by fault))
        → IsReadOrHeadFault (let r : Result Ingest IngestFault = Err fault in r) → (answer_by fault ≡ Err (failure.Refused why)) ⊎ IsStopped (answer_by fault)
    by_head why damaged (inl e) = inr (by_read e)
    by_head why damaged (inr (inl found)) = damaged found.0 found.1
    by_head why damaged (inr (inr (inl e))) = inr (inl (ap answer_by (no_fault fault ingest.DiskFault e)))
    by_head why damaged (inr (inr (inr e))) = inr (inr (inr (ap answer_by (no_fault fault ingest.NoMemory e))))

    -- a damaged last parity that was returned comes before a cause that comes later
    head_stands : (b : BlockId) → (let r : Result Ingest IngestFault = Err fault in r ≡ Err (ingest.HeadDamaged b)) → OpenedCauses files input (HeadDamaged b)
    head_stands b e =
        let revealed = gave.head b e in
        let head = head_here b revealed.1 in
        refused_at (HeadDamaged b) (head.0, place_of_entry count free w (one.records ++ added) has stream revealed.0, head.1)

    pub always_here : (why : Refusal) → here why → ((b : BlockId) → place_of (HeadDamaged b) < place_of why → OpenedCauses files input (HeadDamaged b) → ⊥) → (answer_by fault ≡ Err (failure.Refused why)) ⊎ IsStopped (answer_by fault)
    always_here BadName is first = ⊎_elim (λ e. inl (by_fault BadName ingest.BadName refl e)) (λ e. inr (by_read e)) (gave.bad_name_refused is)
    always_here NameTaken is first =
        ⊎_elim (λ e. inl (by_fault NameTaken ingest.NameTaken refl e)) (λ e. inr (by_read e))
        (gave.name_taken_refused is.0 is.1 (λ none. is.2 (free_are_new count free w (one.records ++ added) has (frame_name stream) none)))
    always_here CatalogFull is first =
        ⊎_elim (λ e. inl (by_fault CatalogFull ingest.CatalogFull refl e)) (λ e. inr (by_read e))
        (gave.many_refused is.0 is.1 (λ some. some (names_are_free count free w (one.records ++ added) has (frame_name stream) is.2)) (as_many count free w (one.records ++ added) has ∙ is.3))
    always_here (HeadDamaged b) is first =
        let there = (head_there b is.2).1 in
        by_head (HeadDamaged b)
        (λ a e. inl (by_fault (HeadDamaged b) (ingest.HeadDamaged a) (ap (λ (x : BlockId). failure.Refused (HeadDamaged x)) (one_head a b (gave.head a e).1 there)) e))
        (gave.head_refused (entry_of_place count free w (one.records ++ added) has stream is.1) b there.damaged)
    always_here (Full n) is first =
        let entry = entry_of_place count free w (one.records ++ added) has stream is.0 in
        ⊎_elim
        (λ e. inl (by_fault (Full n) (ingest.Full w.lattice.n) (ap (λ (k : ℕ). failure.Refused (Full k)) (has.lattice.n ∙ sym is.1)) e))
        (λ outside. by_head (Full n) (λ a e. absurd (first a (omega arith) (head_stands a e))) outside)
        (gave.full_refused entry (is_too_long count free w (one.records ++ added) has stream (subst (λ (s : Shape). f.limit < f.nodes + nodes_for s (object_length stream)) (sym same_shape) is.2)))
    always_here (BadStream n) is first =
        let ends = ends_inside count free w (one.records ++ added) has stream (subst (λ (s : Shape). EndsInHead stream ⊎ (HasPlace f stream × FitsLimit s f stream × (length stream < frame_length stream))) (sym same_shape) is.1) in
        ⊎_elim
        (λ e. inl (by_fault (BadStream n) (ingest.BadStream at) (ap (λ (k : ℕ). failure.Refused (BadStream k)) (exact at (no_fault fault (ingest.BadStream at) e) ∙ sym is.0)) e))
        (λ outside. by_head (BadStream n) (λ a e. absurd (first a (omega arith) (head_stands a e))) outside)
        (gave.bad_stream_refused ends)
    always_here why is first = absurd is

    -- ---- how the run shows why it is refused

    -- one of a refusal: what was returned is the first cause
    first_as : (one_why why : Refusal) → IsFirst (OpenedCauses files input) one_why → (let a : Answer = Err (failure.Refused one_why) in a ≡ Err (failure.Refused why)) → IsFirst (OpenedCauses files input) why
    first_as one_why why first e = let same : one_why ≡ why = cc in subst (λ (x : Refusal). IsFirst (OpenedCauses files input) x) same first

    only_is : (q : IngestFault) → fault ≡ q → (why : Refusal) → answer_by q ≡ Err (failure.Refused why) → IsFirst (OpenedCauses files input) why
    only_is ingest.BadName is why e = first_as BadName why (only_bad is) e
    only_is ingest.NameTaken is why e = first_as NameTaken why (only_taken is) e
    only_is ingest.CatalogFull is why e = first_as CatalogFull why (only_many is) e
    only_is (ingest.HeadDamaged b) is why e = first_as (HeadDamaged b) why (only_head b is) e
    only_is (ingest.Full n) is why e = first_as (Full n) why (only_full n is) e
    only_is (ingest.BadStream n) is why e = first_as (BadStream n) why (only_cut n is) e
    only_is ingest.ReadFault is why e = let h : (let a : Answer = Err failure.Input in a ≡ Err (failure.Refused why)) = e in cc
    only_is ingest.DiskFault is why e = let h : (let a : Answer = Err failure.Disk in a ≡ Err (failure.Refused why)) = e in cc
    only_is ingest.NoMemory is why e = let h : (let a : Answer = Err failure.Memory in a ≡ Err (failure.Refused why)) = e in cc

    pub only_answer : (why : Refusal) → answer_by fault ≡ Err (failure.Refused why) → IsFirst (OpenedCauses files input) why
    only_answer why e = only_is fault refl why e

    -- each cause of the run is one here, after a refusal
    to_here : (q : IngestFault) → fault ≡ q → (why : Refusal) → OpenedCauses files input why → here why ⊎ IsStopped (answer_by fault)
    to_here ingest.BadName is why cause = inl (none_here (no_cause v.shape f files (length input) objects stream name_long BadName (λ b e. cc) (bad_cause is)) why cause)
    to_here ingest.NameTaken is why cause = inl (none_here (no_cause v.shape f files (length input) objects stream name_long NameTaken (λ b e. cc) (taken_cause is)) why cause)
    to_here ingest.CatalogFull is why cause = inl (none_here (no_cause v.shape f files (length input) objects stream name_long CatalogFull (λ b e. cc) (many_cause is)) why cause)
    to_here (ingest.HeadDamaged b) is why cause = inl (start_here b (head_cause b is).2 why cause)
    to_here (ingest.Full n) is why cause = inl (none_here (no_cause v.shape f files (length input) objects stream name_long (Full n) (λ b e. (let h : Full n ≡ HeadDamaged b = e in cc)) (full_cause n is)) why cause)
    to_here (ingest.BadStream n) is why cause = inl (none_here (no_cause v.shape f files (length input) objects stream name_long (BadStream n) (λ b e. (let h : BadStream n ≡ HeadDamaged b = e in cc)) (cut_cause n is)) why cause)
    to_here ingest.ReadFault is why cause = inr (inr (inl (ap answer_by is)))
    to_here ingest.DiskFault is why cause = inr (inl (ap answer_by is))
    to_here ingest.NoMemory is why cause = inr (inr (inr (ap answer_by is)))

    pub always_answer : (why : Refusal) → IsFirst (OpenedCauses files input) why → (answer_by fault ≡ Err (failure.Refused why)) ⊎ IsStopped (answer_by fault)
    always_answer why first = ⊎_elim (λ is. always_here why is (λ b before stands. first.none (HeadDamaged b) before stands)) (λ stopped. inr stopped) (to_here fault refl why first.stands)

    -- ---- which frame is not stored

    cause_as : (one_why why : Refusal) → here one_why → (let a : Answer = Err (failure.Refused one_why) in a ≡ Err (failure.Refused why)) → here why
    cause_as one_why why is e = let same : one_why ≡ why = cc in subst (λ (x : Refusal). FrameCauses v.shape f files (length input) objects stream x) same is

    cause_of : (q : IngestFault) → fault ≡ q → (why : Refusal) → answer_by q ≡ Err (failure.Refused why) → here why
    cause_of ingest.BadName is why e = cause_as BadName why (bad_cause is) e
    cause_of ingest.NameTaken is why e = cause_as NameTaken why (taken_cause is) e
    cause_of ingest.CatalogFull is why e = cause_as CatalogFull why (many_cause is) e
    cause_of (ingest.HeadDamaged b) is why e = cause_as (HeadDamaged b) why (head_cause b is) e
    cause_of (ingest.Full n) is why e = cause_as (Full n) why (full_cause n is) e
    cause_of (ingest.BadStream n) is why e = cause_as (BadStream n) why (cut_cause n is) e
    cause_of ingest.ReadFault is why e = let h : (let a : Answer = Err failure.Input in a ≡ Err (failure.Refused why)) = e in cc
    cause_of ingest.DiskFault is why e = let h : (let a : Answer = Err failure.Disk in a ≡ Err (failure.Refused why)) = e in cc
    cause_of ingest.NoMemory is why e = let h : (let a : Answer = Err failure.Memory in a ≡ Err (failure.Refused why)) = e in cc

    ends_for : (why : Refusal) → here why → EndCauses files input objects why
    ends_for NoArchive is = absurd is
    ends_for (LedgerBad n) is = absurd is
    ends_for why is = refused_behind why is

    -- a refusal is for the frame after those that were stored
    pub ends_behind : (why : Refusal) → answer_by fault ≡ Err (failure.Refused why) → EndCauses files input objects why
    ends_behind why e = ends_for why (cause_of fault refl why e)
