-- Frames that were stored one after the other: what one more leaves.
use Rattle.std.proofs.Common.{◌≡◌, ◌≢◌, ◌⊎◌, inl, inr, ⊎_elim, ℕ, suc, ◌+◌, ◌*◌, ◌≤◌, Bool, true, List, [], ◌∷◌, ◌++◌, length, refl, sym, ◌∙◌, ap, subst, arith, Option, Ok, append_assoc}
use Rattle.std.specs.List.{list_any}
use Rattle.std.specs.Io.KnownBytes.{Consumes}
use Rattle.std.proofs.KnownBytes.{Consumes-trans, Consumes-nil}
use Rattle.std.proofs.lemmas.List.{append-nil}
use Rattle.std.proofs.lemmas.List.Concat.{flat_map-append}
use Rattle.aea_io.specs.declared.traits.WriteFault.{WriteFault}
use Rattle.aea_io.specs.Pages.{Prints}
use Rattle.aea_io.specs.Streams.{SinkState}
use Rattle.aea_io.proofs.Printing.{prints_then, prints_none}
use Rattle.aea_lattice.specs.declared.grid.Lattice.{Lattice}
use Rattle.aea_lattice.specs.declared.shape.Shape.{Shape}
use Rattle.aea_envelope.specs.Facts.{CellsHaveLengths, CellsHaveParts}
use Rattle.aea_disk.specs.Files.{Files}
use Rattle.aea_disk.specs.Frames.{OnlyWrites}
use Rattle.aea_disk.specs.Ends.{EndsAt}
use Rattle.aea_disk.specs.State.{State, Passes, KeepsTaking, IsReady, IsSynced}
use Rattle.aea_shelf.specs.Writes.{KeepsShelf, KeepsPadded}
use Rattle.aea_shelf.proofs.Runs.{padded_none, padded_less, padded_both}
use Rattle.aea_disk.proofs.Frames.{writes_none, writes_both, writes_as}
use Rattle.aea_records.specs.Format.{Record, Object, nodes_for, nodes_of, limit_when, spelled, is_raise, fences_of, digests_of}
use Rattle.aea_records.specs.Grammar.{IsLedger, IsNext, MayFollow, MayBeStored}
use Rattle.aea_records.specs.Laws.{HasOneReading, DigestsAreCounted, ObjectsAreCounted, NewNamesAreFree}
use Rattle.aea_ledger.specs.Next.{AreItsRecords}
use Rattle.aea_ledger.specs.Recorded.{IsLatticeOf}
use Rattle.aea_ledger.specs.Stops.{HasLedger}
use Rattle.aea_ledger.specs.Values.{Opened, HasRecords, HasSomeRecords, IsThisOne}
use Rattle.aea_ledger.specs.Taking.{FitsAdding}
use Rattle.aea_ledger.proofs.Readying.{ready_after}
use Rattle.aea_records.proofs.OneMore.{raised_stays, nodes_of-append}
use Rattle.aea_archive.specs.Blocks.{IsBlockIn, recorded_in, IsIntactBy}
use Rattle.aea_archive.specs.Cells.{IsBesides, ChangesArchive, FitsRows}
use Rattle.aea_archive.specs.Lasts.{IsLastParity, AreLastsIntact}
use Rattle.aea_archive.specs.Laws.{LastsAreValues, ObjectsRecordMore}
use Rattle.aea_archive.specs.Next.{NewObject}
use Rattle.aea_archive.proofs.Cells.{changes_none, changes_both, changes_less, changes_shelf, room_later}
use Rattle.aea_append.specs.Causes.{next_end}
use Rattle.aea_append.specs.Frames.{frame_of, IsFramed, HasFrameRoom}
use Rattle.aea_append.specs.Puts.{HasStored}
use Rattle.aea_append.specs.declared.store.Stored.{Stored}
use Rattle.aea_command_store.specs.Growing.{Grows, StaysGrown, HasGrown}
use Rattle.aea_command_store.specs.Ingest.{GrowsSurely, frames_of, stored_lines, IsOfObject, AreOfObjects, FitsFrames}
use Rattle.aea_command_store.specs.Put.{stored_line, stored_text}
use Rattle.aea_command_store.proofs.Agreeing.{follow_behind}
use Rattle.aea_command_store.proofs.Growing.{grows_both, first_of_both, grown_both, all_both}
use Rattle.aea_command_store.proofs.PutLemmas.Opening.{changes}
use Rattle.aea_archive.proofs.Honest.{stands}
use Rattle.aea_archive.proofs.Records.{one_lattice}
use Rattle.aea_command_store.proofs.IngestLemmas.Heads.{lasts_were_intact}
use Rattle.aea_command_store.proofs.IngestLemmas.One.{grown_by_one}
use Rattle.aea_command_store.proofs.IngestLemmas.Rooming.{adding_after, kept_after, spelled_next}
use Rattle.aea_command_store.proofs.IngestLemmas.Space.{some_more, entered_next, space_of_next}
use Rattle.sha2.specs.Sha256.{sha256}

-- ---- lists

-- the frames, and the lines, of objects and of one more
pub frames_more : (objects : List NewObject) (o : NewObject) → frames_of objects ++ frame_of o ≡ frames_of (objects ++ o ∷ [])
frames_more objects o = ap (λ (l : List ℕ). frames_of objects ++ l) (sym (append-nil (frame_of o))) ∙ sym (flat_map-append frame_of objects (o ∷ []))

pub lines_more : (shape : Shape) (objects : List NewObject) (o : NewObject) → stored_lines shape objects ++ stored_line shape o ≡ stored_lines shape (objects ++ o ∷ [])
lines_more shape objects o = ap (λ (l : List ℕ). stored_lines shape objects ++ l) (sym (append-nil (stored_line shape o))) ∙ sym (flat_map-append (stored_line shape) objects (o ∷ []))

-- the records of objects, and of one more
are_more : (shape : Shape) (objects : List NewObject) (added : List Record) (o : NewObject) (r : Record) → AreOfObjects shape objects added → IsOfObject shape o r → AreOfObjects shape (objects ++ o ∷ []) (added ++ r ∷ [])
are_more shape [] [] o r are is = (is, tt)
are_more shape [] (q ∷ added) o r none is = absurd none
are_more shape (x ∷ objects) [] o r none is = absurd none
are_more shape (x ∷ objects) (q ∷ added) o r are is = (are.0, are_more shape objects added o r are.1 is)

-- as many
pub are_many : (shape : Shape) (objects : List NewObject) (added : List Record) → AreOfObjects shape objects added → length added ≡ length objects
are_many shape [] [] are = refl
are_many shape [] (q ∷ added) none = absurd none
are_many shape (x ∷ objects) [] none = absurd none
are_many shape (x ∷ objects) (q ∷ added) are = ap suc (are_many shape objects added are.1)

-- none of them raises the limit
no_raise : (shape : Shape) (records : List Record) (objects : List NewObject) (added : List Record) → AreOfObjects shape objects added → list_any is_raise (records ++ added) ≡ list_any is_raise records
no_raise shape records [] [] are = ap (list_any is_raise) (append-nil records)
no_raise shape records [] (q ∷ added) none = absurd none
no_raise shape records (x ∷ objects) [] none = absurd none
no_raise shape records (x ∷ objects) (q ∷ added) are =
    sym (ap (list_any is_raise) (append_assoc records (q ∷ []) added)) ∙ no_raise shape (records ++ q ∷ []) objects added are.1 ∙ raised_stays records q (ap is_raise are.0.1)

-- ---- what is there

-- the archive grew by the objects, by these records; or there is none, and the disk is the same
abbrev pub IsGone : Type 0 → Shape → List Record → State → State → List NewObject → List Record → Type 0
IsGone same shape records old now objects added =
    ((objects ≡ []) × (added ≡ []) × same) ⊎ ((objects ≢ []) × ((g : HasGrown shape records objects old now) × (g.stays.grows.by.added ≡ added)))

-- Of a run that stored the objects of the first frames, one after the other, and printed their lines: the opened ledger at
-- its beginning and now, the input, the disk and the output.
pub record HasGone (reveals same : Type 0) (v w : Opened) (left rest : Option (List ℕ)) (old now : State) (before after : SinkState) (objects : List NewObject) : Type 0 where
  pub framed : Consumes left rest (frames_of objects)
  pub added : List Record
  pub are : AreOfObjects v.shape objects added
  pub same_shape : w.shape ≡ v.shape
  pub has : (records : List Record) → HasRecords v records → HasRecords w (records ++ added)
  pub live : w.live ≡ true
  pub its : reveals → (records : List Record) → AreItsRecords v records (old.files 0) → AreItsRecords w (records ++ added) (now.files 0)
  pub synced : reveals → IsSynced now
  pub writes : OnlyWrites reveals (IsReady old) (FitsFrames v left old) ⊥ (changes v) old now
  -- with the space for all there is space to sync the ledger that is there now
  pub kept : reveals → FitsFrames v left old → now.keeps (now.files 0)
  pub grew : reveals → (records : List Record) → AreItsRecords v records (old.files 0) → IsGone same v.shape records old now objects added
  pub padded : reveals → KeepsPadded v.shape (IsBlockIn v.shape v.lattice.n) old.files now.files
  pub printed : Prints {T = Unit {0}} {E = WriteFault} before [] after [] (Ok tt) (stored_lines v.shape objects)

-- before the first frame
pub gone_none : (reveals same : Type 0) (is : same) (v : Opened) (left : Option (List ℕ)) (s : State) (out : SinkState) → v.live ≡ true → (reveals → IsSynced s) → HasGone reveals same v v left left s s out out []
gone_none reveals same is v left s out live synced = record {
  framed = Consumes-nil left;
  added = [];
  are = tt;
  same_shape = refl;
  has = λ records has. subst (HasRecords v) (sym (append-nil records)) has;
  live = live;
  its = λ revealed records its. subst (λ (rs : List Record). AreItsRecords v rs (s.files 0)) (sym (append-nil records)) its;
  synced = synced;
  kept = λ revealed fits. fits.sites.sync;
  writes = writes_none reveals (IsReady s) (FitsFrames v left s) (changes v) s (λ c. changes_none v.shape (limit_when v.raised) (IsBlockIn v.shape v.lattice.n) (IsBesides v.shape) c);
  grew = λ revealed records its. inl (refl, refl, is);
  padded = λ revealed. padded_none v.shape (IsBlockIn v.shape v.lattice.n) s.files;
  printed = prints_none out [] tt;
}

module _ (reveals same : Type 0) (v w : Opened) (some : HasSomeRecords v) (left rest : Option (List ℕ)) (old now : State) (before after : SinkState) (objects : List NewObject)
    (gone : HasGone reveals same v w left rest old now before after objects) (still : same → now ≡ old) (is_this : reveals → IsThisOne v (old.files 0)) where
  abbrev records : List Record
  records = some.0

  start : HasRecords v some.0
  start = some.1

  has_now : HasRecords w (some.0 ++ gone.added)
  has_now = gone.has some.0 some.1

  -- the limit is the same, and there are no fewer nodes
  same_raised : w.raised ≡ v.raised
  same_raised = has_now.raised ∙ no_raise v.shape records objects gone.added gone.are ∙ sym start.raised

  no_fewer : v.lattice.n ≤ w.lattice.n
  no_fewer = omega (arith, start.lattice.n, has_now.lattice.n, nodes_of-append records gone.added)

  -- a change that leaves the archive as it is now leaves the one at the beginning
  narrow : (c d : Files) → changes w c d → changes v c d
  narrow c d step =
      let as_shape = subst (λ (s : Shape). ChangesArchive s (limit_when w.raised) (IsBlockIn s w.lattice.n) (IsBesides s) c d) gone.same_shape step in
      let as_limit = subst (λ (b : Bool). ChangesArchive v.shape (limit_when b) (IsBlockIn v.shape w.lattice.n) (IsBesides v.shape) c d) same_raised as_shape in
      changes_less v.shape (limit_when v.raised) (IsBlockIn v.shape w.lattice.n) (IsBlockIn v.shape v.lattice.n) (IsBesides v.shape) (IsBesides v.shape) c d
      (λ a on. record { after = on.after; most = (let m = on.most in let n = no_fewer in omega (arith, m, n)); used = on.used }) (λ f past. past) as_limit

  -- the records of the disk's ledger, and those of the objects after them
  its_start : (revealed : reveals) → AreItsRecords v (is_this revealed).records (old.files 0)
  its_start revealed = let one = is_this revealed in record { has = one.has; ledger = one.ledger }

  its_now : (revealed : reveals) → AreItsRecords w ((is_this revealed).records ++ gone.added) (now.files 0)
  its_now revealed = gone.its revealed (is_this revealed).records (its_start revealed)

  -- where the last parities are intact now, they were at the beginning
  were_intact : CellsHaveLengths → CellsHaveParts → DigestsAreCounted → reveals → AreLastsIntact w.shape w.lattice w.digests now.files → AreLastsIntact v.shape v.lattice v.digests old.files
  were_intact lengths parts counts revealed intact b last =
      let one = is_this revealed in
      let its = its_now revealed in
      ⊎_elim
      (λ none.
      let all : one.records ++ gone.added ≡ one.records = ap (λ (l : List Record). one.records ++ l) none.1 ∙ append-nil one.records in
      let mine : IsLatticeOf v.shape (nodes_of one.records) (fences_of one.records) w.lattice =
      subst (λ (l : List Record). IsLatticeOf v.shape (nodes_of l) (fences_of l) w.lattice) all
      (subst (λ (s : Shape). IsLatticeOf s (nodes_of (one.records ++ gone.added)) (fences_of (one.records ++ gone.added)) w.lattice) gone.same_shape its.has.lattice) in
      let lattice : w.lattice ≡ v.lattice = one_lattice v.shape (nodes_of one.records) (fences_of one.records) w.lattice v.lattice mine one.has.lattice in
      let digests : w.digests ≡ v.digests = its.has.digests ∙ ap digests_of all ∙ sym one.has.digests in
      let here : IsIntactBy w.shape w.digests now.files b = intact b (subst (λ (l : Lattice). IsLastParity l b) (sym lattice) last) in
      subst (λ (s : State). IsIntactBy v.shape v.digests s.files b) (still none.2)
      (subst (λ (ds : List (List ℕ)). IsIntactBy v.shape ds now.files b) digests (subst (λ (s : Shape). IsIntactBy s w.digests now.files b) gone.same_shape here)))
      (λ some.
      let g : StaysGrown v.shape one.records objects old now = some.1.0.stays in
      let lattice : g.grows.by.lattice ≡ v.lattice = one_lattice v.shape (nodes_of one.records) (fences_of one.records) g.grows.by.lattice v.lattice g.grows.by.is_lattice one.has.lattice in
      let here = lasts_were_intact lengths parts counts v.shape one.records one.has.valid objects some.0 old now g b (subst (λ (l : Lattice). IsLastParity l b) (sym lattice) last) in
      subst (λ (ds : List (List ℕ)). IsIntactBy v.shape ds old.files b) (sym one.has.digests) here)
      (gone.grew revealed one.records (its_start revealed))

  -- the space of a frame is within that of all
  room_of_frame : ObjectsAreCounted → NewNamesAreFree → CellsHaveLengths → CellsHaveParts → DigestsAreCounted → reveals → FitsFrames v left old → HasFrameRoom w rest now
  room_of_frame count free lengths parts counts revealed fits =
      let time = gone.writes.time in
      let one = is_this revealed in
      let its = its_now revealed in
      let rows : FitsRows v.shape (limit_when v.raised) now = record { sites = room_later v.shape (limit_when v.raised) old now time fits.sites.sites; sync = gone.kept revealed fits } in
      record {
        sites = subst (λ (b : Bool). FitsRows w.shape (limit_when b) now) (sym same_raised) (subst (λ (s : Shape). FitsRows s (limit_when v.raised) now) (sym gone.same_shape) rows);
        ledger = λ o rest2 framed may intact few.
            let all : Consumes left rest2 (frames_of (objects ++ o ∷ [])) = subst (Consumes left rest2) (frames_more objects o) (Consumes-trans left rest rest2 (frames_of objects) (frame_of o) gone.framed framed) in
            adding_after old now v.shape w.shape one.records v.end w.end one.ledger time gone.added its.ledger (gone.kept revealed fits)
            (next_end w.end (length o.name) (nodes_for w.shape (length o.bytes) * (1 + w.shape.alpha)))
            (space_of_next count free v w gone.same_shape old one.records gone.added (its_start revealed) (were_intact lengths parts counts revealed intact) its.has objects gone.are (are_many v.shape objects gone.added gone.are) left rest2 fits o all may few);
      }

  -- and the disk is ready for it
  ready_now : ((b c : List ℕ) (m n : ℕ) → EndsAt c n → now.takes 0 b m → now.takes 0 c n) → reveals → IsReady old → KeepsTaking old now → IsReady now
  ready_now ended revealed ready goes = ready_after old now w.shape ((is_this revealed).records ++ gone.added) w.end ended (its_now revealed).ledger goes ready

  -- all the writes up to the end of one more call
  pub writes_more : ObjectsAreCounted → NewNamesAreFree → CellsHaveLengths → CellsHaveParts → DigestsAreCounted → ((b c : List ℕ) (m n : ℕ) → EndsAt c n → now.takes 0 b m → now.takes 0 c n) → (fault : Type 0) (next : State)
      → OnlyWrites reveals (IsReady now) (HasFrameRoom w rest now) fault (changes w) now next → OnlyWrites reveals (IsReady old) (FitsFrames v left old) fault (changes v) old next
  writes_more count free lengths parts counts ended fault next writes =
      writes_both reveals (IsReady old) (IsReady old) (IsReady now) (FitsFrames v left old) (FitsFrames v left old) (HasFrameRoom w rest now) ⊥ fault (changes v) (changes w) (changes v) old now next (λ none. none)
      (λ c d step. step)
      (λ c d e one two. changes_both v.shape (limit_when v.raised) (IsBlockIn v.shape v.lattice.n) (IsBesides v.shape) c d e one (narrow d e two))
      (λ revealed ready. ready) (λ revealed ready step goes. ready_now ended revealed ready goes)
      (λ revealed fits. fits) (λ revealed fits step time. room_of_frame count free lengths parts counts revealed fits) gone.writes writes

  -- the homes of the blocks at the beginning read so up to the end of one more call
  pub padded_more : (next : State) → (reveals → KeepsPadded w.shape (IsBlockIn w.shape w.lattice.n) now.files next.files) → reveals → KeepsPadded v.shape (IsBlockIn v.shape v.lattice.n) old.files next.files
  padded_more next keeps revealed =
      let as_shape = subst (λ (s : Shape). KeepsPadded s (IsBlockIn s w.lattice.n) now.files next.files) gone.same_shape (keeps revealed) in
      padded_both v.shape (IsBlockIn v.shape v.lattice.n) old.files now.files next.files (gone.padded revealed)
      (padded_less v.shape (IsBlockIn v.shape w.lattice.n) (IsBlockIn v.shape v.lattice.n) now.files next.files
      (λ a on. record { after = on.after; most = (let m = on.most in let n = no_fewer in omega (arith, m, n)); used = on.used }) as_shape)

  -- the line of what was stored
  pub line_of_stored : (w2 : Opened) (o : NewObject) (next : State) (stored : Stored) (name : List ℕ) → o.name ≡ name → HasStored reveals w w2 o now next stored → stored_text stored.nodes stored.length stored.digest name ≡ stored_line v.shape o
  line_of_stored w2 o next stored name named has =
      ap (λ (n : ℕ). stored_text n stored.length stored.digest name) has.count
      ∙ ap (λ (n : ℕ). stored_text (nodes_for w.shape (length o.bytes)) n stored.digest name) has.size
      ∙ ap (λ (d : List ℕ). stored_text (nodes_for w.shape (length o.bytes)) (length o.bytes) d name) has.digest
      ∙ ap (λ (n : List ℕ). stored_text (nodes_for w.shape (length o.bytes)) (length o.bytes) (sha256 o.bytes) n) (sym named)
      ∙ ap (λ (s : Shape). stored_text (nodes_for s (length o.bytes)) (length o.bytes) (sha256 o.bytes) o.name) gone.same_shape

  -- ---- a stretch after what was stored

  module _ (reading : HasOneReading) (lengths : CellsHaveLengths) (parts : CellsHaveParts) (values : LastsAreValues) (record_more : ObjectsRecordMore) (counts : DigestsAreCounted)
      (next : State) (fault : Type 0) (writes : OnlyWrites reveals (IsReady now) (HasFrameRoom w rest now) fault (changes w) now next) where
    -- a stretch that grows by some objects after those that are there: these are in every image, whatever happens to the others
    pub surely : reveals → (list : List Record) → AreItsRecords v list (old.files 0) → (ys : List NewObject) → Grows w.shape (list ++ gone.added) ys now next → GrowsSurely v.shape list (objects ++ ys) (length objects) old next
    surely revealed list its ys second = ⊎_elim
        (λ none.
        let nil : list ++ gone.added ≡ list = ap (λ (l : List Record). list ++ l) none.1 ∙ append-nil list in
        let late : Grows v.shape list ys old next =
        subst (λ (s : State). Grows v.shape list ys s next) (still none.2)
        (subst (λ (rs : List Record). Grows v.shape rs ys now next) nil (subst (λ (s : Shape). Grows s (list ++ gone.added) ys now next) gone.same_shape second)) in
        let time : Passes old next = subst (λ (s : State). Passes s next) (still none.2) writes.time in
        subst (λ (xs : List NewObject). GrowsSurely v.shape list (xs ++ ys) (length xs) old next) (sym none.0)
        (record {
          grows = late;
          first = λ c here. late.by.adds.prefix next.moment c time.later (omega arith) here;
          reads = late.by.adds.reads;
        }))
        (λ some.
        let first = some.1.0.stays in
        let is = some.1.1 in
        let late : Grows v.shape (list ++ first.grows.by.added) ys now next =
        subst (λ (l : List Record). Grows v.shape (list ++ l) ys now next) (sym is) (subst (λ (s : Shape). Grows s (list ++ gone.added) ys now next) gone.same_shape second) in
        let nodes : w.lattice.n ≡ nodes_of (list ++ first.grows.by.added) = (gone.its revealed list its).has.lattice.n ∙ ap (λ (l : List Record). nodes_of (list ++ l)) (sym is) in
        let shelf = subst (λ (n : ℕ). KeepsShelf reveals v.shape (IsBlockIn v.shape n) now next) nodes
        (subst (λ (s : Shape). KeepsShelf reveals s (IsBlockIn s w.lattice.n) now next) gone.same_shape (changes_shelf reveals _ (HasFrameRoom w rest now) fault w.shape (limit_when w.raised) (IsBlockIn w.shape w.lattice.n) (IsBesides w.shape) now next writes)) in
        let few : length objects ≤ length first.grows.by.added = (let n = are_many v.shape objects gone.added gone.are in omega (arith, n, ap length is)) in
        record {
          grows = grows_both reading lengths parts values record_more counts reveals v.shape list objects ys some.0 old now next gone.writes.time writes.time gone.writes.earlier first late shelf;
          first = λ c here.
              first_of_both reading lengths parts values record_more counts reveals v.shape list objects ys some.0 old now next gone.writes.time writes.time gone.writes.earlier first late shelf
              (length objects) (c 0) few (late.by.adds.prefix next.moment c writes.time.later (omega arith) here);
          reads = first_of_both reading lengths parts values record_more counts reveals v.shape list objects ys some.0 old now next gone.writes.time writes.time gone.writes.earlier first late shelf
              (length objects) (next.files 0) few late.by.adds.reads;
        })
        (gone.grew revealed list its)

    -- a stretch in which none is added, whatever else is written: those that are there stay so
    pub stays_more : (revealed : reveals) (list : List Record) → AreItsRecords v list (old.files 0) → StaysGrown w.shape (list ++ gone.added) [] now next → StaysGrown v.shape list (objects ++ []) old next
    stays_more revealed list its second = ⊎_elim
        (λ none.
        let nil : list ++ gone.added ≡ list = ap (λ (l : List Record). list ++ l) none.1 ∙ append-nil list in
        subst (λ (xs : List NewObject). StaysGrown v.shape list (xs ++ []) old next) (sym none.0)
        (subst (λ (s : State). StaysGrown v.shape list [] s next) (still none.2)
        (subst (λ (rs : List Record). StaysGrown v.shape rs [] now next) nil (subst (λ (s : Shape). StaysGrown s (list ++ gone.added) [] now next) gone.same_shape second))))
        (λ some.
        let first = some.1.0.stays in
        let is = some.1.1 in
        let late : StaysGrown v.shape (list ++ first.grows.by.added) [] now next =
        subst (λ (l : List Record). StaysGrown v.shape (list ++ l) [] now next) (sym is) (subst (λ (s : Shape). StaysGrown s (list ++ gone.added) [] now next) gone.same_shape second) in
        let nodes : w.lattice.n ≡ nodes_of (list ++ first.grows.by.added) = (gone.its revealed list its).has.lattice.n ∙ ap (λ (l : List Record). nodes_of (list ++ l)) (sym is) in
        let shelf = subst (λ (n : ℕ). KeepsShelf reveals v.shape (IsBlockIn v.shape n) now next) nodes
        (subst (λ (s : Shape). KeepsShelf reveals s (IsBlockIn s w.lattice.n) now next) gone.same_shape (changes_shelf reveals _ (HasFrameRoom w rest now) fault w.shape (limit_when w.raised) (IsBlockIn w.shape w.lattice.n) (IsBesides w.shape) now next writes)) in
        grown_both reading lengths parts values record_more counts reveals revealed v.shape list objects [] some.0 old now next gone.writes.time writes.time gone.writes.earlier first late shelf)
        (gone.grew revealed list its)

  -- ---- one more object

  module _ (reading : HasOneReading) (lengths : CellsHaveLengths) (parts : CellsHaveParts) (values : LastsAreValues) (record_more : ObjectsRecordMore) (counts : DigestsAreCounted)
      (w2 : Opened) (o : NewObject) (next : State) (stored : Stored) (has : HasStored reveals w w2 o now next stored) (fault : Type 0) (writes : OnlyWrites reveals (IsReady now) (HasFrameRoom w rest now) fault (changes w) now next) where
    -- the stretch of this frame
    second : (revealed : reveals) (list : List Record) → AreItsRecords v list (old.files 0) → (g : HasGrown v.shape (list ++ gone.added) (o ∷ []) now next) × (g.stays.grows.by.added ≡ Object has.r ∷ [])
    second revealed list its =
        subst (λ (s : Shape). (g : HasGrown s (list ++ gone.added) (o ∷ []) now next) × (g.stays.grows.by.added ≡ Object has.r ∷ [])) gone.same_shape
        (grown_by_one reveals revealed w (list ++ gone.added) now next (gone.its revealed list its) (gone.synced revealed) (IsReady now) (HasFrameRoom w rest now) fault writes w2 o stored has)

    pub grew_more : (revealed : reveals) (list : List Record) → AreItsRecords v list (old.files 0) → (g : HasGrown v.shape list (objects ++ o ∷ []) old next) × (g.stays.grows.by.added ≡ gone.added ++ Object has.r ∷ [])
    grew_more revealed list its = ⊎_elim
        (λ none.
        let nil : list ++ gone.added ≡ list = ap (λ (l : List Record). list ++ l) none.1 ∙ append-nil list in
        let as_objects : o ∷ [] ≡ objects ++ o ∷ [] = ap (λ (l : List NewObject). l ++ o ∷ []) (sym none.0) in
        let as_added : Object has.r ∷ [] ≡ gone.added ++ Object has.r ∷ [] = ap (λ (l : List Record). l ++ Object has.r ∷ []) (sym none.1) in
        subst (λ (l : List Record). (g : HasGrown v.shape list (objects ++ o ∷ []) old next) × (g.stays.grows.by.added ≡ l)) as_added
        (subst (λ (xs : List NewObject). (g : HasGrown v.shape list xs old next) × (g.stays.grows.by.added ≡ Object has.r ∷ [])) as_objects
        (subst (λ (s : State). (g : HasGrown v.shape list (o ∷ []) s next) × (g.stays.grows.by.added ≡ Object has.r ∷ [])) (still none.2)
        (subst (λ (rs : List Record). (g : HasGrown v.shape rs (o ∷ []) now next) × (g.stays.grows.by.added ≡ Object has.r ∷ [])) nil (second revealed list its)))))
        (λ some.
        let first = some.1.0 in
        let is = some.1.1 in
        let late = subst (λ (l : List Record). (g : HasGrown v.shape (list ++ l) (o ∷ []) now next) × (g.stays.grows.by.added ≡ Object has.r ∷ [])) (sym is) (second revealed list its) in
        let nodes : w.lattice.n ≡ nodes_of (list ++ first.stays.grows.by.added) = (gone.its revealed list its).has.lattice.n ∙ ap (λ (l : List Record). nodes_of (list ++ l)) (sym is) in
        let shelf = subst (λ (n : ℕ). KeepsShelf reveals v.shape (IsBlockIn v.shape n) now next) nodes
        (subst (λ (s : Shape). KeepsShelf reveals s (IsBlockIn s w.lattice.n) now next) gone.same_shape (changes_shelf reveals _ (HasFrameRoom w rest now) fault w.shape (limit_when w.raised) (IsBlockIn w.shape w.lattice.n) (IsBesides w.shape) now next writes)) in
        let both = all_both reading lengths parts values record_more counts reveals revealed v.shape list objects (o ∷ []) some.0 old now next gone.writes.time writes.time gone.writes.earlier first late.0 shelf in
        (both.0, both.1 ∙ ap (λ (l : List Record). first.stays.grows.by.added ++ l) late.1 ∙ ap (λ (l : List Record). l ++ Object has.r ∷ []) is))
        (gone.grew revealed list its)

    synced_more : reveals → IsSynced next
    synced_more revealed = (let one = is_this revealed in (has.added revealed (one.records ++ gone.added) (gone.its revealed one.records (record { has = one.has; ledger = one.ledger }))).synced)

    -- there is space to sync the ledger with its record
    kept_more : ObjectsAreCounted → NewNamesAreFree → (rest2 : Option (List ℕ)) → IsFramed rest rest2 o → reveals → FitsFrames v left old → next.keeps (next.files 0)
    kept_more count free rest2 framed revealed fits =
        let its = its_now revealed in
        let list : List Record = (is_this revealed).records ++ gone.added in
        let added = has.added revealed list its in
        let valid : MayFollow w.shape [] (list ++ Object has.r ∷ []) = subst (λ (s : Shape). MayFollow s [] (list ++ Object has.r ∷ [])) has.same_shape (has.value list its.has).valid in
        let behind : IsNext w.shape list (Object has.r) = (follow_behind w.shape [] list (Object has.r ∷ []) valid).0 in
        let may : MayBeStored w.shape list has.r = behind.stored in
        let size : next_end w.end (length o.name) (nodes_for w.shape (length o.bytes) * (1 + w.shape.alpha)) ≡ length (spelled w.shape (list ++ Object has.r ∷ [])) =
        ap (λ (n : ℕ). next_end n (length o.name) (nodes_for w.shape (length o.bytes) * (1 + w.shape.alpha))) its.has.end
        ∙ ap (λ (l : List ℕ). next_end (length (spelled w.shape list)) (length l) (nodes_for w.shape (length o.bytes) * (1 + w.shape.alpha))) (sym has.next.name_is)
        ∙ ap (λ (n : ℕ). next_end (length (spelled w.shape list)) (length has.r.name) (n * (1 + w.shape.alpha))) (sym has.next.count)
        ∙ sym (spelled_next w.shape list has.r may) in
        let few : w.lattice.n + nodes_for w.shape (length o.bytes) ≤ limit_when w.raised = omega (arith, may.fits, has.next.count, its.has.lattice.n, ap limit_when its.has.raised) in
        kept_after now next w.shape w.shape list w.end (length (spelled w.shape (list ++ Object has.r ∷ []))) its.ledger writes.time (Object has.r) added.ledger
        (subst (FitsAdding now 1) size ((room_of_frame count free lengths parts counts revealed fits).ledger o rest2 framed
        (entered_next count free w list its.has o (Object has.r) ((has.r, refl, has.next.name_is, has.next.size, has.next.count), tt) behind)
        (λ b last. (stands lengths parts w.shape b (recorded_in w.shape w.digests b) (has.payload b) now.files (has.lasts_wide b last) (has.lasts b last) (has.homes revealed b last)).intact) few))

    -- with its line
    pub gone_more : ObjectsAreCounted → NewNamesAreFree → ((b c : List ℕ) (m n : ℕ) → EndsAt c n → now.takes 0 b m → now.takes 0 c n) → (other : Type 0) (rest2 : Option (List ℕ)) (after2 : SinkState) → IsFramed rest rest2 o → (fault → ⊥) → (reveals → KeepsPadded w.shape (IsBlockIn w.shape w.lattice.n) now.files next.files) → Prints {T = Unit {0}} {E = WriteFault} after [] after2 [] (Ok tt) (stored_line v.shape o)
        → HasGone reveals other v w2 left rest2 old next before after2 (objects ++ o ∷ [])
    gone_more count free ended other rest2 after2 framed fine keeps line =
        let behind : (list : List Record) → (list ++ gone.added) ++ Object has.r ∷ [] ≡ list ++ (gone.added ++ Object has.r ∷ []) = λ list. append_assoc list gone.added (Object has.r ∷ []) in
        let now_has : (list : List Record) → HasRecords v list → HasRecords w2 (list ++ (gone.added ++ Object has.r ∷ [])) =
        λ list had. subst (HasRecords w2) (behind list) (has.value (list ++ gone.added) (gone.has list had)) in
        record {
          framed = subst (Consumes left rest2) (frames_more objects o) (Consumes-trans left rest rest2 (frames_of objects) (frame_of o) gone.framed framed);
          added = gone.added ++ Object has.r ∷ [];
          are = are_more v.shape objects gone.added o (Object has.r) gone.are (has.r, refl, has.next.name_is, has.next.size, has.next.count ∙ ap (λ (s : Shape). nodes_for s (length o.bytes)) gone.same_shape);
          same_shape = has.same_shape ∙ gone.same_shape;
          has = now_has;
          live = has.live;
          its = λ revealed list its.
              let all = now_has list its.has in
              let ledger = (has.added revealed (list ++ gone.added) (gone.its revealed list its)).ledger in
              let as_records = subst (λ (rs : List Record). HasLedger w.shape rs (next.files 0)) (behind list) ledger in
              let as_shape = subst (λ (s : Shape). HasLedger s (list ++ (gone.added ++ Object has.r ∷ [])) (next.files 0)) (sym has.same_shape) as_records in
              record { has = all; ledger = subst (λ (n : ℕ). IsLedger (next.files 0) w2.shape (list ++ (gone.added ++ Object has.r ∷ [])) n) (sym all.end) as_shape };
          synced = λ revealed. synced_more revealed;
          writes = writes_as reveals (IsReady old) (FitsFrames v left old) fault ⊥ (changes v) old next (λ none. absurd none) fine (writes_more count free lengths parts counts ended fault next writes);
          kept = kept_more count free rest2 framed;
          grew = λ revealed list its. inr (some_more objects o, grew_more revealed list its);
          padded = padded_more next keeps;
          printed = subst (λ (l : List ℕ). Prints {T = Unit {0}} {E = WriteFault} before [] after2 [] (Ok tt) l) (lines_more v.shape objects o) (prints_then gone.printed line);
        }
