-- How a run ends that stores the frames of a stream: what was stored, and what was printed.
use Rattle.std.proofs.Common.{◌≡◌, inl, inr, ⊎_elim, ℕ, ◌≤◌, List, [], ◌∷◌, ◌++◌, length, take, refl, sym, ◌∙◌, ap, subst, arith, Option, Result, Ok, Err, length-append}
use Rattle.std.specs.Prelude.{IsOk}
use Rattle.std.specs.Io.KnownBytes.{Consumes, Appends, IsAtEnd}
use Rattle.std.proofs.KnownBytes.{Consumes-trans, Appends-trans}
use Rattle.std.proofs.lemmas.Bool.{false≢true}
use Rattle.std.proofs.lemmas.List.{append-nil}
use Rattle.aea_io.specs.declared.traits.WriteFault.{WriteFault}
use Rattle.aea_io.specs.Pages.{Prints}
use Rattle.aea_io.specs.Streams.{SinkState}
use Rattle.aea_io.specs.Written.{AppendsPart}
use Rattle.aea_io.proofs.Printing.{prints_then}
use Rattle.aea_lattice.specs.declared.shape.Shape.{Shape}
use Rattle.aea_envelope.specs.Facts.{CellsHaveLengths, CellsHaveParts}
use Rattle.aea_disk.specs.Files.{Files}
use Rattle.aea_disk.specs.Frames.{OnlyWrites}
use Rattle.aea_disk.specs.State.{State, IsReady, IsSynced}
use Rattle.aea_disk.proofs.Frames.{writes_none}
use Rattle.aea_disk.proofs.Moments.{during_none}
use Rattle.aea_shelf.specs.Writes.{KeepsPadded}
use Rattle.aea_records.specs.Format.{Record, Object, digests_of, limit_when}
use Rattle.aea_records.specs.Laws.{HasOneReading, DigestsAreCounted}
use Rattle.aea_ledger.specs.Next.{AreItsRecords}
use Rattle.aea_ledger.specs.Stops.{HasLedger}
use Rattle.aea_ledger.specs.Values.{Opened, HasSomeRecords, IsThisOne}
use Rattle.aea_archive.specs.Blocks.{IsBlockIn}
use Rattle.aea_archive.specs.Cells.{IsBesides}
use Rattle.aea_archive.specs.Data.{AreSurvivorsHonest, IsDamagePlain}
use Rattle.aea_archive.specs.Laws.{LastsAreValues, ObjectsRecordMore, SurvivorsStayHonest}
use Rattle.aea_archive.specs.Next.{NewObject}
use Rattle.aea_archive.proofs.Cells.{changes_none}
use Rattle.aea_records.proofs.OneMore.{nodes_of-append}
use Rattle.aea_archive.proofs.Stretches.{at_all, has_ledger}
use Rattle.aea_append.specs.Frames.{frame_of, IsFramed, HasFrameRoom}
use Rattle.aea_append.specs.Puts.{HasStored, MayHaveStored, LeavesLedger}
use Rattle.aea_append.specs.declared.ingest.IngestFault.{IngestFault}
use Rattle.aea_append.specs.declared.ingest.IngestFault.TheVariants as ingest
use Rattle.aea_append.specs.declared.store.Stored.{Stored}
use Rattle.aea_command.specs.declared.refusal.Failure.{Failure}
use Rattle.aea_command.specs.declared.refusal.Failure.TheVariants as failure
use Rattle.aea_command.specs.declared.refusal.Refusal.{Refusal}
use Rattle.aea_command.specs.declared.refusal.Refusal.TheVariants as refusal
use Rattle.aea_command.specs.declared.status.Status.{Status}
use Rattle.aea_command.specs.declared.status.Status.TheVariants.{Done}
use Rattle.aea_command.specs.Failures.{Answer, ingest_failure}
use Rattle.aea_command_store.specs.Growing.{StaysGrown, HasGrown}
use Rattle.aea_command_store.specs.Ingest.{GrowsSurely, EndsEarly, StoresOpened, PrintsLines, IngestsOpened, frames_of, stored_lines, end_line}
use Rattle.aea_command_store.specs.Put.{EndsStored, stored_line}
use Rattle.aea_command_store.proofs.PutLemmas.Opening.{changes}
use Rattle.aea_command.proofs.Texts.{printed_all}
use Rattle.aea_command_store.proofs.IngestLemmas.One.{grows_no_more, grows_maybe}
use Rattle.aea_command_store.proofs.IngestLemmas.Going.{HasGone, frames_more, lines_more, are_many, padded_more, surely, stays_more, grew_more}
use Rattle.aea_command_store.proofs.IngestLemmas.Output.{fits_lines, fits_end}
use Rattle.aea_command_store.proofs.Staying.{stays_none}

-- ---- answers

same_failure : {T : Type 0} (f g : Failure) → (let one : Result T Failure = Err f in one ≡ Err g) → f ≡ g
same_failure f g e = cc

-- a frame that is not taken is no failure of the output
pub ingest_not_output : (fault : IngestFault) → ingest_failure fault ≡ failure.Output → ⊥
ingest_not_output ingest.BadName e = let h : failure.Refused refusal.BadName ≡ failure.Output = e in cc
ingest_not_output ingest.NameTaken e = let h : failure.Refused refusal.NameTaken ≡ failure.Output = e in cc
ingest_not_output ingest.CatalogFull e = let h : failure.Refused refusal.CatalogFull ≡ failure.Output = e in cc
ingest_not_output (ingest.HeadDamaged b) e = let h : failure.Refused (refusal.HeadDamaged b) ≡ failure.Output = e in cc
ingest_not_output (ingest.Full n) e = let h : failure.Refused (refusal.Full n) ≡ failure.Output = e in cc
ingest_not_output (ingest.BadStream n) e = let h : failure.Refused (refusal.BadStream n) ≡ failure.Output = e in cc
ingest_not_output ingest.ReadFault e = cc
ingest_not_output ingest.DiskFault e = cc
ingest_not_output ingest.NoMemory e = cc

never_stored : {T : Type 0} (f : Failure) → (f ≡ failure.Output → ⊥) → EndsStored {T = T} (Err f) → ⊥
never_stored f output (inl ok) = false≢true ok
never_stored {T} f output (inr e) = output (same_failure {T = T} f failure.Output e)

-- ---- the archive, where nothing was stored

grown_none : (reveals : Type 0) (revealed : reveals) (v : Opened) (list : List Record) (s : State) → HasOneReading → AreItsRecords v list (s.files 0) → IsSynced s → HasGrown v.shape list [] s s
unfolding grows_no_more
grown_none reveals revealed v list s reading its synced =
    let writes = writes_none reveals (IsReady s) ⊥ (changes v) s (λ c. changes_none v.shape (limit_when v.raised) (IsBlockIn v.shape v.lattice.n) (IsBesides v.shape) c) in
    let leaves : LeavesLedger s s = record { images = during_none s (λ c. c 0 ≡ s.files 0) (λ c here. synced c here 0); reads = refl } in
    let ledger : HasLedger v.shape list (s.files 0) = has_ledger v list (s.files 0) its in
    let nil : list ≡ list ++ [] = sym (append-nil list) in
    let stays : StaysGrown v.shape list [] s s = record {
      grows = grows_no_more reveals revealed v list s s its synced (IsReady s) ⊥ ⊥ writes reading leaves;
      images = λ c here. subst (λ (l : List Record). HasLedger v.shape l (c 0)) nil (subst (HasLedger v.shape list) (sym (synced c here 0)) ledger);
      ledger = subst (λ (l : List Record). HasLedger v.shape l (s.files 0)) nil ledger;
      exactly = refl;
      blocks = λ b on. absurd (let a = on.after in let m = on.most in omega (arith, a, m, nodes_of-append list []));
      lasts = λ some. absurd (some refl);
      cells = λ b on. absurd (let a = on.after in let m = on.most in omega (arith, a, m));
      honest = λ datas recorded honest plain.
          let alone : datas ≡ datas ++ [] = sym (append-nil datas) in
          subst (λ (ds : List (List ℕ)). AreSurvivorsHonest v.shape v.lattice (digests_of (list ++ [])) ds s.files × IsDamagePlain v.shape v.lattice (digests_of (list ++ [])) s.files) alone
          (subst (λ (l : List Record). AreSurvivorsHonest v.shape v.lattice (digests_of l) datas s.files × IsDamagePlain v.shape v.lattice (digests_of l) s.files) nil (honest, plain));
    } in
    record { stays = stays; synced = synced }

-- all that grew is in every image
surely_all : (shape : Shape) (list : List Record) (objects : List NewObject) (old new : State) → (g : StaysGrown shape list objects old new) → length g.grows.by.added ≡ length objects → GrowsSurely shape list objects (length objects) old new
surely_all shape list objects old new g long = record {
  grows = g.grows;
  first = λ c here. at_all shape list g.grows.by.added (length objects) (c 0) (omega (arith, long)) (g.images c here);
  reads = at_all shape list g.grows.by.added (length objects) (new.files 0) (omega (arith, long)) g.ledger;
}

-- ---- what was printed

-- the lines of some objects are within those with the line that follows
lines_within : (shape : Shape) (xs : List NewObject) (line : List ℕ) → length (stored_lines shape xs) ≤ length (stored_lines shape xs ++ line)
lines_within shape xs line = omega (arith, length-append (stored_lines shape xs) line)

module _ (shape : Shape) (objects : List NewObject) (before after : SinkState) (lines : Prints {T = Unit {0}} {E = WriteFault} before [] after [] (Ok tt) (stored_lines shape objects)) where
  -- something else failed than the output
  pub prints_quiet : (f : Failure) → (f ≡ failure.Output → ⊥) → PrintsLines shape objects [] before after (Err f)
  prints_quiet f output = record {
    part = [];
    appends = subst (λ (l : List ℕ). Appends before.written after.written l) (sym (append-nil (stored_lines shape objects))) (printed_all lines);
    whole = tt;
    cut = λ e. absurd (output (same_failure {T = Status} f failure.Output e));
    quiet = λ differs. refl;
    in_room = λ room revealed enough. (λ e. output (same_failure {T = Status} f failure.Output e), lines.steady room revealed (let w = lines_within shape objects (end_line (length objects)) in omega (arith, w, enough)));
  }

  -- a first part of what was printed after the lines
  part_of : (last : SinkState) (line : List ℕ) → AppendsPart after.written last.written line → (part : List ℕ) × Appends before.written last.written (stored_lines shape objects ++ part) × ((k : ℕ) × (k ≤ length line) × (part ≡ take k line))
  part_of last line begun = (
    take begun.0 line,
    Appends-trans before.written after.written last.written (stored_lines shape objects) (take begun.0 line) (printed_all lines) begun.2,
    (begun.0, begun.1, refl),
  )

  -- the output failed in the line of one more object
  pub prints_cut : (last : SinkState) (o : NewObject) (fault : WriteFault) → Prints {T = Unit {0}} {E = WriteFault} after [] last [] (Err fault) (stored_line shape o) → PrintsLines shape objects (o ∷ []) before last (Err failure.Output)
  prints_cut last o fault line =
      let part = part_of last (stored_line shape o) line.bytes in
      record {
        part = part.0;
        appends = part.1;
        whole = tt;
        cut = λ e. part.2;
        quiet = λ differs. absurd (differs refl);
        in_room = λ room revealed enough.
            let all = prints_then lines line in
            let fits = all.fits room revealed enough in
            absurd (false≢true fits);
      }

  -- or in the last line
  pub prints_cut_end : (last : SinkState) (fault : WriteFault) → Prints {T = Unit {0}} {E = WriteFault} after [] last [] (Err fault) (end_line (length objects)) → PrintsLines shape objects [] before last (Err failure.Output)
  prints_cut_end last fault line =
      let part = part_of last (end_line (length objects)) line.bytes in
      record {
        part = part.0;
        appends = part.1;
        whole = tt;
        cut = λ e. part.2;
        quiet = λ differs. absurd (differs refl);
        in_room = λ room revealed enough.
            let all = prints_then lines line in
            let fits = all.fits room revealed enough in
            absurd (false≢true fits);
      }

  -- all was printed
  pub prints_end : (last : SinkState) → Prints {T = Unit {0}} {E = WriteFault} after [] last [] (Ok tt) (end_line (length objects)) → PrintsLines shape objects [] before last (Ok Done)
  prints_end last line =
      let all = prints_then lines line in
      record {
        part = end_line (length objects);
        appends = printed_all all;
        whole = refl;
        cut = λ e. let h : (let a : Answer = Ok Done in a ≡ Err failure.Output) = e in cc;
        quiet = tt;
        in_room = λ room revealed enough. (λ e. (let h : (let a : Answer = Ok Done in a ≡ Err failure.Output) = e in cc), all.steady room revealed enough);
      }

-- ---- the frame that is not stored

-- a run that is not refused, and in which no read failed
early_none : {T : Type 0} (reveals : Type 0) (files : Files) (left rest : Option (List ℕ)) (objects : List NewObject) (answer : Result T Failure) → ((why : Refusal) → answer ≡ Err (failure.Refused why) → ⊥) → (answer ≡ Err failure.Input → ⊥)
    → EndsEarly reveals files left rest objects answer
early_none reveals files left rest objects answer fine whole = record { refused = λ revealed input is why e. absurd (fine why e); unread = λ input is e. absurd (whole e); closed = λ why opening e. absurd (fine why e) }

early_failed : {T : Type 0} (reveals : Type 0) (files : Files) (left rest : Option (List ℕ)) (objects : List NewObject) (f : Failure) → ((why : Refusal) → f ≡ failure.Refused why → ⊥) → (f ≡ failure.Input → ⊥) → EndsEarly {T = T} reveals files left rest objects (Err f)
early_failed {T} reveals files left rest objects f fine whole =
    early_none reveals files left rest objects (Err f) (λ why e. fine why (same_failure {T = T} f (failure.Refused why) e)) (λ e. whole (same_failure {T = T} f failure.Input e))

-- ---- the ends

module _ (reading : HasOneReading) (lengths : CellsHaveLengths) (parts : CellsHaveParts) (values : LastsAreValues) (record_more : ObjectsRecordMore) (counts : DigestsAreCounted)
    (reveals same : Type 0) (v w : Opened) (some : HasSomeRecords v) (left rest : Option (List ℕ)) (old now : State) (before after : SinkState) (objects : List NewObject)
    (gone : HasGone reveals same v w left rest old now before after objects) (still : same → now ≡ old) (is_this : reveals → IsThisOne v (old.files 0)) where
  framed_none : Consumes left rest (frames_of (objects ++ []))
  framed_none = subst (λ (xs : List NewObject). Consumes left rest (frames_of xs)) (sym (append-nil objects)) gone.framed

  -- after the objects that are there, with none whose line was begun
  surely_none : (next : State) (list : List Record) (ys : List NewObject) → GrowsSurely v.shape list (objects ++ ys) (length objects) old next → GrowsSurely v.shape list ((objects ++ []) ++ ys) (length (objects ++ [])) old next
  surely_none next list ys has = subst (λ (xs : List NewObject). GrowsSurely v.shape list (xs ++ ys) (length xs) old next) (sym (append-nil objects)) has

  -- a frame was not taken, for another reason than the disk
  pub refused_opened : (fault : IngestFault) (next : State) (rest2 : Option (List ℕ)) (bad : Type 0) → SurvivorsStayHonest → OnlyWrites reveals (IsReady now) (HasFrameRoom w rest now) bad (changes w) now next → (reveals → LeavesLedger now next) → (reveals → KeepsPadded w.shape (IsBlockIn w.shape w.lattice.n) now.files next.files)
      → EndsEarly {T = Status} reveals old.files left rest2 objects (Err (ingest_failure fault))
      → IngestsOpened reveals v old next left rest2 before after (Err (ingest_failure fault))
  refused_opened fault next rest2 bad survivors writes leaves keeps early = record {
    done = tt;
    printed = objects;
    more = [];
    stores = record {
      framed = (rest, framed_none);
      most = inl refl;
      whole = λ ok. absurd (false≢true ok);
      stands = λ stored. absurd (never_stored (ingest_failure fault) (ingest_not_output fault) stored);
      stops = λ revealed list its. (
        [],
        inl refl,
        surely_none next list []
            (surely reveals same v w some left rest old now before after objects gone still is_this reading lengths parts values record_more counts next bad writes revealed list its []
            (grows_no_more reveals revealed w (list ++ gone.added) now next (gone.its revealed list its) (gone.synced revealed) (IsReady now) (HasFrameRoom w rest now) bad writes reading (leaves revealed))),
      );
      stays = λ differs revealed list its.
          stays_more reveals same v w some left rest old now before after objects gone still is_this reading lengths parts values record_more counts next bad writes revealed list its
          (stays_none reading counts survivors reveals revealed w (list ++ gone.added) now next (gone.its revealed list its) (gone.synced revealed) (IsReady now) (HasFrameRoom w rest now) bad writes (leaves revealed) (keeps revealed));
      padded = λ differs. padded_more reveals same v w some left rest old now before after objects gone still is_this next keeps;
    };
    early = early;
    prints = prints_quiet v.shape objects before after gone.printed (ingest_failure fault) (ingest_not_output fault);
    lines_in_room = λ revealed input is fits e. ingest_not_output fault (same_failure {T = Status} (ingest_failure fault) failure.Output e);
  }

  -- the disk failed
  pub failed_opened : (next : State) (rest2 : Option (List ℕ)) (bad : Type 0) → OnlyWrites reveals (IsReady now) (HasFrameRoom w rest now) bad (changes w) now next → (reveals → MayHaveStored w (IsFramed rest rest2) now next)
      → IngestsOpened reveals v old next left rest2 before after (Err failure.Disk)
  failed_opened next rest2 bad writes may = record {
    done = tt;
    printed = objects;
    more = [];
    stores = record {
      framed = (rest, framed_none);
      most = inl refl;
      whole = λ ok. absurd (false≢true ok);
      stands = λ stored. absurd (never_stored failure.Disk (λ e. cc) stored);
      stops = λ revealed list its. (
        (may revealed).objects,
        ⊎_elim (λ none. inl none)
            (λ one. inr (refl, (one.0, one.2, (rest2, subst (Consumes left rest2) (frames_more objects one.0) (Consumes-trans left rest rest2 (frames_of objects) (frame_of one.0) gone.framed one.1)))))
            (may revealed).most,
        surely_none next list (may revealed).objects
            (surely reveals same v w some left rest old now before after objects gone still is_this reading lengths parts values record_more counts next bad writes revealed list its (may revealed).objects
            (grows_maybe reveals revealed w (list ++ gone.added) now next (gone.its revealed list its) (gone.synced revealed) (IsReady now) (HasFrameRoom w rest now) bad writes (IsFramed rest rest2) (may revealed))),
      );
      stays = λ differs. absurd (differs refl);
      padded = λ differs. absurd (differs refl);
    };
    early = early_failed reveals old.files left rest2 objects failure.Disk (λ why e. let h : failure.Disk ≡ failure.Refused why = e in cc) (λ e. cc);
    prints = prints_quiet v.shape objects before after gone.printed failure.Disk (λ e. cc);
    lines_in_room = λ revealed input is fits e. let h : (let a : Answer = Err failure.Disk in a ≡ Err failure.Output) = e in cc;
  }

  -- the output failed in the line of an object that was stored
  pub unprinted_opened : (w2 : Opened) (o : NewObject) (next : State) (stored : Stored) (has : HasStored reveals w w2 o now next stored) (bad : Type 0) (rest2 : Option (List ℕ)) (last : SinkState) (fault : WriteFault)
      → OnlyWrites reveals (IsReady now) (HasFrameRoom w rest now) bad (changes w) now next → IsFramed rest rest2 o → (reveals → KeepsPadded w.shape (IsBlockIn w.shape w.lattice.n) now.files next.files)
      → Prints {T = Unit {0}} {E = WriteFault} after [] last [] (Err fault) (stored_line v.shape o)
      → IngestsOpened reveals v old next left rest2 before last (Err failure.Output)
  unprinted_opened w2 o next stored_here has bad rest2 last fault writes framed keeps line =
      let grew = grew_more reveals same v w some left rest old now before after objects gone still is_this reading lengths parts values record_more counts w2 o next stored_here has bad writes in
      let whole : Consumes left rest2 (frames_of (objects ++ o ∷ [])) = subst (Consumes left rest2) (frames_more objects o) (Consumes-trans left rest rest2 (frames_of objects) (frame_of o) gone.framed framed) in
      let cut = prints_cut v.shape objects before after gone.printed last o fault line in
      record {
        done = tt;
        printed = objects;
        more = o ∷ [];
        stores = record {
          framed = (rest2, whole);
          most = inr (refl, (o, refl));
          whole = λ ok. absurd (false≢true ok);
          stands = λ stored revealed list its. (grew revealed list its).0;
          stays = λ differs revealed list its. (grew revealed list its).0.stays;
          stops = λ revealed list its.
              let all = grew revealed list its in
              let many : length all.0.stays.grows.by.added ≡ length (objects ++ o ∷ []) =
              (let n = are_many v.shape objects gone.added gone.are in omega (arith, ap length all.1, length-append gone.added (Object has.r ∷ []), length-append objects (o ∷ []), n)) in (
                [],
                inl refl,
                subst (λ (xs : List NewObject). GrowsSurely v.shape list xs (length (objects ++ o ∷ [])) old next) (sym (append-nil (objects ++ o ∷ [])))
                    (surely_all v.shape list (objects ++ o ∷ []) old next all.0.stays many),
              );
          padded = λ differs. padded_more reveals same v w some left rest old now before after objects gone still is_this next keeps;
        };
        early = early_failed reveals old.files left rest2 objects failure.Output (λ why e. let h : failure.Output ≡ failure.Refused why = e in cc) (λ e. cc);
        prints = cut;
        lines_in_room = λ revealed input is fits e.
            let one = is_this revealed in
            let room = fits_lines reading lengths parts counts v old next one (objects ++ o ∷ []) (grew revealed one.records (record { has = one.has; ledger = one.ledger })).0.stays left rest2 input before is whole fits in
            (cut.in_room room.0 room.1 (let all = ap length (lines_more v.shape objects o) in omega (arith, all, room.2))).0 e;
      }

  -- all that was stored is there
  stands_now : (revealed : reveals) (list : List Record) → AreItsRecords v list (old.files 0) → HasGrown v.shape list objects old now
  stands_now revealed list its = ⊎_elim
      (λ none.
      let start : IsSynced old = subst IsSynced (still none.2) (gone.synced revealed) in
      subst (λ (xs : List NewObject). HasGrown v.shape list xs old now) (sym none.0)
      (subst (λ (s : State). HasGrown v.shape list [] old s) (sym (still none.2)) (grown_none reveals revealed v list old reading its start)))
      (λ some_more. some_more.1.0)
      (gone.grew revealed list its)

  stops_now : (revealed : reveals) (list : List Record) → AreItsRecords v list (old.files 0) → GrowsSurely v.shape list objects (length objects) old now
  stops_now revealed list its = ⊎_elim
      (λ none.
      let start : IsSynced old = subst IsSynced (still none.2) (gone.synced revealed) in
      let writes = writes_none reveals (IsReady old) ⊥ (changes v) old (λ c. changes_none v.shape (limit_when v.raised) (IsBlockIn v.shape v.lattice.n) (IsBesides v.shape) c) in
      let leaves : LeavesLedger old old = record { images = during_none old (λ c. c 0 ≡ old.files 0) (λ c here. start c here 0); reads = refl } in
      let grows = grows_no_more reveals revealed v list old old its start (IsReady old) ⊥ ⊥ writes reading leaves in
      subst (λ (xs : List NewObject). GrowsSurely v.shape list xs (length xs) old now) (sym none.0)
      (subst (λ (s : State). GrowsSurely v.shape list [] 0 old s) (sym (still none.2))
      (record { grows = grows; first = λ c here. grows.by.adds.prefix old.moment c (omega arith) (omega arith) here; reads = grows.by.adds.reads })))
      (λ some_more. surely_all v.shape list objects old now some_more.1.0.stays (ap length some_more.1.1 ∙ are_many v.shape objects gone.added gone.are))
      (gone.grew revealed list its)

  -- the stream was at its end: all was done, but for the last line
  stores_all : {T : Type 0} (rest2 : Option (List ℕ)) (answer : Result T Failure) → (IsOk answer → Consumes rest rest2 [] × IsAtEnd rest2) → StoresOpened reveals v old now left rest2 objects [] answer
  stores_all rest2 answer end = record {
    framed = (rest, framed_none);
    most = inl refl;
    whole = λ ok. (subst (Consumes left rest2) (append-nil (frames_of objects)) (Consumes-trans left rest rest2 (frames_of objects) [] gone.framed (end ok).0), (end ok).1);
    stands = λ stored revealed list its. subst (λ (xs : List NewObject). HasGrown v.shape list xs old now) (sym (append-nil objects)) (stands_now revealed list its);
    stays = λ differs revealed list its. subst (λ (xs : List NewObject). StaysGrown v.shape list xs old now) (sym (append-nil objects)) (stands_now revealed list its).stays;
    stops = λ revealed list its. (
      [],
      inl refl,
      subst (λ (xs : List NewObject). GrowsSurely v.shape list xs (length (objects ++ [])) old now) (sym (append-nil (objects ++ [])))
          (subst (λ (xs : List NewObject). GrowsSurely v.shape list xs (length xs) old now) (sym (append-nil objects)) (stops_now revealed list its)),
    );
    padded = λ differs. gone.padded;
  }

  pub ended_opened : (rest2 : Option (List ℕ)) (last : SinkState) → IsAtEnd rest2 → Consumes rest rest2 [] → Prints {T = Unit {0}} {E = WriteFault} after [] last [] (Ok tt) (end_line (length objects))
      → IngestsOpened reveals v old now left rest2 before last (Ok Done)
  ended_opened rest2 last end none line = record {
    done = refl;
    printed = objects;
    more = [];
    stores = stores_all rest2 (Ok Done) (λ ok. (none, end));
    early = early_none reveals old.files left rest2 objects (Ok Done) (λ why e. let h : (let one : Answer = Ok Done in one ≡ Err (failure.Refused why)) = e in cc) (λ e. let h : (let one : Answer = Ok Done in one ≡ Err failure.Input) = e in cc);
    prints = prints_end v.shape objects before after gone.printed last line;
    lines_in_room = λ revealed input is fits e. let h : (let a : Answer = Ok Done in a ≡ Err failure.Output) = e in cc;
  }

  pub unended_opened : IsAtEnd rest → (rest2 : Option (List ℕ)) (last : SinkState) (fault : WriteFault) → Prints {T = Unit {0}} {E = WriteFault} after [] last [] (Err fault) (end_line (length objects))
      → IngestsOpened reveals v old now left rest2 before last (Err failure.Output)
  unended_opened end rest2 last fault line = record {
    done = tt;
    printed = objects;
    more = [];
    stores = stores_all rest2 (Err failure.Output) (λ ok. absurd (false≢true ok));
    early = early_failed reveals old.files left rest2 objects failure.Output (λ why e. let h : failure.Output ≡ failure.Refused why = e in cc) (λ e. cc);
    prints = prints_cut_end v.shape objects before after gone.printed last fault line;
    lines_in_room = λ revealed input is fits e.
        let one = is_this revealed in
        let room = fits_end reading lengths parts counts v old now one objects (stands_now revealed one.records (record { has = one.has; ledger = one.ledger })).stays left rest input before is gone.framed end fits in
        ((prints_cut_end v.shape objects before after gone.printed last fault line).in_room room.0 room.1 room.2).0 e;
  }
