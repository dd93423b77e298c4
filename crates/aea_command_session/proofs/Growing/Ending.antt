-- What a run leaves of the archive, by how it ends.
use Rattle.std.proofs.Common.{◌≡◌, inl, inr, ⊎_elim, ℕ, List, [], ◌∷◌, ◌++◌, length, take, Result, Ok, Err, refl, sym, ◌∙◌, ap, subst, arith, append_assoc, length-append}
use Rattle.std.proofs.lemmas.List.{append-nil, take_all, take_at}
use Rattle.aea_io.specs.Streams.{SinkState}
use Rattle.aea_lattice.specs.declared.grid.Lattice.{Lattice}
use Rattle.aea_lattice.specs.declared.shape.Shape.{Shape}
use Rattle.aea_envelope.specs.Facts.{CellsHaveLengths}
use Rattle.aea_disk.specs.Files.{Files}
use Rattle.aea_disk.specs.Frames.{OnlyWrites}
use Rattle.aea_disk.specs.State.{State, EveryImage, HasEarlier, IsSynced, IsReady}
use Rattle.aea_disk.proofs.Moments.{during_more}
use Rattle.aea_records.specs.Format.{Record, nodes_of, fences_of, limit_of, raised_limit}
use Rattle.aea_records.specs.Grammar.{AreRecords}
use Rattle.aea_records.specs.Laws.{HasOneReading}
use Rattle.aea_ledger.specs.Recorded.{IsLatticeOf, AreRecordsOf}
use Rattle.aea_ledger.specs.Stops.{HasLedger}
use Rattle.aea_archive.specs.Blocks.{IsBlockIn}
use Rattle.aea_archive.specs.Cells.{IsBesides, ChangesArchive}
use Rattle.aea_archive.specs.Stretches.{HasAtLeast}
use Rattle.aea_archive.proofs.Stretches.{has_ledger, adds_nothing, at_all}
use Rattle.aea_messages.specs.declared.message.Message.{Message}
use Rattle.aea_messages.specs.Messages.{spelled}
use Rattle.aea_machine.specs.Closings.{Closing, closing_in, closings_of, ClosedRecordsJoin}
use Rattle.aea_machine.specs.Machine.{Machine, step, after}
use Rattle.aea_append.specs.Puts.{LeavesLedger}
use Rattle.aea_session.specs.declared.fault.TakeFault.{TakeFault}
use Rattle.aea_session.specs.declared.fault.TakeFault.TheVariants.{Damaged, DiskFault, WriteFault, NoMemory}
use Rattle.aea_session.specs.declared.serving.Stop.{Stop}
use Rattle.aea_session.specs.declared.serving.Stop.TheVariants as stop
use Rattle.aea_session.specs.declared.work.Work.{Work}
use Rattle.aea_session.specs.Closes.{AddsCloses}
use Rattle.aea_session.specs.Serving.{EndsThere}
use Rattle.aea_session.specs.Takes.{HasTakeRoom, Takes}
use Rattle.aea_command_store.specs.Growing.{LeavesArchive}
use Rattle.aea_command_session.specs.Closes.{GrowsByCloses, SurelyGrows, IsMade, MayBeMade}
use Rattle.aea_command_session.proofs.Growing.Joining.{closed_many}
use Rattle.aea_command_session.proofs.Growing.Going.{Changes, blocks_of, IsOf, Added, HasGone, joins, first_there}
use Rattle.aea_command_session.proofs.Growing.Serving.{done_all}

-- ---- the archive grew by closes

module _ (reveals : Type 0) (revealed : reveals) (fault : Type 0) (shape : Shape) (first : Lattice) (records : List Record) (datas : List (List ℕ)) (closings : List Closing) (old new : State)
    (synced : IsSynced old) (raised : limit_of records ≡ raised_limit) (is_first : IsLatticeOf shape (nodes_of records) (fences_of records) first)
    (so : Added reveals fault shape first records datas closings old new) where
  -- an image of the beginning is the files as they read
  image_is : (d : Files) → old.image old.moment d → d ≡ old.files
  image_is d here = λ i f. synced d here f i

  leaves_is : (c d : Files) → Changes shape first.n c d → LeavesArchive shape records c d
  leaves_is c d step =
      subst (λ (n : ℕ). ChangesArchive shape n (IsBlockIn shape (nodes_of records)) (IsBesides shape) c d) (sym raised)
      (subst (λ (n : ℕ). ChangesArchive shape raised_limit (IsBlockIn shape n) (IsBesides shape) c d) is_first.n step)

  grows : GrowsByCloses shape records datas closings old new
  grows = record {
    by = record {
      lattice = first;
      is_lattice = is_first;
      longer = so.longer;
      payload = so.payload;
      added = so.added;
      next = so.are;
      adds = so.adds;
      leaves = λ t c from to here.
          let was = so.writes.crash t c from to here in
          leaves_is old.files c (subst (λ (d : Files). Changes shape first.n d c) (image_is was.0 was.1) was.2);
      reads = leaves_is old.files new.files (so.writes.contents revealed);
      long = so.long;
    };
    wide = so.wide;
    more = λ valid recorded honest. so.more (recorded, honest) valid;
  }

  -- the first of the new records record the list with the blocks of as many closes
  abbrev pub FirstRecord : ℕ → Type 0
  FirstRecord k = IsOf shape first records datas old → AreRecordsOf shape (records ++ take k so.added) (datas ++ blocks_of (take k closings))

  pub surely : (k : ℕ) → EveryImage new (λ c. HasAtLeast shape records so.added k (c 0)) → HasAtLeast shape records so.added k (new.files 0) → FirstRecord k → SurelyGrows shape records datas closings k old new
  unfolding grows
  surely k images reads some = record { grows = grows; first = images; reads = reads; recorded = λ recorded honest. some (recorded, honest) }

-- the first of records and closes, as they are
first_are : (shape : Shape) (records xs added : List Record) (datas : List (List ℕ)) (closings cs : List Closing) (k : ℕ) → take k xs ≡ added → take k cs ≡ closings
    → AreRecordsOf shape (records ++ added) (datas ++ blocks_of closings) → AreRecordsOf shape (records ++ take k xs) (datas ++ blocks_of (take k cs))
first_are shape records xs added datas closings cs k first second is =
    subst (λ (rs : List Record). AreRecordsOf shape (records ++ rs) (datas ++ blocks_of (take k cs))) (sym first)
    (subst (λ (l : List Closing). AreRecordsOf shape (records ++ added) (datas ++ blocks_of l)) (sym second) is)

-- ---- by how the run ends

-- the closes of messages, and of others after them
pub closings_both : (shape : Shape) (m : Machine) (xs ys : List Message) → closings_of shape m (xs ++ ys) ≡ closings_of shape m xs ++ closings_of shape (after shape m xs) ys
closings_both shape m [] ys = refl
closings_both shape m (x ∷ xs) ys =
    let n : Machine = (step shape m x).state in
    ap (λ (l : List Closing). closing_in shape m x ++ l) (closings_both shape n xs ys)
    ∙ sym (append_assoc (closing_in shape m x) (closings_of shape n xs) (closings_of shape (after shape n xs) ys))

-- where the ledger stays, none was added
adds_quiet : HasOneReading → (v : Work) (m : Machine) (now next : State) → HasEarlier now next → LeavesLedger now next → AddsCloses v m [] [] now next
adds_quiet reading v m now next earlier leaves = record {
  payload = λ b. [];
  longer = v.ledger.lattice;
  are = refl;
  wide = λ b on. absurd (let a = on.after in let m = on.most in omega (arith, a, m));
  adds = λ records its.
      let ledger = has_ledger v.ledger records (now.files 0) its in
      adds_nothing reading v.ledger.shape records [] (λ b. []) now next earlier
      (during_more now next (λ c. c 0 ≡ now.files 0) (λ c. HasLedger v.ledger.shape records (c 0)) (λ c same. subst (HasLedger v.ledger.shape records) (sym same) ledger) leaves.images)
      (subst (HasLedger v.ledger.shape records) (sym leaves.reads) ledger);
  more = λ records has recorded woven valid.
      subst (λ (ds : List (List ℕ)). AreRecordsOf v.ledger.shape (records ++ []) ds) (sym (append-nil m.datas))
      (subst (λ (rs : List Record). AreRecordsOf v.ledger.shape rs m.datas) (sym (append-nil records)) recorded);
  long = (let same = ap length leaves.reads in omega (arith, same));
}

module _ (reading : HasOneReading) (lengths : CellsHaveLengths) (join : ClosedRecordsJoin)
    (reveals : Type 0) (revealed : reveals) (first : Lattice) (records : List Record) (datas : List (List ℕ)) (old : State) (synced : IsSynced old) (raised : limit_of records ≡ raised_limit) where
  -- after these closes, those of the messages that were made, and of those that may have been
  abbrev pub Ends : Shape → Machine → List Closing → List ℕ → Result (Unit {0}) Stop → State → Type 0
  Ends shape m closings tail result new =
      (made : List Message) × (more : List Message) × IsMade result tail made × MayBeMade result tail more
      × SurelyGrows shape records datas (closings ++ closings_of shape m more) (length (closings ++ closings_of shape m made)) old new

  -- nothing came after the messages
  ends_here : (shape : Shape) (m : Machine) (closings : List Closing) (v : Work) (now : State) → HasGone reveals shape first records datas closings m v old now
      → SurelyGrows shape records datas (closings ++ []) (length (closings ++ [])) old now
  ends_here shape m closings v now gone =
      let many = closed_many shape first gone.so.longer gone.so.payload closings gone.so.added gone.so.are in
      let there : HasLedger shape (records ++ gone.so.added) (now.files 0) = subst (λ (s : Shape). HasLedger s (records ++ gone.so.added) (now.files 0)) gone.same (has_ledger v.ledger (records ++ gone.so.added) (now.files 0) gone.its) in
      subst (λ (cs : List Closing). SurelyGrows shape records datas cs (length cs) old now) (sym (append-nil closings))
      (surely reveals revealed ⊥ shape first records datas closings old now synced raised gone.is_first gone.so (length closings)
      (λ c here. at_all shape records gone.so.added (length closings) (c 0) (omega (arith, many)) (subst (HasLedger shape (records ++ gone.so.added)) (sym (gone.fixed c here)) there))
      (at_all shape records gone.so.added (length closings) (now.files 0) (omega (arith, many)) there)
      (λ is.
      first_are shape records gone.so.added gone.so.added datas closings closings (length closings) (take_all (length closings) gone.so.added (omega (arith, many))) (take_all (length closings) closings (omega arith))
      (gone.so.more is there.valid)))

  module _ (m : Machine) (closings : List Closing) (v : Work) (now : State) (gone : HasGone reveals v.ledger.shape first records datas closings m v old now)
      (x : Work) (message : Message) (next : State) (before then : SinkState) where
    many : length gone.so.added ≡ length closings
    many = closed_many v.ledger.shape first gone.so.longer gone.so.payload closings gone.so.added gone.so.are

    module _ (later : List Closing) (added : List Record) (closes : AddsCloses v m later added now next) (fault : Type 0)
        (writes : OnlyWrites reveals (IsReady now) (HasTakeRoom v message now) fault (Changes v.ledger.shape v.heads.lattice.n) now next) where
      abbrev so_all : Added reveals fault v.ledger.shape first records datas (closings ++ later) old next
      so_all = joins reveals first records datas closings m v old now gone reading lengths join later added next closes (IsReady now) (HasTakeRoom v message now) fault writes

      -- those before are there
      some_there : SurelyGrows v.ledger.shape records datas (closings ++ later) (length closings) old next
      unfolding joins
      some_there =
          let at : (bytes : List ℕ) → HasAtLeast v.ledger.shape (records ++ gone.so.added) added 0 bytes → HasAtLeast v.ledger.shape records (gone.so.added ++ added) (length closings) bytes =
          λ bytes has. subst (λ (k : ℕ). HasAtLeast v.ledger.shape records (gone.so.added ++ added) k bytes) many
          (first_there reveals first records datas closings m v old now gone reading lengths join later added next closes (IsReady now) (HasTakeRoom v message now) fault writes bytes has) in
          let adds = closes.adds (records ++ gone.so.added) gone.its in
          surely reveals revealed fault v.ledger.shape first records datas (closings ++ later) old next synced raised gone.is_first so_all (length closings)
          (λ c here. at (c 0) (adds.prefix next.moment c writes.time.later (omega arith) here))
          (at (next.files 0) adds.reads)
          (λ is.
          first_are v.ledger.shape records (gone.so.added ++ added) gone.so.added datas closings (closings ++ later) (length closings) (take_at gone.so.added added (length closings) many) (take_at closings later (length closings) refl)
          (gone.so.more is gone.its.has.valid))

      -- and so are the others
      all_there : HasLedger v.ledger.shape ((records ++ gone.so.added) ++ added) (next.files 0) → EveryImage next (λ c. HasLedger v.ledger.shape ((records ++ gone.so.added) ++ added) (c 0))
          → SurelyGrows v.ledger.shape records datas (closings ++ later) (length (closings ++ later)) old next
      unfolding joins
      all_there ledger images =
          let nest : (records ++ gone.so.added) ++ added ≡ records ++ (gone.so.added ++ added) = append_assoc records gone.so.added added in
          let others = closed_many v.ledger.shape v.ledger.lattice closes.longer closes.payload later added closes.are in
          let at : (bytes : List ℕ) → HasLedger v.ledger.shape ((records ++ gone.so.added) ++ added) bytes → HasAtLeast v.ledger.shape records (gone.so.added ++ added) (length (closings ++ later)) bytes =
          λ bytes has. at_all v.ledger.shape records (gone.so.added ++ added) (length (closings ++ later)) bytes
          (omega (arith, many, others, length-append closings later, length-append gone.so.added added)) (subst (λ (rs : List Record). HasLedger v.ledger.shape rs bytes) nest has) in
          surely reveals revealed fault v.ledger.shape first records datas (closings ++ later) old next synced raised gone.is_first so_all (length (closings ++ later))
          (λ c here. at (c 0) (images c here))
          (at (next.files 0) ledger)
          (λ is.
          first_are v.ledger.shape records (gone.so.added ++ added) (gone.so.added ++ added) datas (closings ++ later) (closings ++ later) (length (closings ++ later))
          (take_all (length (closings ++ later)) (gone.so.added ++ added) (omega (arith, many, others, length-append closings later, length-append gone.so.added added)))
          (take_all (length (closings ++ later)) (closings ++ later) (omega arith))
          (so_all.more is (subst (AreRecords v.ledger.shape) nest ledger.valid)))

    -- the closes as those of a list of messages
    none_made : (later : List Closing) → SurelyGrows v.ledger.shape records datas (closings ++ later) (length closings) old next → SurelyGrows v.ledger.shape records datas (closings ++ later) (length (closings ++ [])) old next
    none_made later has = subst (λ (cs : List Closing). SurelyGrows v.ledger.shape records datas (closings ++ later) (length cs) old next) (sym (append-nil closings)) has

    alone : closing_in v.ledger.shape m message ≡ closings_of v.ledger.shape m (message ∷ [])
    alone = sym (append-nil (closing_in v.ledger.shape m message))

    -- a message was not taken
    pub ends_taken : (fault : TakeFault) (tail : List ℕ) → tail ≡ spelled message → Takes reveals v x message now next before then (Err fault) → Ends v.ledger.shape m closings tail (Err (stop.Taken fault)) next
    ends_taken (Damaged b) tail is takes = absurd ((takes.damaged b refl).1 revealed)
    ends_taken DiskFault tail is takes = ⊎_elim
        (λ none. ([], [], refl, inl refl, none_made [] (some_there [] [] none _ takes.leaves.writes)))
        (λ one. (
          [],
          message ∷ [],
          refl,
          inr (message, is, refl),
          subst (λ (cs : List Closing). SurelyGrows v.ledger.shape records datas (closings ++ cs) (length (closings ++ [])) old next) alone
              (none_made (closing_in v.ledger.shape m message) (some_there (closing_in v.ledger.shape m message) (one.0 ∷ []) one.1 _ takes.leaves.writes)),
        ))
        (takes.leaves.ledger revealed m gone.keeps)
    ends_taken WriteFault tail is takes =
        let done = done_all v x m (records ++ gone.so.added) now next gone.its takes.leaves.writes.time.later message (takes.leaves.ledger revealed m gone.keeps) (λ c one. takes.leaves.closed (inr refl) revealed m c gone.keeps one) in (
          message ∷ [],
          message ∷ [],
          (message, is, refl),
          (message, is, refl),
          subst (λ (cs : List Closing). SurelyGrows v.ledger.shape records datas (closings ++ cs) (length (closings ++ cs)) old next) alone
              (all_there (closing_in v.ledger.shape m message) done.added done.closes _ takes.leaves.writes done.ledger done.images),
        )
    ends_taken NoMemory tail is takes =
        let ledger = takes.leaves.quiet refl revealed in
        ([], [], refl, refl, none_made [] (some_there [] [] (adds_quiet reading v m now next takes.leaves.writes.earlier ledger) _ takes.leaves.writes))

  -- a step that was not taken, by the shape at the beginning
  ends_step : (shape : Shape) (m : Machine) (closings : List Closing) (v x : Work) (now next : State) (message : Message) (before then : SinkState) (fault : TakeFault) (tail : List ℕ) → tail ≡ spelled message
      → Takes reveals v x message now next before then (Err fault) → v.ledger.shape ≡ shape → HasGone reveals shape first records datas closings m v old now → Ends shape m closings tail (Err (stop.Taken fault)) next
  ends_step shape m closings v x now next message before then fault tail is takes same =
      subst (λ (s : Shape). HasGone reveals s first records datas closings m v old now → Ends s m closings tail (Err (stop.Taken fault)) next) same
      (λ gone. ends_taken m closings v now gone x message next before then fault tail is takes)

  module _ {D : Type 0} (state : D → State) (shape : Shape) (m : Machine) (closings : List Closing) (v x : Work) (d e : D) (gone : HasGone reveals shape first records datas closings m v old (state d)) (tail : List ℕ) (before then : SinkState) where
    -- nothing came after, and none was made
    still_here : e ≡ d → SurelyGrows shape records datas (closings ++ []) (length (closings ++ [])) old (state e)
    still_here same = subst (λ (y : D). SurelyGrows shape records datas (closings ++ []) (length (closings ++ [])) old (state y)) (sym same) (ends_here shape m closings v (state d) gone)

    -- however the run ended
    pub ends_any : (result : Result (Unit {0}) Stop) → EndsThere reveals state v x d e tail before then result → Ends shape m closings tail result (state e)
    ends_any (Ok u) last = ([], [], refl, refl, still_here last.1)
    ends_any (Err (stop.BadMessage at)) last = ([], [], refl, refl, still_here last.1)
    ends_any (Err (stop.BadStream at)) last = ([], [], refl, refl, still_here last.1)
    ends_any (Err stop.TooManyMessages) last = ([], [], refl, refl, still_here last.1)
    ends_any (Err stop.Input) last = ([], [], refl, refl, still_here last.1)
    ends_any (Err stop.Memory) last = ([], [], refl, refl, still_here last.1)
    ends_any (Err (stop.Taken fault)) last = ends_step shape m closings v x (state d) (state e) last.0 before then fault tail last.2 last.3 gone.same gone
