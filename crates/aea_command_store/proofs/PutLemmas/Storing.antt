-- What becomes of the archive in a run that puts, by what its calls gave.
use Rattle.std.proofs.Common.{◌≡◌, ◌≢◌, ◌⊎◌, inl, inr, ℕ, ◌+◌, ◌-◌, ◌*◌, ◌≤◌, List, [], ◌∷◌, length, refl, sym, ◌∙◌, ap, subst, arith, Option, Result, Ok, Err, IfOk, IsErr}
use Rattle.aea_command.specs.Openings.{greatest_sites, opened_at, OpensThen, OpensOr, IsUntouched}
use Rattle.aea_command_store.specs.Put.{stored_text, FitsPut, IsEarly, EndsStored, MayHavePut, IsOutOfMemory, Stores, IsStoredLine, KeepsOtherFiles}
use Rattle.aea_command.specs.declared.refusal.Refusal.TheVariants.{BadName, NameTaken, CatalogFull, HeadDamaged, Full}
use Rattle.aea_command.specs.declared.refusal.Failure.{Failure}
use Rattle.aea_command.specs.declared.refusal.Failure.TheVariants as failure
use Rattle.aea_disk.specs.Files.{Files, KeepsFiles}
use Rattle.aea_command_store.specs.Growing.{Grows, StaysGrown, HasGrown}
use Rattle.aea_ledger.specs.Stops.{HasLedger, IsOpened}
use Rattle.aea_records.specs.Laws.{HasOneReading, DigestsAreCounted, ObjectsAreCounted, NewNamesAreFree}
use Rattle.aea_archive.specs.Laws.{SurvivorsStayHonest}
use Rattle.aea_append.specs.Puts.{IsWhole, HasPut, HasStored}
use Rattle.aea_append.specs.Causes.{HasPutRoom, next_end}
use Rattle.aea_append.specs.Causes as causes
use Rattle.aea_command_store.proofs.PutLemmas.Refusing.{reason_of}
use Rattle.aea_command_store.proofs.PutLemmas.Causing.{HasPutting, answer_of}
use Rattle.aea_command_store.proofs.PutLemmas.Opening.{changes, ledger_left, changed}
use Rattle.aea_command.proofs.Opened.{opens_then, opening_synced, opening_then, untouched_by}
use Rattle.aea_command_store.proofs.Adding.{its_records}
use Rattle.aea_command_store.proofs.FromOpening.{grows_at, stays_at, grown_at}
use Rattle.aea_command_store.proofs.IngestLemmas.One.{grows_maybe, grown_by_one}
use Rattle.aea_command_store.proofs.Staying.{stays_none}
use Rattle.aea_append.specs.declared.fault.PutFault.TheVariants as put
use Rattle.aea_archive.specs.Cells.{IsBesides}
use Rattle.aea_archive.proofs.Cells.{changes_none, rows_later}
use Rattle.aea_ledger.proofs.Readying.{adding_later}
use Rattle.aea_command.proofs.OpeningCases.{opened_never}
use Rattle.aea_archive.specs.Blocks.{IsBlockIn}
use Rattle.std.specs.Prelude.{IsOk}
use Rattle.aea_shelf.specs.Writes.{KeepsPadded}
use Rattle.aea_archive.specs.Next.{NewObject}
use Rattle.aea_disk.specs.Frames.{OnlyReads, OnlyWrites}
use Rattle.aea_ledger.specs.Values.{Opened}
use Rattle.aea_disk.specs.State.{State, Passes, IsReady}
use Rattle.aea_append.specs.declared.fault.PutFault.{PutFault}
use Rattle.aea_records.specs.Format.{Record, limit_of, limit_when, nodes_for, nodes_of}
use Rattle.aea_command.specs.declared.refusal.Refusal.{Refusal}
use Rattle.aea_lattice.specs.declared.shape.Shape.{Shape}
use Rattle.aea_append.specs.declared.store.Stored.{Stored}
use Rattle.aea_io.specs.Taken.{TakesAtMost}
use Rattle.std.proofs.lemmas.Bool.{cases_lt, false≢true}
use Rattle.aea_command.proofs.Reading.{has_ledger_of, by_reading}
use Rattle.std.proofs.lemmas.Bool.Decides.{nat_tests}
use Rattle.aea_command.specs.Failures.{put_failure}
use Rattle.aea_disk.proofs.Frames.{ready_later, reads_none, reads_then_writes, writes_where, roomy_later}
use Rattle.sha2.specs.Sha256.{sha256}

same_fault : {T : Type 0} (f g : Failure) → (let one : Result T Failure = Err f in one ≡ Err g) → f ≡ g
same_fault f g e = cc

-- a put fails neither by the output nor by words
pub put_not_output : (fault : PutFault) → put_failure fault ≡ failure.Output → ⊥
put_not_output put.BadName e = let h : failure.Refused BadName ≡ failure.Output = e in cc
put_not_output put.NameTaken e = let h : failure.Refused NameTaken ≡ failure.Output = e in cc
put_not_output put.CatalogFull e = let h : failure.Refused CatalogFull ≡ failure.Output = e in cc
put_not_output (put.HeadDamaged b) e = let h : failure.Refused (HeadDamaged b) ≡ failure.Output = e in cc
put_not_output (put.Full n) e = let h : failure.Refused (Full n) ≡ failure.Output = e in cc
put_not_output put.ReadFault e = cc
put_not_output put.DiskFault e = cc
put_not_output put.NoMemory e = cc

pub put_not_words : (fault : PutFault) → put_failure fault ≡ failure.Words → ⊥
put_not_words put.BadName e = let h : failure.Refused BadName ≡ failure.Words = e in cc
put_not_words put.NameTaken e = let h : failure.Refused NameTaken ≡ failure.Words = e in cc
put_not_words put.CatalogFull e = let h : failure.Refused CatalogFull ≡ failure.Words = e in cc
put_not_words (put.HeadDamaged b) e = let h : failure.Refused (HeadDamaged b) ≡ failure.Words = e in cc
put_not_words (put.Full n) e = let h : failure.Refused (Full n) ≡ failure.Words = e in cc
put_not_words put.ReadFault e = cc
put_not_words put.DiskFault e = cc
put_not_words put.NoMemory e = cc

-- by the disk only where its disk failed, by the input only where its source did
pub put_disk : (fault : PutFault) → put_failure fault ≡ failure.Disk → fault ≡ put.DiskFault
put_disk put.BadName e = let h : failure.Refused BadName ≡ failure.Disk = e in cc
put_disk put.NameTaken e = let h : failure.Refused NameTaken ≡ failure.Disk = e in cc
put_disk put.CatalogFull e = let h : failure.Refused CatalogFull ≡ failure.Disk = e in cc
put_disk (put.HeadDamaged b) e = let h : failure.Refused (HeadDamaged b) ≡ failure.Disk = e in cc
put_disk (put.Full n) e = let h : failure.Refused (Full n) ≡ failure.Disk = e in cc
put_disk put.ReadFault e = let h : failure.Input ≡ failure.Disk = e in cc
put_disk put.DiskFault e = refl
put_disk put.NoMemory e = let h : failure.Memory ≡ failure.Disk = e in cc

pub put_input : (fault : PutFault) → put_failure fault ≡ failure.Input → fault ≡ put.ReadFault
put_input put.BadName e = let h : failure.Refused BadName ≡ failure.Input = e in cc
put_input put.NameTaken e = let h : failure.Refused NameTaken ≡ failure.Input = e in cc
put_input put.CatalogFull e = let h : failure.Refused CatalogFull ≡ failure.Input = e in cc
put_input (put.HeadDamaged b) e = let h : failure.Refused (HeadDamaged b) ≡ failure.Input = e in cc
put_input (put.Full n) e = let h : failure.Refused (Full n) ≡ failure.Input = e in cc
put_input put.ReadFault e = refl
put_input put.DiskFault e = let h : failure.Disk ≡ failure.Input = e in cc
put_input put.NoMemory e = let h : failure.Memory ≡ failure.Input = e in cc

-- the answer is a fault of the disk exactly where the put's is
answer_disk : {T : Type 0} (r : Result T PutFault) → answer_of r ≡ Err failure.Disk → r ≡ Err put.DiskFault
answer_disk (Ok s) e = let h : Ok s ≡ Err failure.Disk = e in cc
answer_disk {T} (Err fault) e = ap Err (put_disk fault (same_fault {T = T} (put_failure fault) failure.Disk e))

-- it is an object that is stored only where the put stored one
answer_stored : {T : Type 0} (r : Result T PutFault) → EndsStored (answer_of r) → IsOk r
answer_stored (Ok s) e = refl
answer_stored (Err fault) (inl ok) = absurd (false≢true ok)
answer_stored {T} (Err fault) (inr e) = absurd (put_not_output fault (same_fault {T = T} (put_failure fault) failure.Output e))

fault_inside : (f g : PutFault) → (let one : Result Stored PutFault = Err f in one ≡ Err g) → f ≡ g
fault_inside f g e = cc

-- an archive has not more than the most sites
pub sites_most : (shape : Shape) → shape.sites ≤ greatest_sites
sites_most shape = let h = shape.in_profile in grind (arith, nat_tests)

not_early : (n : ℕ) → IsEarly (Full n) → ⊥
not_early n early = omega (arith, early)

module _ (reading : HasOneReading) (counts : DigestsAreCounted) (survivors : SurvivorsStayHonest) (reveals : Type 0) (v w : Opened) (name : List ℕ) (left rest : Option (List ℕ)) (old mid new : State) (r : Result Stored PutFault)
    (gave : HasPutting reveals v w name left rest old mid new r) where
  late : Passes mid new
  late = gave.writes.time

  -- where the object was stored
  stored_one : (q : Result Stored PutFault) → r ≡ q → IsOk q → (s : Stored) × (r ≡ Ok s)
  stored_one (Ok s) is ok = (s, is)
  stored_one (Err fault) is ok = absurd (false≢true ok)

  put_of : (s : Stored) → r ≡ Ok s → HasPut reveals v w name left rest mid new s
  put_of s is = subst (λ (q : Result Stored PutFault). IfOk q (HasPut reveals v w name left rest mid new)) is gave.stored

  -- what the call left of the archive, as of the whole run: where the object was stored, and where nothing was
  stored_then : (revealed : reveals) (s : Stored) (o : NewObject) → HasStored reveals v w o mid new s → HasGrown v.shape (gave.opens.this_one revealed).records (o ∷ []) (opened_at old new mid.moment) new
  stored_then revealed s o has =
      let one = gave.opens.this_one revealed in
      grown_at v.shape one.records (o ∷ []) old mid new (gave.opens.reads.contents revealed)
      (grown_by_one reveals revealed v one.records mid new (its_records reveals old mid v gave.opens revealed one) (opening_synced reveals v old mid new gave.opens revealed) _ _ _ gave.writes w o s has).0

  none_then : (revealed : reveals) → r ≢ Err put.DiskFault → IsErr r → StaysGrown v.shape (gave.opens.this_one revealed).records [] (opened_at old new mid.moment) new
  none_then revealed differs failed =
      let one = gave.opens.this_one revealed in
      stays_at v.shape one.records [] old mid new (gave.opens.reads.contents revealed)
      (stays_none reading counts survivors reveals revealed v one.records mid new (its_records reveals old mid v gave.opens revealed one) (opening_synced reveals v old mid new gave.opens revealed) _ _ _ gave.writes
      (gave.leaves failed differs revealed) (gave.padded differs revealed))

  has_stands : EndsStored (answer_of r) → reveals → (shape : Shape) (records : List Record) → HasLedger shape records (old.files 0)
      → (o : NewObject) × IsWhole name left rest o × OpensThen old new (HasGrown shape records (o ∷ []))
  has_stands stored revealed =
      let s = stored_one r refl (answer_stored r stored) in
      let has = put_of s.0 s.1 in
      by_reading reading v (old.files 0) (gave.opens.this_one revealed)
      (λ shape records. (o : NewObject) × IsWhole name left rest o × OpensThen old new (HasGrown shape records (o ∷ []))) (
        has.0,
        has.1,
        opens_then reveals v old mid new gave.opens revealed (HasGrown v.shape (gave.opens.this_one revealed).records (has.0 ∷ [])) late
            (stored_then revealed s.0 has.0 has.2),
      )

  -- what a stop leaves, by the answer
  stops_by : (revealed : reveals) (q : Result Stored PutFault) → r ≡ q → (objects : List NewObject) × MayHavePut name left rest (answer_of q) objects × OpensOr old new (Grows v.shape (gave.opens.this_one revealed).records objects)
  stops_by revealed (Ok s) is =
      let has = put_of s is in
      let one = gave.opens.this_one revealed in (
        has.0 ∷ [],
        inr (inl (inl refl), (has.0, has.1, refl)),
        inr (opens_then reveals v old mid new gave.opens revealed (Grows v.shape one.records (has.0 ∷ [])) late
            (stored_then revealed s has.0 has.2).stays.grows),
      )
  stops_by revealed (Err put.DiskFault) is =
      let may = gave.stopped is revealed in
      let one = gave.opens.this_one revealed in
      let most : MayHavePut name left rest (let a : Result Stored Failure = Err failure.Disk in a) may.objects = elim may.most [
        | inl none ↦ inl none
        | inr some ↦ inr (inr refl, some)
      ] in (
        may.objects,
        most,
        inr (opens_then reveals v old mid new gave.opens revealed (Grows v.shape one.records may.objects) late
            (grows_at v.shape one.records may.objects old mid new (gave.opens.reads.contents revealed)
            (grows_maybe reveals revealed v one.records mid new (its_records reveals old mid v gave.opens revealed one) (opening_synced reveals v old mid new gave.opens revealed) _ _ _ gave.writes (IsWhole name left rest) may))),
      )
  stops_by revealed (Err fault) is =
      let one = gave.opens.this_one revealed in
      let differs : r ≢ Err put.DiskFault = λ e. let h : Err fault ≡ Err put.DiskFault = sym is ∙ e in cc in (
        [],
        inl refl,
        inr (opens_then reveals v old mid new gave.opens revealed (Grows v.shape one.records []) late
            (none_then revealed differs (subst IsErr (sym is) refl)).grows),
      )

  -- what is there but after a fault of the disk
  stays_by : (revealed : reveals) (q : Result Stored PutFault) → r ≡ q → answer_of q ≢ Err failure.Disk
      → (objects : List NewObject) × MayHavePut name left rest (answer_of q) objects × StaysGrown v.shape (gave.opens.this_one revealed).records objects (opened_at old new mid.moment) new
  stays_by revealed (Ok s) is fine =
      let has = put_of s is in
      (has.0 ∷ [], inr (inl (inl refl), (has.0, has.1, refl)), (stored_then revealed s has.0 has.2).stays)
  stays_by revealed (Err fault) is fine =
      let differs : r ≢ Err put.DiskFault = λ e. fine (ap answer_of (sym is ∙ e)) in (
        [],
        inl refl,
        none_then revealed differs (subst IsErr (sym is) refl),
      )

  -- refusals before the input is read
  untouched_early : causes.IsEarly r → IsUntouched reveals old new × (rest ≡ left)
  untouched_early early =
      let same = gave.early early in (
        untouched_by reveals v old mid new gave.opens (subst (λ (s : State). OnlyReads reveals ⊥ mid s) (sym same.0) (reads_none reveals ⊥ mid (λ none. none))),
        same.1,
      )

  untouched_is : (q : Result Stored PutFault) → r ≡ q → (why : Refusal) → IsEarly why → answer_of q ≡ Err (failure.Refused why) → IsUntouched reveals old new × (rest ≡ left)
  untouched_is (Ok s) is why early e = let h : Ok s ≡ Err (failure.Refused why) = e in cc
  untouched_is (Err put.BadName) is why early e = untouched_early (inl is)
  untouched_is (Err put.NameTaken) is why early e = untouched_early (inr (inl is))
  untouched_is (Err put.CatalogFull) is why early e = untouched_early (inr (inr is))
  untouched_is (Err (put.HeadDamaged b)) is why early e =
      let leaves = gave.head_leaves b is in (untouched_by reveals v old mid new gave.opens leaves.1, leaves.0)
  untouched_is (Err (put.Full n)) is why early e =
      let h : Err (failure.Refused (Full n)) ≡ Err (failure.Refused why) = e in
      let same : Full n ≡ why = cc in
      absurd (not_early n (subst IsEarly (sym same) early))
  untouched_is (Err put.ReadFault) is why early e = let h : Err failure.Input ≡ Err (failure.Refused why) = e in cc
  untouched_is (Err put.DiskFault) is why early e = let h : Err failure.Disk ≡ Err (failure.Refused why) = e in cc
  untouched_is (Err put.NoMemory) is why early e = let h : Err failure.Memory ≡ Err (failure.Refused why) = e in cc

  -- other failures than of the disk leave the ledger
  leaves_is_kept : (q : Result Stored PutFault) → r ≡ q → (f : Failure) → f ≢ failure.Disk → answer_of q ≡ Err f → reveals → IsOpened old new (λ c. c 0 ≡ old.files 0) × (new.files 0 ≡ old.files 0)
  leaves_is_kept (Ok s) is f differs e revealed = let h : Ok s ≡ Err f = e in cc
  leaves_is_kept (Err fault) is f differs e revealed =
      let apart : r ≢ Err put.DiskFault = λ d. (
      let same : fault ≡ put.DiskFault = fault_inside fault put.DiskFault (sym is ∙ d) in
      differs (sym (same_fault {T = Stored} (put_failure fault) f e) ∙ ap put_failure same)
      ) in
      ledger_left reveals v old mid new gave.opens revealed late (gave.leaves (subst IsErr (sym is) refl) apart revealed)

  -- the space of the disk is the space that the put needs
  fits_rest : mid.files ≡ old.files → Passes old mid → FitsPut name reveals left old → HasPutRoom v name left rest mid
  fits_rest same time fits =
      let ledger_same : mid.files 0 ≡ old.files 0 = ap (λ (c : Files). c 0) same in
      record {
        sites = rows_later v.shape (limit_when v.raised) old mid ledger_same time (record {
          sites = fits.sites v.shape (limit_when v.raised)
              (λ revealed. let one = gave.opens.this_one revealed in record { records = one.records; ledger = has_ledger_of reading v (old.files 0) one; is = ap limit_when one.has.raised });
          sync = fits.some.sync;
        });
        ledger = λ o whole enters intact few.
            let bytes = o.bytes in
            let end : ℕ = next_end v.end (length name) (nodes_for v.shape (length bytes) * (1 + v.shape.alpha)) in
            adding_later old mid 1 end ledger_same time (fits.behind end (λ revealed.
            let one = gave.opens.this_one revealed in
            record {
              shape = v.shape;
              records = one.records;
              ledger = has_ledger_of reading v (old.files 0) one;
              rest = rest;
              taken = bytes;
              takes = whole.taken;
              all = whole.end;
              named = enters.named;
              fits = omega (arith, few, one.has.lattice.n, ap limit_when one.has.raised);
              place = omega (arith, one.has.end);
            }));
      }

  -- the opening and the put
  putting_frame : OnlyWrites reveals (IsReady old) (FitsPut name reveals left old) (r ≡ Err put.DiskFault) (changes v) old new
  putting_frame =
      reads_then_writes reveals (IsReady old) (IsReady mid) (FitsPut name reveals left old) (HasPutRoom v name left rest mid) (let opening : Result Opened Failure = Ok v in opening ≡ Err failure.Disk) (r ≡ Err put.DiskFault) (changes v) old mid new
      (λ e. opened_never v failure.Disk e) (λ c. changes_none v.shape (limit_when v.raised) (IsBlockIn v.shape v.lattice.n) (IsBesides v.shape) c)
      (λ ready. ready) (λ revealed ready same goes. ready_later old mid same goes ready)
      (λ fits. fits.some) (λ revealed fits same time. fits_rest same time fits)
      gave.opens.reads gave.writes

  -- the effect on the archive
  pub putting_stores : ObjectsAreCounted → NewNamesAreFree → Stores name reveals old new left rest (answer_of r)
  putting_stores count free = record {
    archive = λ stored revealed. let one = gave.opens.this_one revealed in record { shape = v.shape; records = one.records; end = v.end; ledger = one.ledger };
    stands = has_stands;
    stops = λ revealed.
        by_reading reading v (old.files 0) (gave.opens.this_one revealed)
        (λ shape records. (objects : List NewObject) × MayHavePut name left rest (answer_of r) objects × OpensOr old new (Grows shape records objects))
        (stops_by revealed r refl);
    stays = λ differs revealed.
        by_reading reading v (old.files 0) (gave.opens.this_one revealed)
        (λ shape records. (objects : List NewObject) × MayHavePut name left rest (answer_of r) objects × (IsOutOfMemory old new (answer_of r) ⊎ OpensThen old new (StaysGrown shape records objects)))
        (let stays = stays_by revealed r refl differs in
        (stays.0, stays.1, inr (opens_then reveals v old mid new gave.opens revealed (StaysGrown v.shape (gave.opens.this_one revealed).records stays.0) late stays.2)));
    untouched = λ why early is. untouched_is r refl why early is;
    leaves = λ f disk output is revealed. let kept = leaves_is_kept r refl f disk is revealed in (inr kept.0, kept.1);
    sure = λ f disk output memory is revealed. (leaves_is_kept r refl f disk is revealed).0;
    none = λ revealed never. let one = gave.opens.this_one revealed in absurd (never (record { shape = v.shape; records = one.records; end = v.end; ledger = one.ledger }));
    padded = λ differs revealed.
        let one = gave.opens.this_one revealed in
        by_reading reading v (old.files 0) one (λ shape records. KeepsPadded shape (IsBlockIn shape (nodes_of records)) old.files new.files)
        (subst (λ (n : ℕ). KeepsPadded v.shape (IsBlockIn v.shape n) old.files new.files) one.has.lattice.n
        (subst (λ (c : Files). KeepsPadded v.shape (IsBlockIn v.shape v.lattice.n) c new.files) (gave.opens.reads.contents revealed) (gave.padded (λ e. differs (ap answer_of e)) revealed)));
    takes = λ revealed.
        let one = gave.opens.this_one revealed in
        by_reading reading v (old.files 0) one (λ shape records. TakesAtMost left rest ((limit_of records - nodes_of records) * shape.block + 1))
        (subst (λ (n : ℕ). TakesAtMost left rest ((limit_of one.records - n) * v.shape.block + 1)) one.has.lattice.n
        (subst (λ (n : ℕ). TakesAtMost left rest ((n - v.lattice.n) * v.shape.block + 1)) (ap limit_when one.has.raised) gave.reads));
    in_room = λ revealed ready fits.
        let sure = putting_frame.sure revealed ready fits in
        (λ is. sure.0 (answer_disk r is), sure.1);
    refused_in_room = λ revealed why early cause ready roomy.
        let first = gave.opens.reads.sure revealed ready roomy in
        let same = gave.opens.reads.contents revealed in
        let goes = gave.opens.reads.goes revealed ready (inl roomy) in
        let put_sure = gave.refused_in_room revealed (reason_of reading count free reveals v name old mid gave.opens revealed why early cause) (ready_later old mid same goes ready) (roomy_later old mid same gave.opens.reads.time roomy) in
        (λ is. put_sure.0 (answer_disk r is), put_sure.1 ∙ first.1);
  }

  -- the other files stay
  sites_few : (f : ℕ) → (f ≤ greatest_sites → ⊥) → IsBesides v.shape f
  sites_few f past = elim (cases_lt v.shape.sites f) [ inl besides ↦ besides | inr within ↦ absurd (past (let few = sites_most v.shape in omega (arith, within, few))) ]

  pub putting_rest : KeepsOtherFiles reveals (answer_of r ≡ Err failure.Disk) old new
  putting_rest = record {
    others = writes_where reveals _ _ _ (changes v) _ old new (λ c d step f past. step.stay f (sites_few f past)) putting_frame;
    opens = λ revealed.
        opening_then reveals v old mid new gave.opens revealed (KeepsFiles (λ file. file ≤ greatest_sites → ⊥) old.files) (λ c stays f past. stays f) late
        (λ t c from to here f past. (changed reveals v old mid new gave.opens revealed _ _ _ gave.writes t c from to here).stay f (sites_few f past));
    time = putting_frame.time;
    kept = putting_frame.kept;
    cause = λ is. putting_frame.cause (answer_disk r is);
    still = λ fine. putting_frame.still (λ is. fine (ap answer_of is));
    beneath = λ revealed ready is. putting_frame.beneath revealed ready (answer_disk r is);
  }

  -- the line of the object that was stored
  pub putting_line : (s : Stored) → r ≡ Ok s → IsStoredLine name reveals (old.files 0) left rest (stored_text s.nodes s.length s.digest name)
  putting_line s is =
      let has = put_of s is in
      let o = has.0 in
      record {
        shape = v.shape;
        o = o;
        whole = has.1;
        line = ap (λ (n : ℕ). stored_text n s.length s.digest name) has.2.count
            ∙ ap (λ (n : ℕ). stored_text (nodes_for v.shape (length o.bytes)) n s.digest name) has.2.size
            ∙ ap (λ (d : List ℕ). stored_text (nodes_for v.shape (length o.bytes)) (length o.bytes) d name) has.2.digest
            ∙ ap (λ (n : List ℕ). stored_text (nodes_for v.shape (length o.bytes)) (length o.bytes) (sha256 o.bytes) n) (sym has.1.name_is);
        is_shape = λ revealed other records ledger. by_reading reading v (old.files 0) (gave.opens.this_one revealed) (λ shape list. v.shape ≡ shape) refl other records ledger;
      }
