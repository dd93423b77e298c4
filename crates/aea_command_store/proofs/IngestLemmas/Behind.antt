-- What a run leaves that stores the frames of a stream, its opening included.
use Rattle.std.proofs.Common.{◌≡◌, ◌≢◌, ◌⊎◌, inl, inr, ℕ, ◌≤◌, List, [], ◌++◌, length, refl, sym, ◌∙◌, ap, subst, arith, Option, Some, Result, Ok, Err}
use Rattle.std.specs.Prelude.{IsSome, unwrap_or}
use Rattle.std.specs.Io.KnownBytes.{Consumes}
use Rattle.std.proofs.KnownBytes.{Consumes-nil}
use Rattle.std.proofs.lemmas.Bool.{cases_lt, false≢true}
use Rattle.aea_io.specs.Streams.{SinkState}
use Rattle.aea_lattice.specs.declared.shape.Shape.{Shape}
use Rattle.aea_disk.specs.Files.{Files, KeepsFiles}
use Rattle.aea_disk.specs.Frames.{OnlyWrites}
use Rattle.aea_disk.specs.State.{State, IsReady}
use Rattle.aea_disk.proofs.Frames.{ready_later, reads_then_writes, writes_where}
use Rattle.aea_disk.proofs.Moments.{passes_none, where_both, where_kept, where_none}
use Rattle.aea_shelf.specs.Places.{site_bytes, padded_home}
use Rattle.aea_shelf.specs.Writes.{KeepsPadded}
use Rattle.aea_records.specs.Format.{Record, limit_when, nodes_of}
use Rattle.aea_records.specs.Grammar.{IsLedger}
use Rattle.aea_records.specs.Laws.{HasOneReading, IsSomeLedger}
use Rattle.aea_ledger.specs.Stops.{HasLedger, IsOpened, StaysAll}
use Rattle.aea_ledger.specs.Values.{Opened}
use Rattle.aea_ledger.proofs.Readying.{adding_later}
use Rattle.aea_archive.specs.Blocks.{IsBlockIn, IsIntactBy}
use Rattle.aea_archive.specs.Cells.{IsBesides}
use Rattle.aea_archive.specs.Next.{NewObject}
use Rattle.aea_archive.proofs.Cells.{changes_none}
use Rattle.aea_command.specs.declared.refusal.Refusal.{Refusal}
use Rattle.aea_command.specs.declared.refusal.Refusal.TheVariants.{CopiesBad, CopiesDiffer, NoArchive, LedgerBad, BadName, NameTaken, CatalogFull, HeadDamaged, Full, BadStream, Occupied}
use Rattle.aea_command.specs.declared.refusal.Failure.{Failure}
use Rattle.aea_command.specs.declared.refusal.Failure.TheVariants as failure
use Rattle.aea_command.specs.Causes.{Refuses, RefusesBy, IsDecided, IsFirst, place_of}
use Rattle.aea_command.specs.declared.status.Status.{Status}
use Rattle.aea_command.specs.Failures.{Answer}
use Rattle.aea_command.specs.Openings.{OpensThen, OpeningCauses, IsAfterOpening, Opens, greatest_sites}
use Rattle.aea_command_store.specs.Growing.{StaysGrown, HasGrown}
use Rattle.aea_command_store.specs.Ingest.{filled_by, MayAllBeTaken, end_with, FitsLines, OpenedCauses, IngestCauses, IsRefusedAt, EndCauses, IsNotOpened, FitsIngest, FitsFrames, GrowsSurely, MayBeLast, IngestsOpened, Ingests}
use Rattle.aea_command_store.specs.Put.{EndsStored, KeepsOtherFiles}
use Rattle.aea_command_store.proofs.Adding.{its_records}
use Rattle.aea_command.proofs.Behind.{AreBehindOpening, some_ledger, unopened_refuses, opened_no_opening}
use Rattle.aea_command_store.proofs.FromOpening.{stays_at, grown_at, surely_at}
use Rattle.aea_command_store.proofs.PutLemmas.Reading.{head_there}
use Rattle.aea_command_store.proofs.PutLemmas.Opening.{changes, changed}
use Rattle.aea_command.proofs.Opened.{opens_then, opening_then}
use Rattle.aea_command.proofs.Reading.{has_ledger_of, by_reading}
use Rattle.aea_command_store.proofs.PutLemmas.Running.{unopened_not_output}
use Rattle.aea_command_store.proofs.PutLemmas.Storing.{sites_most}
use Rattle.aea_command.proofs.Refusing.{refuses_by_revealed}
use Rattle.aea_command.proofs.OpeningCases.{opening_not_input, opened_never}

-- ---- after the opening

module _ (reading : HasOneReading) (reveals : Type 0) (v : Opened) (left rest : Option (List ℕ)) (old mid new : State) (before after : SinkState) (answer : Answer)
    (opens : Opens reveals old mid (Ok v)) (writes : OnlyWrites reveals (IsReady mid) (FitsFrames v left mid) (answer ≡ Err failure.Disk) (changes v) mid new) where
  -- the space of the disk is the space that the frames need
  fits_frames : reveals → FitsIngest reveals left old → FitsFrames v left mid
  fits_frames revealed fits =
      let same : mid.files 0 ≡ old.files 0 = ap (λ (c : Files). c 0) (opens.reads.contents revealed) in
      let one = opens.this_one revealed in
      record {
        sites = record {
          sites = λ f some within.
              opens.reads.time.room f (site_bytes v.shape (limit_when v.raised)) (fits.sites v.shape (limit_when v.raised)
              (λ revealed. record { records = one.records; ledger = has_ledger_of reading v (old.files 0) one; is = ap limit_when one.has.raised }) f some within);
          sync = subst (λ (l : List ℕ). mid.keeps l) (sym same) (opens.reads.time.syncs (old.files 0) fits.some.sync);
        };
        ledger = λ records its intact objects rest' some framed taken.
            let is : records ≡ one.records = (reading (old.files 0) v.shape v.shape records one.records v.end v.end (subst (λ (l : List ℕ). IsLedger l v.shape records v.end) same its.ledger) one.ledger).1.0 in
            adding_later old mid (length objects) (end_with v.shape v.end objects) same opens.reads.time (fits.behind (length objects) (end_with v.shape v.end objects) (λ revealed. record {
              shape = v.shape;
              records = one.records;
              ledger = has_ledger_of reading v (old.files 0) one;
              intact = λ b damaged.
                  let first = head_there reading v old.files one b damaged in
                  first.damaged.damaged (subst (λ (c : Files). IsIntactBy v.shape v.digests c b) (opens.reads.contents revealed) (intact b first.damaged.last));
              objects = objects;
              some = some;
              rest = rest';
              framed = framed;
              taken = subst (λ (rs : List Record). MayAllBeTaken v.shape (filled_by rs) objects) is taken;
              count = refl;
              place = ap (λ (n : ℕ). end_with v.shape n objects) one.has.end;
            }));
      }

  -- all the calls of the run, as those after its opening
  frame : OnlyWrites reveals (IsReady old) (FitsIngest reveals left old) (answer ≡ Err failure.Disk) (changes v) old new
  frame =
      reads_then_writes reveals (IsReady old) (IsReady mid) (FitsIngest reveals left old) (FitsFrames v left mid) (let r : Result Opened Failure = Ok v in r ≡ Err failure.Disk) (answer ≡ Err failure.Disk) (changes v) old mid new
      (opened_never v failure.Disk) (λ c. changes_none v.shape (limit_when v.raised) (IsBlockIn v.shape v.lattice.n) (IsBesides v.shape) c)
      (λ ready. ready) (λ revealed ready same goes. ready_later old mid same goes ready)
      (λ fits. fits.some) (λ revealed fits same time. fits_frames revealed fits)
      opens.reads writes

  -- what the run leaves, from what it left after its opening
  pub ingests_behind : IngestsOpened reveals v mid new left rest before after answer → Ingests reveals old new left rest before after answer
  ingests_behind does = record {
    done = does.done;
    printed = does.printed;
    more = does.more;
    stores = record {
      framed = does.stores.framed;
      most = does.stores.most;
      whole = does.stores.whole;
      archive = λ stored revealed. let one = opens.this_one revealed in record { shape = v.shape; records = one.records; end = v.end; ledger = one.ledger };
      stands = λ stored revealed.
          let one = opens.this_one revealed in
          by_reading reading v (old.files 0) one (λ shape records. OpensThen old new (HasGrown shape records (does.printed ++ does.more)))
          (opens_then reveals v old mid new opens revealed (HasGrown v.shape one.records (does.printed ++ does.more)) writes.time
          (grown_at v.shape one.records (does.printed ++ does.more) old mid new (opens.reads.contents revealed) (does.stores.stands stored revealed one.records (its_records reveals old mid v opens revealed one))));
      stops = λ revealed.
          let one = opens.this_one revealed in
          by_reading reading v (old.files 0) one
          (λ shape records. (last : List NewObject) × MayBeLast left does.printed answer last
          × (IsNotOpened old new (does.printed ++ does.more) answer ⊎ OpensThen old new (GrowsSurely shape records ((does.printed ++ does.more) ++ last) (length (does.printed ++ does.more)))))
          (let stops = does.stores.stops revealed one.records (its_records reveals old mid v opens revealed one) in (
            stops.0,
            stops.1,
            inr (opens_then reveals v old mid new opens revealed (GrowsSurely v.shape one.records ((does.printed ++ does.more) ++ stops.0) (length (does.printed ++ does.more))) writes.time
                (surely_at v.shape one.records ((does.printed ++ does.more) ++ stops.0) (length (does.printed ++ does.more)) old mid new (opens.reads.contents revealed) stops.2)),
          ));
      stays = λ differs revealed.
          let one = opens.this_one revealed in
          by_reading reading v (old.files 0) one (λ shape records. IsNotOpened old new (does.printed ++ does.more) answer ⊎ OpensThen old new (StaysGrown shape records (does.printed ++ does.more)))
          (inr (opens_then reveals v old mid new opens revealed (StaysGrown v.shape one.records (does.printed ++ does.more)) writes.time
          (stays_at v.shape one.records (does.printed ++ does.more) old mid new (opens.reads.contents revealed) (does.stores.stays differs revealed one.records (its_records reveals old mid v opens revealed one)))));
      none = λ revealed never. let one = opens.this_one revealed in absurd (never (record { shape = v.shape; records = one.records; end = v.end; ledger = one.ledger }));
      unopened = λ differs revealed never. let one = opens.this_one revealed in absurd (never (record { shape = v.shape; records = one.records; end = v.end; ledger = one.ledger }));
      padded = λ differs revealed.
          let one = opens.this_one revealed in
          by_reading reading v (old.files 0) one (λ shape records. KeepsPadded shape (IsBlockIn shape (nodes_of records)) old.files new.files)
          (subst (λ (n : ℕ). KeepsPadded v.shape (IsBlockIn v.shape n) old.files new.files) one.has.lattice.n
          (subst (λ (c : Files). KeepsPadded v.shape (IsBlockIn v.shape v.lattice.n) c new.files) (opens.reads.contents revealed) (does.stores.padded differs revealed)));
      in_room = frame.sure;
    };
    early = record {
      refused = λ revealed input is why e. subst (λ (c : Files). EndCauses c input does.printed why) (opens.reads.contents revealed) (does.early.refused revealed input is why e);
      unread = does.early.unread;
      closed = does.early.closed;
    };
    prints = inr (v.shape, (λ revealed. by_reading reading v (old.files 0) (opens.this_one revealed) (λ shape list. v.shape ≡ shape) refl), does.prints);
    lines_in_room = λ revealed input is fits. does.lines_in_room revealed input is (subst (λ (c : Files). FitsLines c input before) (sym (opens.reads.contents revealed)) fits);
  }

  -- the other files stay
  few_sites : (f : ℕ) → (f ≤ greatest_sites → ⊥) → IsBesides v.shape f
  few_sites f past = elim (cases_lt v.shape.sites f) [ inl besides ↦ besides | inr within ↦ absurd (past (let few = sites_most v.shape in omega (arith, within, few))) ]

  pub ingests_rest : KeepsOtherFiles reveals (answer ≡ Err failure.Disk) old new
  ingests_rest = record {
    others = where_both reveals _ old mid new opens.reads.time writes.time
        (where_kept reveals _ old old mid (passes_none old) opens.reads.time opens.reads.crash opens.reads.contents (where_none reveals _ old))
        (writes_where reveals _ _ _ (changes v) _ mid new (λ c d step f past. step.stay f (few_sites f past)) writes);
    opens = λ revealed.
        opening_then reveals v old mid new opens revealed (KeepsFiles (λ file. file ≤ greatest_sites → ⊥) old.files) (λ c stays f past. stays f) writes.time
        (λ t c from to here f past. (changed reveals v old mid new opens revealed _ _ _ writes t c from to here).stay f (few_sites f past));
    time = frame.time;
    kept = frame.kept;
    cause = frame.cause;
    still = frame.still;
    beneath = frame.beneath;
  }

  -- the causes of its refusals are those after the opening
  pub ingests_refuse : Refuses (reveals × IsSome left) (OpenedCauses mid.files (unwrap_or left [])) answer → ((why : Refusal) → answer ≡ Err (failure.Refused why) → IsAfterOpening why)
      → RefusesBy (IsDecided reveals (IsSome left) IsAfterOpening) (IngestCauses old.files (unwrap_or left [])) answer
  ingests_refuse refuses after_opening = record {
    only = λ why is revealed.
        let first = subst (λ (c : Files). IsFirst (OpenedCauses c (unwrap_or left [])) why) (opens.reads.contents revealed.0) (refuses.only why is (revealed.0, revealed.1 (after_opening why is))) in record {
          stands = wider why first.stands;
          none = λ other earlier cause. first.none other earlier (narrower revealed.0 other cause);
        };
    always = λ why revealed first.
        refuses.always why (revealed.0, by_input revealed.0 why revealed.1 first.stands) (subst (λ (c : Files). IsFirst (OpenedCauses c (unwrap_or left [])) why) (sym (opens.reads.contents revealed.0))
        (record { stands = narrower revealed.0 why first.stands; none = λ other earlier cause. first.none other earlier (wider other cause) }));
  }
    where
      -- no cause of the opening holds, and each other is decided by the input too
      by_input : reveals → (why : Refusal) → (IsAfterOpening why → IsSome left) → IngestCauses old.files (unwrap_or left []) why → IsSome left
      by_input revealed NoArchive some cause = absurd (opened_no_opening reveals old mid v opens revealed NoArchive cause)
      by_input revealed (LedgerBad at) some cause = absurd (opened_no_opening reveals old mid v opens revealed (LedgerBad at) cause)
      by_input revealed (CopiesBad first second) some cause = absurd cause.1.cause
      by_input revealed (CopiesDiffer at) some cause = absurd cause.1.cause
      by_input revealed why some cause = some tt

      wider : (why : Refusal) → OpenedCauses old.files (unwrap_or left []) why → IngestCauses old.files (unwrap_or left []) why
      wider NoArchive cause = absurd cause
      wider (LedgerBad at) cause = absurd cause
      wider why cause = cause

      narrower : reveals → (why : Refusal) → IngestCauses old.files (unwrap_or left []) why → OpenedCauses old.files (unwrap_or left []) why
      narrower revealed NoArchive cause = opened_no_opening reveals old mid v opens revealed NoArchive cause
      narrower revealed (LedgerBad at) cause = opened_no_opening reveals old mid v opens revealed (LedgerBad at) cause
      narrower revealed why cause = cause

-- ---- the archive was not opened

pub ingests_unopened : (reveals : Type 0) (old new : State) (left : Option (List ℕ)) (out : SinkState) (f : Failure) → Opens reveals old new (Err f) → Ingests reveals old new left left out out (Err f)
ingests_unopened reveals old new left out f opens = record {
  done = tt;
  printed = [];
  more = [];
  stores = record {
    framed = (left, Consumes-nil left);
    most = inl refl;
    whole = λ ok. absurd (false≢true ok);
    archive = λ stored. absurd (not_stored stored);
    stands = λ stored. absurd (not_stored stored);
    stops = λ revealed shape records ledger. ([], inl refl, inl (unopened_is revealed shape records ledger));
    stays = λ differs revealed shape records ledger. inl (unopened_is revealed shape records ledger);
    none = λ revealed never. (opens.reads.crash, opens.reads.contents revealed);
    unopened = λ differs revealed never. first_sync differs revealed;
    padded = λ differs revealed shape records ledger a on keep. ap (λ (c : Files). padded_home shape a c) (opens.reads.contents revealed);
    in_room = λ revealed ready fits. let sure = opens.reads.sure revealed ready fits.some in (λ is. sure.0 (let same = same_failure failure.Disk is in ap Err same), sure.1);
  };
  early = record {
    refused = λ revealed input is why e. at_opening input why (opens.refuses.only why (let same = same_failure (failure.Refused why) e in ap Err same) revealed).stands;
    unread = λ input is e. record {
      stream = input;
      framed = refl;
      part = [];
      taken = subst (λ (rest : Option (List ℕ)). Consumes (Some input) rest []) (sym is) (Consumes-nil (Some input));
      short = λ head. omega arith;
    };
    closed = λ why opening e. refl;
  };
  prints = inl (record { failed = refl; by = λ is. unopened_not_output reveals old new f opens (same_failure failure.Output is); no_lines = refl; no_more = refl; unused = refl });
  lines_in_room = λ revealed input is fits e. unopened_not_output reveals old new f opens (same_failure failure.Output e);
}
  where
    same_failure : (g : Failure) → (let one : Answer = Err f in one ≡ Err g) → f ≡ g
    same_failure g e = cc

    fault_is : (g : Failure) → (let one : Result Opened Failure = Err f in one ≡ Err g) → f ≡ g
    fault_is g e = cc

    -- only a fault of the disk or lack of memory keeps a ledger from being opened
    not_opened : reveals → (shape : Shape) (records : List Record) → HasLedger shape records (old.files 0) → (let one : Answer = Err f in (one ≡ Err failure.Disk) ⊎ (one ≡ Err failure.Memory))
    not_opened revealed shape records ledger = elim (opens.complete revealed (some_ledger (old.files 0) shape records ledger)) [
      | inl ok ↦ absurd (false≢true ok)
      | inr (inl e) ↦ inl (ap Err (fault_is failure.Disk e))
      | inr (inr (inl e)) ↦ absurd (let kind = opens.kinds in opening_not_input kind.0 (sym kind.1 ∙ fault_is failure.Input e))
      | inr (inr (inr e)) ↦ inr (ap Err (fault_is failure.Memory e))
    ]

    -- but after a fault of the disk the first sync has succeeded
    first_sync : (let one : Answer = Err f in one ≢ Err failure.Disk) → reveals → IsOpened old new (StaysAll old.files)
    first_sync differs revealed = opens.opened (λ e. differs (ap Err (fault_is failure.Disk e))) revealed

    unopened_is : reveals → (shape : Shape) (records : List Record) → HasLedger shape records (old.files 0) → IsNotOpened {T = Status} old new [] (Err f)
    unopened_is revealed shape records ledger = record {
      by = not_opened revealed shape records ledger;
      none = refl;
      images = opens.reads.crash;
      reads = opens.reads.contents revealed;
      sure = λ differs. first_sync differs revealed;
    }

    at_opening : (input : List ℕ) (why : Refusal) → OpeningCauses (old.files 0) why → EndCauses old.files input [] why
    at_opening input NoArchive cause = cause
    at_opening input (LedgerBad at) cause = cause
    at_opening input why cause = absurd cause

    not_stored : (let one : Answer = Err f in EndsStored one) → ⊥
    not_stored (inl ok) = false≢true ok
    not_stored (inr e) = unopened_not_output reveals old new f opens (same_failure failure.Output e)

-- the causes are those of the opening, and others at what is a ledger
ingest_behind_opening : (files : Files) (input : List ℕ) → AreBehindOpening (files 0) (IngestCauses files input)
ingest_behind_opening files input = record { from = λ why cause. from_opening why cause; back = λ why cause. back_to why cause }
  where
    from_opening : (why : Refusal) → OpeningCauses (files 0) why → IngestCauses files input why
    from_opening NoArchive cause = cause
    from_opening (LedgerBad at) cause = cause
    from_opening why cause = absurd cause

    later : (why : Refusal) → IsRefusedAt files input why → IsSomeLedger (files 0)
    later why cause = some_ledger (files 0) cause.1.shape cause.1.records cause.1.ledger

    back_to : (why : Refusal) → IngestCauses files input why → OpeningCauses (files 0) why ⊎ (IsSomeLedger (files 0) × (place_of Occupied ≤ place_of why))
    back_to NoArchive cause = inl cause
    back_to (LedgerBad at) cause = inl cause
    back_to BadName cause = inr (later BadName cause, omega arith)
    back_to NameTaken cause = inr (later NameTaken cause, omega arith)
    back_to CatalogFull cause = inr (later CatalogFull cause, omega arith)
    back_to (HeadDamaged block) cause = inr (later (HeadDamaged block) cause, omega arith)
    back_to (Full nodes) cause = inr (later (Full nodes) cause, omega arith)
    back_to (BadStream at) cause = inr (later (BadStream at) cause, omega arith)
    back_to why cause = absurd cause.1.cause

pub unopened_ingest : (reveals : Type 0) (old new : State) (left : Option (List ℕ)) (f : Failure) → Opens reveals old new (Err f) → RefusesBy {T = Status} (IsDecided reveals (IsSome left) IsAfterOpening) (IngestCauses old.files (unwrap_or left [])) (Err f)
unopened_ingest reveals old new left f opens =
    refuses_by_revealed {T = Status} (λ why. reveals) (IsDecided reveals (IsSome left) IsAfterOpening) (IngestCauses old.files (unwrap_or left [])) (Err f) (λ why revealed. revealed.0)
    (unopened_refuses reveals old new f (IngestCauses old.files (unwrap_or left [])) (ingest_behind_opening old.files (unwrap_or left [])) opens)
