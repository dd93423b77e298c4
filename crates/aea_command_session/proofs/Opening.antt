-- A run from its opening on: what it leaves and why it is refused, from what it left and why it was refused after the opening.
use Rattle.std.proofs.Common.{◌≡◌, ◌≢◌, ◌⊎◌, inl, inr, ℕ, ◌≤◌, true, List, [], ◌++◌, length, refl, sym, ◌∙◌, ap, subst, arith, Option, Some, Result, Ok, Err}
use Rattle.std.specs.Prelude.{IsSome, unwrap_or}
use Rattle.std.proofs.lemmas.Bool.{cases_lt}
use Rattle.aea_io.specs.Streams.{SinkState}
use Rattle.aea_lattice.specs.declared.shape.Shape.{Shape}
use Rattle.aea_catalog.specs.Catalogs.{Objects}
use Rattle.aea_disk.specs.Files.{Files, KeepsFiles}
use Rattle.aea_disk.specs.Frames.{OnlyWrites}
use Rattle.aea_disk.specs.State.{State, IsReady}
use Rattle.aea_disk.proofs.Frames.{ready_later, roomy_later, reads_then_writes, writes_where}
use Rattle.aea_disk.proofs.Moments.{during_then_kept, passes_none, where_both, where_kept, where_none}
use Rattle.aea_shelf.specs.Places.{site_bytes}
use Rattle.aea_shelf.specs.Writes.{KeepsPadded}
use Rattle.aea_records.specs.Catalogued.{objects_of}
use Rattle.aea_records.specs.Format.{Record, digests_of, limit_when, raised_limit, spelled}
use Rattle.aea_records.specs.Grammar.{IsLedger}
use Rattle.aea_ledger.specs.declared.open.OpenFault.{OpenFault}
use Rattle.aea_ledger.specs.declared.open.OpenFault.TheVariants as opening
use Rattle.aea_ledger.specs.Next.{AreItsRecords}
use Rattle.aea_ledger.specs.Stops.{HasLedger, StaysAll}
use Rattle.aea_ledger.specs.Values.{Opened}
use Rattle.aea_ledger.proofs.Readying.{adding_later}
use Rattle.aea_archive.specs.Blocks.{IsBlockIn}
use Rattle.aea_archive.specs.Cells.{IsBesides}
use Rattle.aea_archive.specs.Lasts.{AreLastsHonest}
use Rattle.aea_archive.proofs.Cells.{changes_none}
use Rattle.aea_messages.specs.declared.message.Message.{Message}
use Rattle.aea_machine.specs.Closings.{Closing, AreClosedRecords, closings_of}
use Rattle.aea_machine.specs.Machine.{begun}
use Rattle.aea_uploads.specs.Laws.{AreWide}
use Rattle.aea_session.specs.declared.serving.Stop.{Stop}
use Rattle.aea_command.specs.declared.refusal.Refusal.{Refusal}
use Rattle.aea_command.specs.declared.refusal.Refusal.TheVariants.{NoArchive, LedgerBad, Occupied, CopiesBad, CopiesDiffer}
use Rattle.aea_command.specs.declared.refusal.Failure.{Failure}
use Rattle.aea_command.specs.declared.refusal.Failure.TheVariants as failure
use Rattle.aea_command.specs.declared.status.Status.{Status}
use Rattle.aea_command.specs.Causes.{RefusesBy, IsDecided, IsFirst, IsStopped, place_of}
use Rattle.aea_command.specs.Failures.{Answer, opening_failure}
use Rattle.aea_command.specs.Openings.{OpeningCauses, Opens, opened_at, greatest_sites}
use Rattle.aea_command.proofs.Behind.{opened_no_opening}
use Rattle.aea_command.proofs.Opened.{image_is, opens_then, opening_then}
use Rattle.aea_command.proofs.OpeningCases.{opened_never, opened_then, opening_early, opening_first, opening_not_input}
use Rattle.aea_command_store.specs.Put.{HasLimit, KeepsOtherFiles}
use Rattle.aea_command_store.proofs.FromOpening.{by_at}
use Rattle.aea_command_store.proofs.PutLemmas.Opening.{changes, changed}
use Rattle.aea_command_store.proofs.PutLemmas.Running.{unopened_not_output}
use Rattle.aea_command_store.proofs.PutLemmas.Storing.{sites_most}
use Rattle.aea_command_session.specs.Causes.{OpenedCauses, SessionCauses, IsByInput}
use Rattle.aea_command_session.specs.Closes.{GrowsByCloses, SurelyGrows, closes_of, HasClosedAll}
use Rattle.aea_command_session.specs.Session.{IsNotBegun, HasBegun, ServesOpened, HasRun, HasNotRun, Sessions}
use Rattle.aea_command_session.specs.Space.{BeginsWith, end_with_closes, WouldClose, FitsSession, FitsMessages, greatest_replies, FitsSo, FitsAnswers, FitsReplies}

-- ---- a stretch from the end of the opening, as one of the whole run

closes_at : (shape : Shape) (records : List Record) (datas : List (List ℕ)) (closings : List Closing) (old mid new : State) → mid.files ≡ old.files → GrowsByCloses shape records datas closings mid new
    → GrowsByCloses shape records datas closings (opened_at old new mid.moment) new
unfolding by_at
closes_at shape records datas closings old mid new same grows = record {
  by = by_at shape records (λ l m payload added. AreClosedRecords shape l m payload closings added) old mid new same grows.by;
  wide = grows.wide;
  more = λ valid recorded honest. grows.more valid recorded (subst (λ (c : Files). AreLastsHonest shape grows.by.lattice (digests_of records) datas c) (sym same) honest);
}

surely_at : (shape : Shape) (records : List Record) (datas : List (List ℕ)) (closings : List Closing) (k : ℕ) (old mid new : State) → mid.files ≡ old.files → SurelyGrows shape records datas closings k mid new
    → SurelyGrows shape records datas closings k (opened_at old new mid.moment) new
unfolding by_at closes_at
surely_at shape records datas closings k old mid new same surely = record {
  grows = closes_at shape records datas closings old mid new same surely.grows;
  first = surely.first;
  reads = surely.reads;
  recorded = λ recorded honest.
      surely.recorded recorded (subst (λ (c : Files). AreLastsHonest shape surely.grows.by.lattice (digests_of records) datas c) (sym same) honest);
}

closed_at : (v : Opened) (messages : List Message) (tail : List ℕ) (result : Result (Unit {0}) Stop) (old mid new : State) → mid.files ≡ old.files → HasClosedAll v messages tail result mid new → HasClosedAll v messages tail result (opened_at old new mid.moment) new
closed_at v messages tail result old mid new same closed records datas its long wide =
    let at_mid : AreItsRecords v records (mid.files 0) = record { has = its.has; ledger = subst (λ (c : Files). IsLedger (c 0) v.shape records v.end) (sym same) its.ledger } in
    let all = closed records datas at_mid long wide in (
      all.0,
      all.1,
      all.2,
      all.3,
      surely_at v.shape records datas (closes_of v datas (messages ++ all.1)) (length (closes_of v datas (messages ++ all.0))) old mid new same all.4,
    )

-- ---- after the opening

module _ (reveals : Type 0) (v : Opened) (left rest : Option (List ℕ)) (old mid new : State) (before after : SinkState) (answer : Answer)
    (opens : Opens reveals old mid (Ok v)) (writes : OnlyWrites reveals (IsReady mid) (FitsMessages v left mid) (answer ≡ Err failure.Disk) (changes v) mid new) where
  -- the file has the records of the opened ledger
  has_ledger : (revealed : reveals) → HasLedger v.shape (opens.this_one revealed).records (old.files 0)
  has_ledger revealed = let one = opens.this_one revealed in subst (λ (n : ℕ). IsLedger (old.files 0) v.shape one.records n) one.has.end one.ledger

  -- and its limit was raised where that of the opened ledger was
  has_limit : reveals → v.raised ≡ true → HasLimit v.shape raised_limit (old.files 0)
  has_limit revealed raised = let one = opens.this_one revealed in record { records = one.records; ledger = has_ledger revealed; is = ap limit_when (sym raised ∙ one.has.raised) }

  -- ---- the space

  would_close : reveals → v.raised ≡ true → (datas : List (List ℕ)) → length datas ≡ v.lattice.n → AreWide v.shape datas → (messages : List Message) → BeginsWith left messages → closes_of v datas messages ≢ []
      → WouldClose left old.files (length (closes_of v datas messages)) (end_with_closes v.shape v.end (closes_of v datas messages))
  would_close revealed raised datas long wide messages begins some =
      let one = opens.this_one revealed in
      let closes : closes_of v datas messages ≡ closings_of v.shape (begun datas (objects_of one.records)) messages = ap (λ (o : Objects). closings_of v.shape (begun datas o) messages) one.has.objects in
      record {
        shape = v.shape;
        records = one.records;
        ledger = has_ledger revealed;
        raised = has_limit revealed raised;
        datas = datas;
        long = long ∙ one.has.lattice.n;
        wide = wide;
        messages = messages;
        begins = begins;
        some = λ none. some (closes ∙ none);
        count = ap length closes;
        place = ap (λ (n : ℕ). end_with_closes v.shape n (closes_of v datas messages)) one.has.end ∙ ap (end_with_closes v.shape (length (spelled v.shape one.records))) closes;
      }

  -- the space of the disk is the space that the messages need: for their closes, where the limit was raised, and else to sync
  fits_messages : reveals → FitsSession reveals left old → FitsMessages v left mid
  fits_messages revealed fits = record {
    some = roomy_later old mid (opens.reads.contents revealed) opens.reads.time fits.some;
    sites = λ raised f some within.
        opens.reads.time.room f (site_bytes v.shape raised_limit) (fits.sites v.shape (λ known. has_limit known raised) f some within);
    ledger = λ raised datas long wide messages begins some.
        let more = length (closes_of v datas messages) in
        let end = end_with_closes v.shape v.end (closes_of v datas messages) in
        adding_later old mid more end (ap (λ (c : Files). c 0) (opens.reads.contents revealed)) opens.reads.time
        (fits.behind more end (λ known. would_close known raised datas long wide messages begins some));
  }

  -- the space of the output is the space that the replies need, over an archive whose limit was raised
  fits_answers : reveals → (input : List ℕ) → left ≡ Some input → FitsReplies old.files input before → v.raised ≡ true → FitsAnswers v left before
  fits_answers revealed input is fits raised datas long wide messages begins =
      let one = opens.this_one revealed in
      subst (λ (o : Objects). FitsSo before (greatest_replies v.shape (begun datas o) messages)) (sym one.has.objects)
      (fits v.shape one.records datas (has_ledger revealed) (has_limit revealed raised) (long ∙ one.has.lattice.n) wide messages
      (subst (λ (known : Option (List ℕ)). BeginsWith known messages) is begins))

  -- all the calls of the run, as those after its opening
  frame : OnlyWrites reveals (IsReady old) (FitsSession reveals left old) (answer ≡ Err failure.Disk) (changes v) old new
  frame =
      reads_then_writes reveals (IsReady old) (IsReady mid) (FitsSession reveals left old) (FitsMessages v left mid) (let r : Result Opened Failure = Ok v in r ≡ Err failure.Disk) (answer ≡ Err failure.Disk) (changes v) old mid new
      (opened_never v failure.Disk) (λ c. changes_none v.shape (limit_when v.raised) (IsBlockIn v.shape v.lattice.n) (IsBesides v.shape) c)
      (λ ready. ready) (λ revealed ready same goes. ready_later old mid same goes ready)
      (λ fits. fits.some) (λ revealed fits same time. fits_messages revealed fits)
      opens.reads writes

  -- ---- what the run leaves

  -- where it did not begin all images after the first sync are the files as they read
  not_run : IsNotBegun reveals mid new left rest before after answer → HasNotRun reveals old new left rest before after answer
  not_run none = (
    record {
      failed = none.failed;
      not_output = none.not_output;
      not_input = none.not_input;
      unread = none.unread;
      unused = none.unused;
      images = during_then_kept old mid new (old.image old.moment) opens.reads.time writes.time none.images opens.reads.crash;
      files = λ revealed. none.files revealed ∙ opens.reads.contents revealed;
    },
    λ differs revealed.
        opened_then old mid new (StaysAll old.files) (StaysAll old.files) opens.reads.time writes.time (λ c stays. stays)
        (λ t c from to here f. ap (λ (d : Files). d f) (image_is reveals v old mid new opens revealed c (none.images t c from to here)))
        (opens.opened (λ e. opened_never v failure.Disk e) revealed),
  )

  has_run : HasBegun reveals v mid new left rest before after answer (λ messages tail result. HasClosedAll v messages tail result mid new) → HasRun reveals old new left rest before after answer
  has_run began = (
    v,
    opens.records,
    opens.this_one,
    record {
      raised = began.raised;
      messages = began.messages;
      tail = began.tail;
      result = began.result;
      by = began.by;
      files = began.files;
      same = λ revealed. began.same revealed ∙ opens.reads.contents revealed;
      serves = began.serves;
      closes = λ revealed.
          opens_then reveals v old mid new opens revealed (HasClosedAll v began.messages began.tail began.result) writes.time
          (closed_at v began.messages began.tail began.result old mid new (opens.reads.contents revealed) (began.closes revealed));
      padded = λ differs revealed.
          subst (λ (c : Files). KeepsPadded v.shape (IsBlockIn v.shape v.lattice.n) c new.files) (opens.reads.contents revealed) (began.padded differs revealed);
    },
  )

  -- of a run whose opening went well: what it leaves
  pub sessions_behind : ServesOpened reveals v mid new left rest before after answer → Sessions reveals old new left rest before after answer
  sessions_behind does = record {
    done = does.done;
    ran = elim does.ran [ inl none ↦ inl (not_run none) | inr began ↦ inr (has_run began) ];
    in_room = frame.sure;
    replies_in_room = λ revealed input is fits. elim does.ran [
      | inl none ↦ none.not_output
      | inr began ↦ does.answers_in_room (fits_answers revealed input is fits began.raised)
    ];
  }

  -- a file past those of the most sites is not the archive's
  few_sites : (f : ℕ) → (f ≤ greatest_sites → ⊥) → IsBesides v.shape f
  few_sites f past = elim (cases_lt v.shape.sites f) [ inl besides ↦ besides | inr within ↦ absurd (past (let few = sites_most v.shape in omega (arith, within, few))) ]

  -- such files stay
  pub session_rest : KeepsOtherFiles reveals (answer ≡ Err failure.Disk) old new
  session_rest = record {
    others = where_both reveals _ old mid new opens.reads.time writes.time
        (where_kept reveals _ old old mid (passes_none old) opens.reads.time opens.reads.crash opens.reads.contents (where_none reveals _ old))
        (writes_where reveals _ _ _ (changes v) _ mid new (λ c d step f past. step.stay f (few_sites f past)) writes);
    opens = λ revealed.
        opening_then reveals v old mid new opens revealed (KeepsFiles (λ file. file ≤ greatest_sites → ⊥) old.files) (λ c stays f past. stays f) writes.time
        (λ t c from to here f past. (changed reveals v old mid new opens revealed _ _ _ writes t c from to here).stay f (few_sites f past));
    time = frame.time;
    kept = frame.kept;
    cause = frame.cause;
    still = frame.still;
    beneath = frame.beneath;
  }

  -- ---- why the run is refused

  -- for the causes after the opening, since none of the opening's holds
  pub session_refuses : RefusesBy (IsDecided reveals (IsSome left) IsByInput) (OpenedCauses mid.files (unwrap_or left [])) answer → RefusesBy (IsDecided reveals (IsSome left) IsByInput) (SessionCauses old.files (unwrap_or left [])) answer
  session_refuses refuses = record {
    only = λ why is revealed.
        let first = subst (λ (c : Files). IsFirst (OpenedCauses c (unwrap_or left [])) why) (opens.reads.contents revealed.0) (refuses.only why is revealed) in record {
          stands = wider why first.stands;
          none = λ other earlier cause. first.none other earlier (narrower revealed.0 other cause);
        };
    always = λ why revealed first.
        refuses.always why revealed (subst (λ (c : Files). IsFirst (OpenedCauses c (unwrap_or left [])) why) (sym (opens.reads.contents revealed.0))
        (record { stands = narrower revealed.0 why first.stands; none = λ other earlier cause. first.none other earlier (wider other cause) }));
  }
    where
      wider : (why : Refusal) → OpenedCauses old.files (unwrap_or left []) why → SessionCauses old.files (unwrap_or left []) why
      wider NoArchive cause = absurd cause
      wider (LedgerBad at) cause = absurd cause
      wider why cause = cause

      narrower : reveals → (why : Refusal) → SessionCauses old.files (unwrap_or left []) why → OpenedCauses old.files (unwrap_or left []) why
      narrower revealed NoArchive cause = opened_no_opening reveals old mid v opens revealed NoArchive cause
      narrower revealed (LedgerBad at) cause = opened_no_opening reveals old mid v opens revealed (LedgerBad at) cause
      narrower revealed why cause = cause

-- ---- the archive was not opened

-- the causes are those of the opening, and others that come after them
from_opening : (files : Files) (input : List ℕ) (why : Refusal) → OpeningCauses (files 0) why → SessionCauses files input why
from_opening files input NoArchive cause = cause
from_opening files input (LedgerBad at) cause = cause
from_opening files input why cause = absurd cause

to_opening : (files : Files) (input : List ℕ) (why : Refusal) → SessionCauses files input why → OpeningCauses (files 0) why ⊎ (place_of Occupied ≤ place_of why)
to_opening files input NoArchive cause = inl cause
to_opening files input (LedgerBad at) cause = inl cause
to_opening files input (CopiesBad first second) cause = absurd cause
to_opening files input (CopiesDiffer at) cause = absurd cause
to_opening files input why cause = inr (omega arith)

module _ (reveals : Type 0) (old new : State) (left : Option (List ℕ)) (f : Failure) (opens : Opens reveals old new (Err f)) where
  same_failure : (g : Failure) → (let one : Answer = Err f in one ≡ Err g) → f ≡ g
  same_failure g e = cc

  fault_is : (g : Failure) → (let one : Result Opened Failure = Err f in one ≡ Err g) → f ≡ g
  fault_is g e = cc

  not_input : f ≢ failure.Input
  not_input e = let kind = opens.kinds in opening_not_input kind.0 (sym kind.1 ∙ e)

  -- of a run whose opening failed: nothing was taken and nothing was printed
  pub sessions_unopened : (out : SinkState) → Sessions reveals old new left left out out (Err f)
  sessions_unopened out = record {
    done = tt;
    ran = inl (
      record {
        failed = refl;
        not_output = λ e. unopened_not_output reveals old new f opens (same_failure failure.Output e);
        not_input = λ e. not_input (same_failure failure.Input e);
        unread = refl;
        unused = refl;
        images = opens.reads.crash;
        files = opens.reads.contents;
      },
      λ differs revealed. opens.opened (λ e. differs (ap Err (fault_is failure.Disk e))) revealed,
    );
    in_room = λ revealed ready fits.
        let sure = opens.reads.sure revealed ready fits.some in
        (λ is. sure.0 (let same = same_failure failure.Disk is in ap Err same), sure.1);
    replies_in_room = λ revealed input is fits e. unopened_not_output reveals old new f opens (same_failure failure.Output e);
  }

  -- the opening gave a cause of its own, or the disk or memory kept it from one
  opening_says : (fault : OpenFault) → f ≡ opening_failure fault → ((why : Refusal) × (f ≡ failure.Refused why)) ⊎ IsStopped {T = Status} (Err f)
  opening_says opening.NoArchive is = inl (NoArchive, is)
  opening_says (opening.LedgerBad at) is = inl (LedgerBad at, is)
  opening_says opening.DiskFault is = inr (inl (ap Err is))
  opening_says opening.NoMemory is = inr (inr (inr (ap Err is)))

  abbrev input : List ℕ
  input = unwrap_or left []

  -- a cause of the opening is told as such
  revealed_early : reveals → (why : Refusal) → OpeningCauses (old.files 0) why → (let a : Answer = Err f in (a ≡ Err (failure.Refused why)) ⊎ IsStopped a)
  revealed_early revealed why cause = elim (opens.refuses.always why revealed (opening_first (old.files 0) why cause)) [
    | inl e ↦ inl (ap Err (fault_is (failure.Refused why) e))
    | inr (inl e) ↦ inr (inl (ap Err (fault_is failure.Disk e)))
    | inr (inr (inl e)) ↦ inr (inr (inl (ap Err (fault_is failure.Input e))))
    | inr (inr (inr e)) ↦ inr (inr (inr (ap Err (fault_is failure.Memory e))))
  ]

  -- and where a later one is the first, the opening gave none of its own
  revealed_late : reveals → (why : Refusal) → place_of Occupied ≤ place_of why → IsFirst (SessionCauses old.files input) why → IsStopped {T = Status} (Err f)
  revealed_late revealed why late first = elim (opening_says opens.kinds.0 opens.kinds.1) [
    | inl refused ↦ (
        let early = (opens.refuses.only refused.0 (ap Err refused.1) revealed).stands in
        let sooner = opening_early (old.files 0) refused.0 early in
        absurd (first.none refused.0 (omega (arith, sooner, late)) (from_opening old.files input refused.0 early)))
    | inr stopped ↦ stopped
  ]

  -- and why it is refused: for a cause of the opening, or where a later one is the first, for none
  pub unopened_session : RefusesBy {T = Status} (IsDecided reveals (IsSome left) IsByInput) (SessionCauses old.files (unwrap_or left [])) (Err f)
  unopened_session = record {
    only = λ why is revealed.
        let first = opens.refuses.only why (ap Err (same_failure (failure.Refused why) is)) revealed.0 in record {
          stands = from_opening old.files input why first.stands;
          none = λ other earlier cause. elim (to_opening old.files input other cause) [
            | inl early ↦ first.none other earlier early
            | inr late ↦ let e = opening_early (old.files 0) why first.stands in omega (arith, e, late, earlier)
          ];
        };
    always = λ why revealed first. elim (to_opening old.files input why first.stands) [
      | inl early ↦ revealed_early revealed.0 why early
      | inr late ↦ inr (revealed_late revealed.0 why late first)
    ];
  }
