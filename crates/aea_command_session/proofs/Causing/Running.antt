-- A run over an opened archive: what it gives where no session was begun, and from the beginning of one on.
use Rattle.std.proofs.Common.{◌≡◌, ◌≢◌, ◌⊎◌, ◌↔◌, inl, inr, ℕ, true, false, List, [], ◌++◌, length, refl, ◌∙◌, ap, subst, Option, Some, Result, Ok, Err}
use Rattle.std.specs.Prelude.{IfOk, IsOk, IsSome, unwrap_or}
use Rattle.std.specs.Io.KnownBytes.{Keeps}
use Rattle.std.proofs.KnownBytes.{Appends-kept}
use Rattle.aea_io.specs.Streams.{SinkState}
use Rattle.aea_io.specs.Written.{FlushesInRoom}
use Rattle.aea_lattice.specs.declared.blocks.BlockId.{BlockId}
use Rattle.aea_lattice.specs.declared.shape.Shape.{Shape}
use Rattle.aea_disk.specs.Files.{Files}
use Rattle.aea_disk.specs.Frames.{OnlyReads, OnlyWrites}
use Rattle.aea_disk.specs.State.{State, IsReady, IsSynced, IsFixed}
use Rattle.aea_disk.proofs.Frames.{reads_as, reads_writes, reads_synced}
use Rattle.aea_shelf.specs.Writes.{KeepsPadded}
use Rattle.aea_records.specs.Format.{Record, first_limit, limit_when}
use Rattle.aea_records.specs.Laws.{HasOneReading}
use Rattle.aea_ledger.specs.Recorded.{AreRecordsOf}
use Rattle.aea_ledger.specs.Values.{Opened, HasRecords, IsThisOne}
use Rattle.aea_archive.specs.Blocks.{IsBlockIn}
use Rattle.aea_archive.specs.Cells.{IsBesides, ChangesArchive}
use Rattle.aea_archive.specs.Lasts.{IsDamagedLast, AreLastsHonest}
use Rattle.aea_archive.proofs.Cells.{changes_none}
use Rattle.aea_messages.specs.declared.message.Message.{Message}
use Rattle.aea_messages.specs.Messages.{spelled_all}
use Rattle.aea_machine.specs.Machine.{begun}
use Rattle.aea_uploads.specs.Laws.{AreWide}
use Rattle.aea_session.specs.declared.begin.BeginFault.{BeginFault}
use Rattle.aea_session.specs.declared.begin.BeginFault.TheVariants as begin
use Rattle.aea_session.specs.declared.fault.TakeFault.TheVariants as take
use Rattle.aea_session.specs.declared.serving.Stop.{Stop}
use Rattle.aea_session.specs.declared.serving.Stop.TheVariants as stop
use Rattle.aea_session.specs.declared.work.Work.{Work}
use Rattle.aea_session.specs.Stands.{KeepsMachine, StandsFor, IsTheSessions}
use Rattle.aea_session.specs.Serving.{TailOf, EndsThere, ServesAll}
use Rattle.aea_command.specs.declared.refusal.Failure.TheVariants as failure
use Rattle.aea_command.specs.declared.status.Status.TheVariants.{Done}
use Rattle.aea_command.specs.Causes.{IsDecided, RefusesBy}
use Rattle.aea_command.specs.Failures.{Answer}
use Rattle.aea_command_store.specs.Put.{HasDamagedHead, HasLimit}
use Rattle.aea_command_session.specs.Causes.{OpenedCauses, IsByInput}
use Rattle.aea_command_session.specs.Closes.{HasClosedAll}
use Rattle.aea_command_session.specs.Failures.{begin_failure, stop_failure}
use Rattle.aea_command_session.specs.Session.{AnswersBy, Serves, ServesOpened}
use Rattle.aea_command_session.specs.Space.{FitsMessages, FitsAnswers}
use Rattle.aea_command_session.specs.Standing.{Standing, PrintsReplies}
use Rattle.aea_command_session.proofs.Began.{Began}
use Rattle.aea_command_session.proofs.Causing.Begins.{true_not, never_first, never_damaged}
use Rattle.aea_command_session.proofs.Causing.Failing.{failed, begin_not_input, begin_not_output, begin_disk}
use Rattle.aea_command_session.proofs.Causing.Stops.{well_refuses, stop_refuses}
use Rattle.aea_command_session.proofs.Causing.Streams.{AreRead}

-- ---- where no session was begun

-- the answer, what was done, and the disk
pub unbegun_serves : (reveals fault : Type 0) (v : Opened) (old new : State) (left : Option (List ℕ)) (before : SinkState) (begun : BeginFault) → OnlyReads reveals fault old new
    → ServesOpened reveals v old new left left before before (failed (begin_failure begun))
unbegun_serves reveals fault v old new left before begun reads = record {
  done = tt;
  ran = inl (record {
    failed = refl;
    not_output = begin_not_output begun;
    not_input = begin_not_input begun;
    unread = refl;
    unused = refl;
    images = reads.crash;
    files = reads.contents;
  });
  answers_in_room = λ fits. begin_not_output begun;
}

-- it fails by the disk where the beginning does
disk_begin : {T : Type 0} (begun : BeginFault) → (let r : Result T BeginFault = Err begun in r ≡ Err begin.DiskFault) → failed (begin_failure begun) ≡ failed failure.Disk
disk_begin {T} begun e = let same : begun ≡ begin.DiskFault = (let h : (let r : Result T BeginFault = Err begun in r ≡ Err begin.DiskFault) = e in cc) in ap (λ (f : BeginFault). failed (begin_failure f)) same

-- it only read, so it wrote no more than it may
pub unbegun_writes : {T : Type 0} (reveals : Type 0) (v : Opened) (old new : State) (left : Option (List ℕ)) (begun : BeginFault)
    → OnlyReads reveals (let r : Result T BeginFault = Err begun in r ≡ Err begin.DiskFault) old new
    → OnlyWrites reveals (IsReady old) (FitsMessages v left old) (failed (begin_failure begun) ≡ failed failure.Disk)
    (ChangesArchive v.shape (limit_when v.raised) (IsBlockIn v.shape v.lattice.n) (IsBesides v.shape)) old new
unbegun_writes {T} reveals v old new left begun reads =
    reads_writes reveals (IsReady old) (FitsMessages v left old) (failed (begin_failure begun) ≡ failed failure.Disk)
    (ChangesArchive v.shape (limit_when v.raised) (IsBlockIn v.shape v.lattice.n) (IsBesides v.shape)) old new (λ ready. ready) (λ fits. fits.some)
    (λ c. changes_none v.shape (limit_when v.raised) (IsBlockIn v.shape v.lattice.n) (IsBesides v.shape) c)
    (reads_as reveals (let r : Result T BeginFault = Err begun in r ≡ Err begin.DiskFault) (failed (begin_failure begun) ≡ failed failure.Disk) old new
    (λ e. ap Err (begin_disk begun e)) (λ e. disk_begin {T = T} begun e) reads)

-- ---- what is known of the archive where one was

-- the last parities are intact where a session was begun
pub begun_intact : {T : Type 0} (s : T) (reading : HasOneReading) (reveals : Type 0) (v : Opened) (files : Files) → (reveals → IsThisOne v (files 0)) → v.raised ≡ true
    → (v.raised ≡ true → reveals → (a : BlockId) → IsDamagedLast v.shape v.lattice v.digests files a
    → (let r : Result T BeginFault = Ok s in ((b : BlockId) × (r ≡ Err (begin.HeadDamaged b))) ⊎ ((r ≡ Err begin.DiskFault) ⊎ (r ≡ Err begin.NoMemory))))
    → reveals → (b : BlockId) → HasDamagedHead files b → ⊥
begun_intact {T} s reading reveals v files this raised refused revealed =
    never_damaged reading v files (this revealed)
    (λ a damaged. elim (refused raised revealed a damaged) [
      | inl e ↦ (let h : (let r : Result T BeginFault = Ok s in r ≡ Err (begin.HeadDamaged e.0)) = e.1 in cc)
      | inr (inl e) ↦ (let h : (let r : Result T BeginFault = Ok s in r ≡ Err begin.DiskFault) = e in cc)
      | inr (inr e) ↦ (let h : (let r : Result T BeginFault = Ok s in r ≡ Err begin.NoMemory) = e in cc)
    ])

-- what its beginning gives, from the clauses of it
pub began_from : {T : Type 0} (s : T) (reveals : Type 0) (v : Opened) (w : Work) (old mid : State) → w.ledger ≡ v
    → (let r : Result T BeginFault = Ok s in (r ≡ Err begin.NotUpgraded) ↔ (v.raised ≡ false))
    → ((datas : List (List ℕ)) → length datas ≡ v.lattice.n → AreWide v.shape datas → KeepsMachine w (begun datas v.objects))
    → (reveals → (records : List Record) (datas : List (List ℕ)) → HasRecords v records → AreRecordsOf v.shape records datas
    → AreLastsHonest v.shape v.lattice v.digests datas old.files → StandsFor w (begun datas v.objects))
    → (reveals → IsThisOne v (old.files 0) → IsTheSessions w mid.files)
    → OnlyReads reveals (let r : Result T BeginFault = Ok s in r ≡ Err begin.DiskFault) old mid → Began reveals v w old mid
began_from {T} s reveals v w old mid ledger upgraded keeps stands this reads = record {
  ledger = ledger;
  raised = true_not v.raised (λ isnt. let h : (let r : Result T BeginFault = Ok s in r ≡ Err begin.NotUpgraded) = upgraded.1 isnt in cc);
  keeps = keeps;
  stands = stands;
  this = this;
  reads = reads_as reveals (let r : Result T BeginFault = Ok s in r ≡ Err begin.DiskFault) ⊥ old mid (λ none. absurd none)
      (λ is. let h : (let r : Result T BeginFault = Ok s in r ≡ Err begin.DiskFault) = is in cc) reads;
}

-- its ledger is as sure as it was
pub begun_fixed : (reveals : Type 0) (v : Opened) (w : Work) (old mid : State) → (reveals → IsSynced old) → Began reveals v w old mid → reveals → IsFixed mid 0
begun_fixed reveals v w old mid synced began revealed c here = reads_synced reveals ⊥ old mid revealed began.reads (synced revealed) c here 0

-- ---- a run from there on

-- what was printed is what it was after a flush
prints_kept : (reveals : Type 0) (w : Standing) (messages : List Message) (tail : List ℕ) (before after out : SinkState) (result : Result (Unit {0}) Stop) (c : Files) → Keeps after.written out.written
    → PrintsReplies reveals w messages tail before after result c → PrintsReplies reveals w messages tail before out result c
prints_kept reveals w messages tail before after out result c kept prints = record {
  last = prints.last;
  bytes = prints.bytes;
  part = prints.part;
  replied = prints.replied;
  ends = prints.ends;
  appended = Appends-kept before.written after.written out.written (prints.bytes ++ prints.part) prints.appended kept;
  there = prints.there;
}

pub serves_kept : (reveals : Type 0) (v : Opened) (c d : Files) (left rest : Option (List ℕ)) (before after out : SinkState) (messages : List Message) (tail : List ℕ) (result : Result (Unit {0}) Stop) → Keeps after.written out.written
    → Serves reveals v c d left rest before after messages tail result → Serves reveals v c d left rest before out messages tail result
serves_kept reveals v c d left rest before after out messages tail result kept serves = record {
  are = serves.are;
  few = serves.few;
  taken = serves.taken;
  ends = serves.ends;
  prints = λ datas long wide. prints_kept reveals _ messages tail before after out result d kept (serves.prints datas long wide);
}

module _ (reveals : Type 0) {D : Type 0} (state : D → State) (v : Opened) (w x : Work) (old : State) (d e : D) (left rest : Option (List ℕ)) (before after : SinkState) (result : Result (Unit {0}) Stop)
    (began : Began reveals v w old (state d)) (run : ServesAll reveals state w x d e left rest before after result) where
  -- its answer, and what it did
  pub begun_serves : (out : SinkState) (answer : Answer) → Keeps after.written out.written → AnswersBy result answer → IfOk answer (λ status. status ≡ Done)
      → (answer ≢ Err failure.Disk → result ≢ Err (stop.Taken take.DiskFault)) → (FitsAnswers v left before → answer ≢ Err failure.Output)
      → Serves reveals v (state d).files (state e).files left rest before after run.handled run.tail result → (reveals → HasClosedAll v run.handled run.tail result old (state e))
      → (result ≢ Err (stop.Taken take.DiskFault) → reveals → KeepsPadded v.shape (IsBlockIn v.shape v.lattice.n) old.files (state e).files)
      → ServesOpened reveals v old (state e) left rest before out answer
  begun_serves out answer kept by done disk fits serves closed padded = record {
    done = done;
    ran = inr (record {
      raised = began.raised;
      messages = run.handled;
      tail = run.tail;
      result = result;
      by = by;
      files = (state d).files;
      same = began.reads.contents;
      serves = serves_kept reveals v (state d).files (state e).files left rest before after out run.handled run.tail result kept serves;
      closes = closed;
      padded = λ fine. padded (disk fine);
    });
    answers_in_room = fits;
  }

  -- a block that was damaged after it was intact was so on a disk whose contents are not known
  pub never_damaged_then : (stopped : Stop) → result ≡ Err stopped → (b : BlockId) → stopped ≡ stop.Taken (take.Damaged b) → reveals → ⊥
  never_damaged_then stopped is b by revealed =
      let last : EndsThere reveals state run.here x run.there e run.tail run.mid after (Err (stop.Taken (take.Damaged b))) =
      subst (EndsThere reveals state run.here x run.there e run.tail run.mid after) (is ∙ ap Err by) run.last in
      (last.3.damaged b refl).1 revealed

  module _ (laws : AreRead) (reading : HasOneReading) (this : reveals → IsThisOne v (old.files 0)) (intact : reveals → (b : BlockId) → HasDamagedHead old.files b → ⊥) where
    abbrev refuses : Answer → Type 0
    refuses answer = RefusesBy (IsDecided reveals (IsSome left) IsByInput) (OpenedCauses old.files (unwrap_or left [])) answer

    raised : reveals → (shape : Shape) → HasLimit shape first_limit (old.files 0) → ⊥
    raised revealed = never_first reading v old.files (this revealed) began.raised

    -- why it is refused
    pub begun_refuses : (stopped : Stop) → result ≡ Err stopped → failed (stop_failure stopped) ≢ failed failure.Output → refuses (failed (stop_failure stopped))
    begun_refuses stopped is fine =
        stop_refuses laws reveals old.files left rest run.handled run.tail run.are run.most run.taken raised intact stopped
        (subst (λ (r : Result (Unit {0}) Stop). TailOf rest (length (spelled_all run.handled)) (length run.handled) run.tail r) is run.ends) (never_damaged_then stopped is) fine

    -- and why it is not, where it is done
    pub begun_well : result ≡ Ok tt → refuses (let a : Answer = Ok Done in a)
    begun_well is =
        well_refuses laws reveals old.files left rest run.handled run.tail run.are run.most run.taken raised intact
        (subst (λ (r : Result (Unit {0}) Stop). TailOf rest (length (spelled_all run.handled)) (length run.handled) run.tail r) is run.ends)

-- ---- the last flush

-- it is no fault where the output tells its space
pub flush_in_room : {E : Type 0} (before after : SinkState) (fault : E) → (room : ℕ) × (before.room ≡ Some room) → FlushesInRoom before after (let r : Result (Unit {0}) E = Err fault in r) → ⊥
flush_in_room {E} before after fault revealed flushes = (let h : IsOk (let r : Result (Unit {0}) E = Err fault in r) = flushes.fits revealed.0 revealed.1 in cc)
