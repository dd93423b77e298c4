-- What a session does for a message, from what its step does and what its reply does.
use Rattle.std.proofs.Common.{◌≡◌, inl, inr, ℕ, List, [], ◌++◌, length, Option, None, Some, Result, Ok, Err, refl, sym, ◌∙◌, ap, subst, arith}
use Rattle.std.specs.Prelude.{true}
use Rattle.std.specs.Io.KnownBytes.{Appends}
use Rattle.std.proofs.lemmas.List.{append-nil}
use Rattle.aea_io.specs.Pages.{Gathers, Prints}
use Rattle.aea_io.specs.Streams.{SinkState}
use Rattle.aea_io.specs.Written.{IsFlushed}
use Rattle.aea_lattice.specs.declared.blocks.BlockId.{BlockId}
use Rattle.aea_lattice.specs.declared.shape.Shape.{Shape}
use Rattle.aea_disk.specs.Files.{Files}
use Rattle.aea_disk.specs.Frames.{OnlyReads, OnlyWrites}
use Rattle.aea_disk.specs.State.{State, HasEarlier, IsFixed, IsReady}
use Rattle.aea_disk.proofs.Frames.{reads_writes, writes_none, writes_as, writes_wider}
use Rattle.aea_disk.proofs.Moments.{during_more, during_none}
use Rattle.aea_shelf.specs.Facts.{HomesAreOnItsSites}
use Rattle.aea_shelf.specs.Writes.{KeepsPadded}
use Rattle.aea_shelf.proofs.Runs.{padded_kept, padded_none}
use Rattle.aea_records.specs.Format.{Record, raised_limit}
use Rattle.aea_records.specs.Laws.{HasOneReading}
use Rattle.aea_ledger.specs.Recorded.{AreRecordsOf}
use Rattle.aea_ledger.specs.Stops.{HasLedger}
use Rattle.aea_ledger.specs.Values.{Opened, HasRecords}
use Rattle.aea_archive.specs.Blocks.{IsBlockIn}
use Rattle.aea_archive.specs.Cells.{IsBesides, IsNoSite, ChangesArchive, FitsRows, WritesCells}
use Rattle.aea_archive.proofs.Cells.{changes_none, changes_less, file_kept, fixed_kept, rows_roomy}
use Rattle.aea_archive.proofs.Stretches.{has_ledger, adds_nothing}
use Rattle.aea_fetch.specs.Payloads.{IsPayload}
use Rattle.aea_messages.specs.declared.message.Message.{Message}
use Rattle.aea_messages.specs.declared.message.Message.TheVariants.{Open, Chunk, Close, Abort, Read, Patrol}
use Rattle.aea_machine.specs.declared.refusal.Refusal.{Refusal}
use Rattle.aea_machine.specs.declared.refusal.Refusal.TheVariants as refusal
use Rattle.aea_machine.specs.Closings.{Closing, closing_by, closing_in}
use Rattle.aea_machine.specs.Machine.{Upload, Machine, Answer, Made, Closed, Reads, Patrols, BadSlot, SlotTaken, SlotFree, BadName, NameTaken, NameOpen, Full, CatalogFull, UnknownName, BadRange, step, in_slot}
use Rattle.aea_machine.specs.Refusals.{refused_by}
use Rattle.aea_machine.specs.Replies.{reply, code_of, body_of, IsReply}
use Rattle.aea_append.specs.Puts.{LeavesLedger}
use Rattle.aea_append.specs.declared.store.Stored.{Stored}
use Rattle.aea_session.specs.declared.fault.StepFault.{StepFault}
use Rattle.aea_session.specs.declared.fault.StepFault.TheVariants as stopped
use Rattle.aea_session.specs.declared.fault.TakeFault.TheVariants.{DiskFault, WriteFault, NoMemory}
use Rattle.aea_session.specs.declared.work.Work.{Work}
use Rattle.aea_session.specs.Closes.{GoesOn, AddsCloses}
use Rattle.aea_session.specs.Faults.{fault_by}
use Rattle.aea_session.specs.Looks.{IsReplyTo, greatest_reply}
use Rattle.aea_session.specs.Stands.{KeepsMachine, KeepsSomeMachine, IsTheSessions}
use Rattle.aea_session.specs.Steps.{MakesStep, answer_by, made_by, closed_by}
use Rattle.aea_session.specs.Takes.{HasTakeRoom, Moves, Leaves, Takes}
use Rattle.aea_session.proofs.Spaces.{space_printed}

-- ---- replies to messages that ask for no block

-- an answer for which no block is looked up
abbrev pub IsPlain : Answer → Type 0
IsPlain (Reads placed) = ⊥
IsPlain (Patrols first count) = ⊥
IsPlain answer = Unit {0}

refused_plain : (r : Refusal) → IsPlain (refused_by r)
refused_plain refusal.BadSlot = tt
refused_plain refusal.SlotTaken = tt
refused_plain refusal.SlotFree = tt
refused_plain refusal.BadName = tt
refused_plain refusal.NameTaken = tt
refused_plain refusal.NameOpen = tt
refused_plain (refusal.Full nodes) = tt
refused_plain refusal.CatalogFull = tt
refused_plain refusal.UnknownName = tt
refused_plain refusal.BadRange = tt

made_plain : (made : Result (Unit {0}) Refusal) → IsPlain (answer_by made_by made)
made_plain (Ok u) = tt
made_plain (Err r) = refused_plain r

closed_plain : (closed : Result Stored Refusal) → IsPlain (answer_by closed_by closed)
closed_plain (Ok stored) = tt
closed_plain (Err r) = refused_plain r

-- the bytes of the reply to an answer
abbrev pub reply_to : Message → Answer → List ℕ
reply_to message answer = reply message (code_of answer) (body_of answer)

plain_reply : (reveals : Type 0) (has : BlockId → List ℕ → Type 0) (shape : Shape) (nodes : ℕ) (digests : List (List ℕ)) (c : Files) (message : Message) (answer : Answer) → IsPlain answer
    → IsReply reveals has shape nodes digests c message answer (code_of answer) (reply_to message answer)
plain_reply reveals has shape nodes digests c message Made plain = (refl, refl)
plain_reply reveals has shape nodes digests c message (Closed count size digest) plain = (refl, refl)
plain_reply reveals has shape nodes digests c message (Reads placed) plain = absurd plain
plain_reply reveals has shape nodes digests c message (Patrols first count) plain = absurd plain
plain_reply reveals has shape nodes digests c message BadSlot plain = (refl, refl)
plain_reply reveals has shape nodes digests c message SlotTaken plain = (refl, refl)
plain_reply reveals has shape nodes digests c message SlotFree plain = (refl, refl)
plain_reply reveals has shape nodes digests c message BadName plain = (refl, refl)
plain_reply reveals has shape nodes digests c message NameTaken plain = (refl, refl)
plain_reply reveals has shape nodes digests c message NameOpen plain = (refl, refl)
plain_reply reveals has shape nodes digests c message (Full count) plain = (refl, refl)
plain_reply reveals has shape nodes digests c message CatalogFull plain = (refl, refl)
plain_reply reveals has shape nodes digests c message UnknownName plain = (refl, refl)
plain_reply reveals has shape nodes digests c message BadRange plain = (refl, refl)

plain_long : (message : Message) (answer : Answer) → IsPlain answer → length (reply_to message answer) ≡ greatest_reply answer
plain_long message Made plain = refl
plain_long message (Closed count size digest) plain = omega arith
plain_long message (Reads placed) plain = absurd plain
plain_long message (Patrols first count) plain = absurd plain
plain_long message BadSlot plain = refl
plain_long message SlotTaken plain = refl
plain_long message SlotFree plain = refl
plain_long message BadName plain = refl
plain_long message NameTaken plain = refl
plain_long message NameOpen plain = refl
plain_long message (Full count) plain = omega arith
plain_long message CatalogFull plain = refl
plain_long message UnknownName plain = refl
plain_long message BadRange plain = refl

-- where the machine answers so, these bytes are the reply, and it has no others
pub reply_plain : (reveals : Type 0) (v : Work) (m : Machine) (c : Files) (message : Message) (answer : Answer) → IsPlain answer → (step v.ledger.shape m message).answer ≡ answer
    → IsReplyTo reveals v.ledger m c message (code_of answer) (reply_to message answer)
reply_plain reveals v m c message answer plain is =
    subst (λ (a : Answer). IsReply reveals (IsPayload reveals v.ledger.shape v.ledger.digests c) v.ledger.shape (length m.datas) v.ledger.digests c message a (code_of answer) (reply_to message answer)) (sym is)
    (plain_reply reveals (IsPayload reveals v.ledger.shape v.ledger.digests c) v.ledger.shape (length m.datas) v.ledger.digests c message answer plain)

pub long_plain : (v : Work) (m : Machine) (message : Message) (answer : Answer) → IsPlain answer → (step v.ledger.shape m message).answer ≡ answer
    → length (reply_to message answer) ≡ greatest_reply (step v.ledger.shape m message).answer
long_plain v m message answer plain is = plain_long message answer plain ∙ ap greatest_reply (sym is)

-- the reply to an open, a chunk or an abort, in each state that the session kept
pub reply_made : (reveals : Type 0) (v w : Work) (c : Files) (message : Message) (made : Result (Unit {0}) Refusal) → MakesStep made_by v w message made
    → (m : Machine) → KeepsMachine v m → IsReplyTo reveals v.ledger m c message (code_of (answer_by made_by made)) (reply_to message (answer_by made_by made))
reply_made reveals v w c message made makes m kept = reply_plain reveals v m c message (answer_by made_by made) (made_plain made) (makes m kept).answer

pub long_made : (v w : Work) (message : Message) (made : Result (Unit {0}) Refusal) → MakesStep made_by v w message made
    → (m : Machine) → KeepsMachine v m → length (reply_to message (answer_by made_by made)) ≡ greatest_reply (step v.ledger.shape m message).answer
long_made v w message made makes m kept = long_plain v m message (answer_by made_by made) (made_plain made) (makes m kept).answer

-- and to a close
pub reply_closed : (reveals : Type 0) (v w : Work) (c : Files) (message : Message) (closed : Result Stored Refusal) → MakesStep closed_by v w message closed
    → (m : Machine) → KeepsMachine v m → IsReplyTo reveals v.ledger m c message (code_of (answer_by closed_by closed)) (reply_to message (answer_by closed_by closed))
reply_closed reveals v w c message closed makes m kept = reply_plain reveals v m c message (answer_by closed_by closed) (closed_plain closed) (makes m kept).answer

pub long_closed : (v w : Work) (message : Message) (closed : Result Stored Refusal) → MakesStep closed_by v w message closed
    → (m : Machine) → KeepsMachine v m → length (reply_to message (answer_by closed_by closed)) ≡ greatest_reply (step v.ledger.shape m message).answer
long_closed v w message closed makes m kept = long_plain v m message (answer_by closed_by closed) (closed_plain closed) (makes m kept).answer

-- ---- where a message was taken

-- it closes nothing, in any state that the session keeps
abbrev pub ClosesNone : Work → Message → Type 0
ClosesNone v message = (m : Machine) → KeepsMachine v m → closing_in v.ledger.shape m message ≡ []

-- its ledger goes on by the closes of the message
abbrev pub GoesOnBy : Work → Work → Message → Type 0
GoesOnBy v w message = (m : Machine) → KeepsMachine v m → (records : List Record) → HasRecords v.ledger records → GoesOn v.ledger w.ledger (closing_in v.ledger.shape m message) records

-- where it stays, and nothing closes
pub goes_same : (v w : Work) (message : Message) → w.ledger ≡ v.ledger → ClosesNone v message → GoesOnBy v w message
goes_same v w message same none m kept records has =
    subst (λ (closings : List Closing). GoesOn v.ledger w.ledger closings records) (sym (none m kept))
    record {
      added = [];
      are = tt;
      has = subst (HasRecords w.ledger) (sym (append-nil records)) (subst (λ (l : Opened). HasRecords l records) (sym same) has);
    }

-- it made the step, and the disk is its own
pub moves_made : {T : Type 0} (reveals : Type 0) (done : T → Answer) (v w : Work) (message : Message) (old new : State) (made : Result T Refusal) → KeepsSomeMachine v → MakesStep done v w message made
    → w.ledger.live ≡ true → GoesOnBy v w message → (reveals → IsTheSessions w new.files) → (reveals → IsFixed new 0) → Moves reveals v w message old new
moves_made reveals done v w message old new made some makes live goes this fixed = record {
  keeps = λ m kept. (makes m kept).keeps;
  stands = λ m kept. (makes m kept).stands;
  shape = (makes some.0 some.1).shape;
  live = live;
  goes = goes;
  this = this;
  fixed = fixed;
}

-- ---- what is left of the disk

-- the same of other results that mean no more
pub leaves_as : (reveals : Type 0) (v w : Work) (message : Message) (old new : State) (made fault dry other_made other_fault other_dry : Type 0)
    → (other_made → made) → (other_fault → fault) → (fault → other_fault) → (other_dry → dry)
    → Leaves reveals v w message old new made fault dry → Leaves reveals v w message old new other_made other_fault other_dry
leaves_as reveals v w message old new made fault dry other_made other_fault other_dry so_made so_fault back so_dry leaves = record {
  ledger = leaves.ledger;
  closed = λ is. leaves.closed (so_made is);
  quiet = λ is. leaves.quiet (so_dry is);
  writes = writes_as reveals (IsReady old) (HasTakeRoom v message old) fault other_fault
      (ChangesArchive v.ledger.shape raised_limit (IsBlockIn v.ledger.shape v.heads.lattice.n) (IsBesides v.ledger.shape)) old new so_fault back leaves.writes;
  padded = λ fine. leaves.padded (λ is. fine (back is));
}

-- the reply was given
pub takes_put : {T E : Type 0} {value : T} (reveals : Type 0) (v w : Work) (message : Message) (old new : State) (before after : SinkState) (made fault dry : Type 0) (code : ℕ) (bytes : List ℕ)
    → Leaves reveals v w message old new made fault dry → made → (fault → ⊥) → Moves reveals v w message old new
    → ((m : Machine) → KeepsMachine v m → IsReplyTo reveals v.ledger m old.files message code bytes)
    → IsFlushed after → Prints {E = E} before [] after [] (Ok value) bytes
    → Takes reveals v w message old new before after (Ok code)
takes_put reveals v w message old new before after made fault dry code bytes leaves is fine moves replies flushed prints = record {
  moves = moves;
  replies = λ m kept. (
    bytes,
    replies m kept,
    (let g : Gathers before [] after [] bytes = prints.bytes in subst (Appends before.written after.written) (sym (g.2 ∙ append-nil g.0)) g.1),
    space_printed prints,
  );
  part = tt;
  unsaid = tt;
  flushed = flushed;
  leaves = leaves_as reveals v w message old new made fault dry _ _ _ (λ _. is) (λ e. absurd (let bad = e in cc)) (λ bad. absurd (fine bad)) (λ e. absurd (let bad = e in cc)) leaves;
  damaged = λ b e. absurd (let bad = e in cc);
  out_kept = prints.cause.kept;
  out_cause = λ e. absurd (let bad = e in cc);
  out_still = λ _. prints.cause.still;
  in_room = λ room revealed m kept enough e. absurd (let bad = e in cc);
}

-- the reply failed: the step was made
pub takes_unwritten : {T E : Type 0} {value : E} (reveals : Type 0) (v w : Work) (message : Message) (old new : State) (before after : SinkState) (made fault dry : Type 0) (code : ℕ) (bytes : List ℕ)
    → Leaves reveals v w message old new made fault dry → made → (fault → ⊥)
    → ((m : Machine) → KeepsMachine v m → IsReplyTo reveals v.ledger m old.files message code bytes)
    → ((m : Machine) → KeepsMachine v m → length bytes ≡ greatest_reply (step v.ledger.shape m message).answer)
    → Prints {T = T} before [] after [] (Err value) bytes
    → Takes reveals v w message old new before after (Err WriteFault)
takes_unwritten reveals v w message old new before after made fault dry code bytes leaves is fine replies long prints = record {
  moves = tt;
  replies = tt;
  part = λ m kept. inr (bytes, inl (code, replies m kept), prints.bytes);
  unsaid = λ other slot is. absurd (other refl);
  flushed = tt;
  leaves = leaves_as reveals v w message old new made fault dry _ _ _ (λ _. is) (λ e. absurd (let bad = e in cc)) (λ bad. absurd (fine bad)) (λ e. absurd (let bad = e in cc)) leaves;
  damaged = λ b e. absurd (let bad = e in cc);
  out_kept = prints.cause.kept;
  out_cause = λ _. prints.cause.rose;
  out_still = λ other. absurd (other refl);
  in_room = λ room revealed m kept enough _.
      absurd (let ok = prints.fits room revealed (let l = long m kept in omega (arith, enough, l)) in cc);
}

-- the step failed for the disk: nothing was said
pub takes_fault : (reveals : Type 0) (v w : Work) (message : Message) (old new : State) (out : SinkState) (made fault dry : Type 0)
    → Leaves reveals v w message old new made fault dry → fault → Takes reveals v w message old new out out (Err DiskFault)
takes_fault reveals v w message old new out made fault dry leaves is = record {
  moves = tt;
  replies = tt;
  part = λ m kept. inl refl;
  unsaid = λ other slot is. refl;
  flushed = tt;
  leaves = leaves_as reveals v w message old new made fault dry _ _ _
      (λ e. absurd (elim e [ inl ok ↦ (let bad = ok in cc) | inr bad ↦ cc ])) (λ _. is) (λ _. refl) (λ e. absurd (let bad = e in cc)) leaves;
  damaged = λ b e. absurd (let bad = e in cc);
  out_kept = omega arith;
  out_cause = λ e. absurd (let bad = e in cc);
  out_still = λ _. refl;
  in_room = λ room revealed m kept enough e. absurd (let bad = e in cc);
}

-- and for want of memory
pub takes_dry : (reveals : Type 0) (v w : Work) (message : Message) (old new : State) (out : SinkState) (made fault dry : Type 0)
    → Leaves reveals v w message old new made fault dry → dry → (fault → ⊥) → Takes reveals v w message old new out out (Err NoMemory)
takes_dry reveals v w message old new out made fault dry leaves is fine = record {
  moves = tt;
  replies = tt;
  part = λ m kept. inl refl;
  unsaid = λ other slot is. refl;
  flushed = tt;
  leaves = leaves_as reveals v w message old new made fault dry _ _ _
      (λ e. absurd (elim e [ inl ok ↦ (let bad = ok in cc) | inr bad ↦ cc ])) (λ e. absurd (let bad = e in cc)) (λ bad. absurd (fine bad)) (λ _. is) leaves;
  damaged = λ b e. absurd (let bad = e in cc);
  out_kept = omega arith;
  out_cause = λ e. absurd (let bad = e in cc);
  out_still = λ _. refl;
  in_room = λ room revealed m kept enough e. absurd (let bad = e in cc);
}

-- the step failed, for either of both
pub takes_stopped : {T : Type 0} (reveals : Type 0) (v w : Work) (message : Message) (old new : State) (out : SinkState) (made : Type 0) (result : Result T StepFault) (fault : StepFault) → result ≡ Err fault
    → Leaves reveals v w message old new made (result ≡ Err stopped.DiskFault) (result ≡ Err stopped.NoMemory) → Takes reveals v w message old new out out (Err (fault_by fault))
takes_stopped reveals v w message old new out made result stopped.DiskFault is leaves =
    takes_fault reveals v w message old new out made (result ≡ Err stopped.DiskFault) (result ≡ Err stopped.NoMemory) leaves is
takes_stopped reveals v w message old new out made result stopped.NoMemory is leaves =
    takes_dry reveals v w message old new out made (result ≡ Err stopped.DiskFault) (result ≡ Err stopped.NoMemory) leaves is (λ bad. absurd (let e = sym is ∙ bad in cc))

-- ---- messages that add no close

-- where the ledger stays, nothing was added
pub adds_none : HasOneReading → (v : Work) (m : Machine) (old new : State) → HasEarlier old new → LeavesLedger old new → AddsCloses v m [] [] old new
adds_none one v m old new earlier leaves = record {
  payload = λ b. [];
  longer = v.ledger.lattice;
  are = refl;
  wide = λ b on. let a = on.after in let m = on.most in absurd (omega (arith, a, m));
  adds = λ records its.
      let ledger = has_ledger v.ledger records (old.files 0) its in
      adds_nothing one v.ledger.shape records [] (λ b. []) old new earlier
      (during_more old new (λ c. c 0 ≡ old.files 0) (λ c. HasLedger v.ledger.shape records (c 0)) (λ c same. subst (HasLedger v.ledger.shape records) (sym same) ledger) leaves.images)
      (subst (HasLedger v.ledger.shape records) (sym leaves.reads) ledger);
  more = λ records has recorded woven valid.
      subst (λ (ds : List (List ℕ)). AreRecordsOf v.ledger.shape (records ++ []) ds) (sym (append-nil m.datas)) (subst (λ (rs : List Record). AreRecordsOf v.ledger.shape rs m.datas) (sym (append-nil records)) recorded);
  long = (let same = ap length leaves.reads in omega (arith, same));
}

refused_none : (shape : Shape) (m : Machine) (o : Option Upload) (r : Refusal) → closing_by shape m o (refused_by r) ≡ []
refused_none shape m None r = refl
refused_none shape m (Some u) refusal.BadSlot = refl
refused_none shape m (Some u) refusal.SlotTaken = refl
refused_none shape m (Some u) refusal.SlotFree = refl
refused_none shape m (Some u) refusal.BadName = refl
refused_none shape m (Some u) refusal.NameTaken = refl
refused_none shape m (Some u) refusal.NameOpen = refl
refused_none shape m (Some u) (refusal.Full nodes) = refl
refused_none shape m (Some u) refusal.CatalogFull = refl
refused_none shape m (Some u) refusal.UnknownName = refl
refused_none shape m (Some u) refusal.BadRange = refl

-- one that is refused is none
pub refused_closes : (v w : Work) (slot : ℕ) (p : Refusal) → MakesStep closed_by v w (Close slot) (Err p) → ClosesNone v (Close slot)
refused_closes v w slot p makes m kept =
    ap (λ (a : Answer). closing_by v.ledger.shape m (in_slot m slot) a) (makes m kept).answer ∙ refused_none v.ledger.shape m (in_slot m slot) p

-- where the ledger stays, and nothing closes
leaves_quiet : HasOneReading → (reveals : Type 0) (v w : Work) (message : Message) (old new : State) (fault : Type 0) → ClosesNone v message
    → OnlyWrites reveals (IsReady old) (HasTakeRoom v message old) fault (ChangesArchive v.ledger.shape raised_limit (IsBlockIn v.ledger.shape v.heads.lattice.n) (IsBesides v.ledger.shape)) old new
    → ((fault → ⊥) → reveals → KeepsPadded v.ledger.shape (IsBlockIn v.ledger.shape v.heads.lattice.n) old.files new.files)
    → (reveals → LeavesLedger old new) → (made dry : Type 0) → Leaves reveals v w message old new made fault dry
leaves_quiet one reveals v w message old new fault none writes padded ledger made dry = record {
  ledger = λ revealed m kept. inl (adds_none one v m old new writes.earlier (ledger revealed));
  closed = λ _ revealed m c kept is. absurd (let no = sym (none m kept) ∙ is in cc);
  quiet = λ _ revealed. ledger revealed;
  writes = writes;
  padded = padded;
}

-- the disk was not touched
pub leaves_same : HasOneReading → (reveals : Type 0) (v w : Work) (message : Message) (old : State) → ClosesNone v message → (reveals → IsFixed old 0)
    → (made dry : Type 0) → Leaves reveals v w message old old made ⊥ dry
leaves_same one reveals v w message old none fixed made dry =
    leaves_quiet one reveals v w message old old ⊥ none
    (writes_none reveals (IsReady old) (HasTakeRoom v message old) _ old (changes_none v.ledger.shape raised_limit (IsBlockIn v.ledger.shape v.heads.lattice.n) (IsBesides v.ledger.shape)))
    (λ fine revealed. padded_none v.ledger.shape (IsBlockIn v.ledger.shape v.heads.lattice.n) old.files)
    (λ revealed. record { images = during_none old (λ c. c 0 ≡ old.files 0) (fixed revealed); reads = refl }) made dry

-- the space for a message has that for the rows
rows_of : (v : Work) (message : Message) (s : State) → HasTakeRoom v message s → FitsRows v.ledger.shape raised_limit s
rows_of v (Open slot name) s room = record { sites = room.0; sync = room.1 }
rows_of v (Chunk slot bytes) s room = record { sites = room.0; sync = room.1 }
rows_of v (Close slot) s room = record { sites = room.sites; sync = room.sync }
rows_of v (Abort slot) s room = record { sites = room.0; sync = room.1 }
rows_of v (Read name) s room = record { sites = room.0; sync = room.1 }
rows_of v (Patrol first count) s room = record { sites = room.0; sync = room.1 }

-- it was only read
pub leaves_read : HasOneReading → HomesAreOnItsSites → (reveals : Type 0) (v w : Work) (message : Message) (old new : State) (fault : Type 0) → ClosesNone v message → (reveals → IsFixed old 0)
    → OnlyReads reveals fault old new → (made dry : Type 0) → Leaves reveals v w message old new made fault dry
leaves_read one sites reveals v w message old new fault none fixed reads made dry =
    leaves_quiet one reveals v w message old new fault none
    (reads_writes reveals (IsReady old) (HasTakeRoom v message old) fault _ old new (λ is. is) (λ room. rows_roomy sites v.ledger.shape raised_limit old (rows_of v message old room))
    (changes_none v.ledger.shape raised_limit (IsBlockIn v.ledger.shape v.heads.lattice.n) (IsBesides v.ledger.shape)) reads)
    (λ fine revealed. padded_kept v.ledger.shape (IsBlockIn v.ledger.shape v.heads.lattice.n) old.files new.files (reads.contents revealed))
    (λ revealed. record { images = λ t c from to here. fixed revealed c (reads.crash t c from to here); reads = ap (λ (f : Files). f 0) (reads.contents revealed) }) made dry

-- and then nothing is pending on the ledger
pub fixed_read : (reveals fault : Type 0) (old new : State) → reveals → IsFixed old 0 → OnlyReads reveals fault old new → IsFixed new 0
fixed_read reveals fault old new revealed fixed reads c here =
    fixed c (reads.crash new.moment c reads.time.later (omega arith) here) ∙ sym (ap (λ (f : Files). f 0) (reads.contents revealed))

-- cells of new nodes were written
pub leaves_cells : HasOneReading → (reveals : Type 0) (v w : Work) (message : Message) (old new : State) (fault : Type 0) → ClosesNone v message → (reveals → IsFixed old 0)
    → WritesCells reveals v.ledger.shape raised_limit (IsBlockIn v.ledger.shape v.heads.lattice.n) fault old new
    → ((fault → ⊥) → reveals → KeepsPadded v.ledger.shape (IsBlockIn v.ledger.shape v.heads.lattice.n) old.files new.files)
    → (made dry : Type 0) → Leaves reveals v w message old new made fault dry
leaves_cells one reveals v w message old new fault none fixed cells padded made dry =
    let blocks = IsBlockIn v.ledger.shape v.heads.lattice.n in
    leaves_quiet one reveals v w message old new fault none
    (writes_wider reveals (IsReady old) (FitsRows v.ledger.shape raised_limit old) (IsReady old) (HasTakeRoom v message old) fault
    (ChangesArchive v.ledger.shape raised_limit blocks (IsNoSite v.ledger.shape)) (ChangesArchive v.ledger.shape raised_limit blocks (IsBesides v.ledger.shape)) old new
    (λ c d step. changes_less v.ledger.shape raised_limit blocks blocks (IsNoSite v.ledger.shape) (IsBesides v.ledger.shape) c d (λ a is. is) (λ f past. inr past) step)
    (λ _ is. is) (λ _ room. rows_of v message old room) cells)
    padded
    (λ revealed. record {
      images = file_kept reveals (IsReady old) (FitsRows v.ledger.shape raised_limit old) fault v.ledger.shape raised_limit blocks (IsNoSite v.ledger.shape) old new 0 (inl refl) cells (fixed revealed);
      reads = (cells.contents revealed).stay 0 (inl refl);
    }) made dry

-- and then nothing is pending on the ledger
pub fixed_cells : (reveals fault : Type 0) (v : Work) (old new : State) → reveals → IsFixed old 0
    → WritesCells reveals v.ledger.shape raised_limit (IsBlockIn v.ledger.shape v.heads.lattice.n) fault old new → IsFixed new 0
fixed_cells reveals fault v old new revealed fixed cells =
    fixed_kept reveals (IsReady old) (FitsRows v.ledger.shape raised_limit old) fault v.ledger.shape raised_limit (IsBlockIn v.ledger.shape v.heads.lattice.n) (IsNoSite v.ledger.shape) old new 0 revealed (inl refl) cells fixed
