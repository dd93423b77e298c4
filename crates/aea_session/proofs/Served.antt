-- Messages that are taken one after the other, and how a run over them ends.
use Rattle.std.proofs.Common.{◌≡◌, ◌⊎◌, inl, inr, ℕ, ◌+◌, ◌*◌, ◌<◌, ◌≤◌, List, [], ◌∷◌, ◌++◌, length, Option, None, Some, Ok, Err, IsOk, refl, sym, ◌∙◌, ap, subst, arith, length-append, append_assoc}
use Rattle.std.specs.Io.KnownBytes.{Appends}
use Rattle.std.specs.Int.{w16, w32, to_be_bytes}
use Rattle.std.proofs.KnownBytes.{Consumes-nil, Consumes-trans, Appends-nil, Appends-trans}
use Rattle.std.proofs.lemmas.List.{append-nil}
use Rattle.std.proofs.lemmas.List.Concat.{flat_map-append}
use Rattle.aea_io.specs.Streams.{SinkState}
use Rattle.aea_io.specs.Taken.{Took}
use Rattle.aea_io.specs.Written.{IsFlushed}
use Rattle.aea_lattice.specs.declared.shape.Shape.{Shape}
use Rattle.aea_disk.specs.State.{State, IsReady}
use Rattle.aea_disk.proofs.Frames.{writes_as}
use Rattle.aea_records.specs.Format.{raised_limit}
use Rattle.aea_archive.specs.Blocks.{IsBlockIn}
use Rattle.aea_archive.specs.Cells.{IsBesides, ChangesArchive}
use Rattle.aea_messages.specs.declared.message.Message.{Message}
use Rattle.aea_messages.specs.declared.message.Message.TheVariants.{Open, Chunk, Close, Abort, Read, Patrol}
use Rattle.aea_messages.specs.Messages.{spelled, spelled_all, IsMessage, AreMessages}
use Rattle.aea_machine.specs.Machine.{Machine, step, after}
use Rattle.aea_session.specs.declared.fault.TakeFault.{TakeFault}
use Rattle.aea_session.specs.declared.fault.TakeFault.TheVariants.{DiskFault, WriteFault, NoMemory}
use Rattle.aea_session.specs.declared.serving.Stop.{Stop}
use Rattle.aea_session.specs.declared.serving.Stop.TheVariants as stop
use Rattle.aea_session.specs.declared.work.Work.{Work}
use Rattle.aea_session.specs.Looks.{TakesSpace}
use Rattle.aea_session.specs.Stands.{KeepsMachine}
use Rattle.aea_session.specs.Takes.{HasTakeRoom, Leaves, Takes}
use Rattle.aea_session.specs.Serving.{greatest_messages, Answers, HasServed, ReadsNext, TailOf, EndsThere, ServesAll}
use Rattle.aea_session.proofs.Spaces.{space_none, space_joined}

-- ---- lists of messages

spelled_more : (messages : List Message) (message : Message) → spelled_all messages ++ spelled message ≡ spelled_all (messages ++ message ∷ [])
spelled_more messages message = ap (λ (l : List ℕ). spelled_all messages ++ l) (sym (append-nil (spelled message))) ∙ sym (flat_map-append spelled messages (message ∷ []))

-- a message has at most so many bytes: those of a chunk
message_long : (message : Message) → IsMessage message → length (spelled message) ≤ 65542
message_long (Open slot name) is = omega (arith, is.fields.2, length-append (to_be_bytes w16 (length name)) name)
message_long (Chunk slot bytes) is = omega (arith, is.short, length-append (to_be_bytes w32 (length bytes)) bytes)
message_long (Close slot) is = omega arith
message_long (Abort slot) is = omega arith
message_long (Read name) is = omega (arith, is.fields.1, length-append (to_be_bytes w16 (length name)) name)
message_long (Patrol first count) is = omega (arith, length-append (to_be_bytes w32 first) (to_be_bytes w32 count))

are_more : (messages : List Message) (message : Message) → AreMessages messages → IsMessage message → AreMessages (messages ++ message ∷ [])
are_more [] message are is = (is, tt)
are_more (first ∷ messages) message are is = (are.0, are_more messages message are.1 is)

-- the machine after one message more
after_more : (shape : Shape) (m : Machine) (messages : List Message) (message : Message) → after shape m (messages ++ message ∷ []) ≡ (step shape (after shape m messages) message).state
after_more shape m [] message = refl
after_more shape m (first ∷ messages) message = after_more shape (step shape m first).state messages message

-- what was taken in two parts was taken as a whole
took_both : (left mid rest : Option (List ℕ)) (before now then : ℕ) (bs cs : List ℕ) → Took left mid before now bs → Took mid rest now then cs → Took left rest before then (bs ++ cs)
took_both left mid rest before now then bs cs p q = record { taken = Consumes-trans left mid rest bs cs p.taken q.taken; counted = omega (arith, p.counted, q.counted, length-append bs cs) }

-- ---- a message that was taken

-- what is left of the disk where there is no fault
pub leaves_fine : (reveals : Type 0) (v w : Work) (message : Message) (old new : State) (made fault dry : Type 0) → made → (fault → ⊥)
    → Leaves reveals v w message old new made fault dry → Leaves reveals v w message old new (Unit {0}) ⊥ ⊥
leaves_fine reveals v w message old new made fault dry is fine leaves = record {
  ledger = leaves.ledger;
  closed = λ _. leaves.closed is;
  quiet = λ none. absurd none;
  writes = writes_as reveals (IsReady old) (HasTakeRoom v message old) fault ⊥
      (ChangesArchive v.ledger.shape raised_limit (IsBlockIn v.ledger.shape v.heads.lattice.n) (IsBesides v.ledger.shape)) old new (λ none. absurd none) fine leaves.writes;
  padded = λ _. leaves.padded fine;
}

-- the reply and the step, in each state of the machine that the session kept
pub taken_answers : (reveals : Type 0) (v w : Work) (message : Message) (old new : State) (before then : SinkState) (code : ℕ) (m : Machine) → KeepsMachine v m
    → Takes reveals v w message old new before then (Ok code)
    → (reply : List ℕ) × Answers reveals m v w message old new code reply × Appends before.written then.written reply × TakesSpace before then (length reply)
taken_answers reveals v w message old new before then code m keeps takes =
    let replied = takes.replies m keeps in (
      replied.0,
      record {
        is_reply = replied.1;
        moves = takes.moves;
        leaves = leaves_fine reveals v w message old new (IsOk {E = TakeFault} (Ok code) ⊎ (Ok code ≡ Err WriteFault)) (Ok code ≡ Err DiskFault) (Ok code ≡ Err NoMemory) (inl refl) (λ is. absurd (cc)) takes.leaves;
      },
      replied.2,
      replied.3,
    )

-- ---- the messages so far

module _ (reveals : Type 0) {D : Type 0} (state : D → State) where
  -- one more was taken
  pub served_more : (m : Machine) (v u w : Work) (d e f : D) (messages : List Message) (bytes : List ℕ) (message : Message) (code : ℕ) (reply : List ℕ)
      → HasServed reveals state m v d messages bytes u e → Answers reveals (after v.ledger.shape m messages) u w message (state e) (state f) code reply
      → HasServed reveals state m v d (messages ++ message ∷ []) (bytes ++ reply) w f
  served_more m v u w d e f [] bytes message code reply served answers = (
    w,
    f,
    code,
    reply,
    [],
    subst (λ (x : D). Answers reveals m v w message (state x) (state f) code reply) served.1
        (subst (λ (x : Work). Answers reveals m x w message (state e) (state f) code reply) served.0 answers),
    ap (λ (l : List ℕ). l ++ reply) served.2 ∙ sym (append-nil reply),
    (refl, refl, refl),
  )
  served_more m v u w d e f (first ∷ messages) bytes message code reply served answers = (
    served.0,
    served.1,
    served.2,
    served.3,
    served.4 ++ reply,
    served.5,
    ap (λ (l : List ℕ). l ++ reply) served.6 ∙ append_assoc served.3 served.4 reply,
    served_more (step v.ledger.shape m first).state served.0 u w served.1 e f messages served.4 message code reply served.7
        (subst (λ (s : Shape). Answers reveals (after s (step v.ledger.shape m first).state messages) u w message (state e) (state f) code reply) (sym served.5.moves.shape) answers),
  )

  -- what became of a machine that the session kept at the beginning
  abbrev pub HasTraced : Machine → Work → Work → D → D → SinkState → SinkState → List Message → Type 0
  HasTraced m v w d e before now messages =
      (bytes : List ℕ) × HasServed reveals state m v d messages bytes w e × KeepsMachine w (after v.ledger.shape m messages) × Appends before.written now.written bytes
      × TakesSpace before now (length bytes)

  -- What a run has done so far.
  pub record HasGone (v w : Work) (d e : D) (left rest : Option (List ℕ)) (before now : SinkState) (count at : ℕ) : Type 0 where
    pub messages : List Message
    pub shape : w.ledger.shape ≡ v.ledger.shape
    pub served : (m : Machine) → KeepsMachine v m → HasTraced m v w d e before now messages
    pub flushed : ((messages ≡ []) × (now ≡ before)) ⊎ IsFlushed now
    pub are : AreMessages messages
    pub counted : count ≡ length messages
    pub took : Took left rest 0 at (spelled_all messages)
    pub few : count ≤ greatest_messages
    pub long : at ≤ count * 65542

  pub gone_none : (v : Work) (d : D) (left : Option (List ℕ)) (before : SinkState) → HasGone v v d d left left before before 0 0
  gone_none v d left before = record {
    messages = [];
    shape = refl;
    served = λ m keeps. ([], (refl, refl, refl), keeps, Appends-nil before.written, space_none before);
    flushed = inl (refl, refl);
    are = tt;
    counted = refl;
    took = record { taken = Consumes-nil left; counted = omega arith };
    few = omega arith;
    long = omega arith;
  }

  -- the trace with one message more
  traced_more : (m : Machine) (v u w : Work) (d e f : D) (before now then : SinkState) (messages : List Message) (message : Message) (code : ℕ)
      → u.ledger.shape ≡ v.ledger.shape → HasTraced m v u d e before now messages → Takes reveals u w message (state e) (state f) now then (Ok code)
      → HasTraced m v w d f before then (messages ++ message ∷ [])
  traced_more m v u w d e f before now then messages message code same gone takes =
      let k : Machine = after v.ledger.shape m messages in
      let answered = taken_answers reveals u w message (state e) (state f) now then code k gone.2 takes in (
        gone.0 ++ answered.0,
        served_more m v u w d e f messages gone.0 message code answered.0 gone.1 answered.1,
        subst (KeepsMachine w) (ap (λ (s : Shape). (step s k message).state) same ∙ sym (after_more v.ledger.shape m messages message)) (takes.moves.keeps k gone.2),
        Appends-trans before.written now.written then.written gone.0 answered.0 gone.3 answered.2,
        space_joined before now then gone.0 answered.0 gone.4 answered.3,
      )

  -- and with the next message
  pub gone_more : (v u w : Work) (d e f : D) (left rest more : Option (List ℕ)) (before now then : SinkState) (count at next : ℕ) (message : Message) (code : ℕ)
      → HasGone v u d e left rest before now count at
      → ReadsNext rest more at next count (Ok (Some message)) → Takes reveals u w message (state e) (state f) now then (Ok code)
      → HasGone v w d f left more before then (count + 1) next
  gone_more v u w d e f left rest more before now then count at next message code gone reads takes = record {
    messages = gone.messages ++ message ∷ [];
    shape = takes.moves.shape ∙ gone.shape;
    served = λ m keeps. traced_more m v u w d e f before now then gone.messages message code gone.shape (gone.served m keeps) takes;
    flushed = inr takes.flushed;
    are = are_more gone.messages message gone.are reads.0;
    counted = omega (arith, gone.counted, length-append gone.messages (message ∷ []));
    took = subst (Took left more 0 next) (spelled_more gone.messages message) (took_both left rest more 0 at next (spelled_all gone.messages) (spelled message) gone.took reads.1);
    few = omega (arith, reads.2);
    long = omega (arith, gone.long, reads.1.counted, message_long message reads.0);
  }

  start_is : (v w : Work) (d e : D) (left rest : Option (List ℕ)) (before now : SinkState) (count at : ℕ) (gone : HasGone v w d e left rest before now count at) → at ≡ length (spelled_all gone.messages)
  start_is v w d e left rest before now count at gone = omega (arith, gone.took.counted)

  -- ---- how it ends

  pub ends_well : (v w : Work) (d e : D) (left rest more : Option (List ℕ)) (before now : SinkState) (count at next : ℕ) → HasGone v w d e left rest before now count at
      → ReadsNext rest more at next count (Ok None) → ServesAll reveals state v w d e left more before now (Ok tt)
  ends_well v w d e left rest more before now count at next gone reads = record {
    handled = gone.messages;
    are = gone.are;
    most = omega (arith, gone.counted, gone.few);
    tail = [];
    taken = Consumes-trans left rest more (spelled_all gone.messages) [] gone.took.taken reads.0.taken;
    ends = (refl, reads.1);
    here = w;
    there = e;
    mid = now;
    served = λ m keeps. let traced = gone.served m keeps in (traced.0, traced.1, traced.3, traced.4);
    flushed = gone.flushed;
    last = (refl, refl, refl);
  }

  -- the bytes that were taken of the next message
  tail_of : (rest more : Option (List ℕ)) (at next count : ℕ) (fault : Stop) → ReadsNext rest more at next count (Err fault) → List ℕ
  tail_of rest more at next count (stop.BadMessage place) reads = reads.0
  tail_of rest more at next count (stop.BadStream place) reads = reads.0
  tail_of rest more at next count stop.TooManyMessages reads = spelled reads.0
  tail_of rest more at next count stop.Input reads = reads.0
  tail_of rest more at next count stop.Memory reads = reads.0
  tail_of rest more at next count (stop.Taken fault) reads = absurd reads

  tail_took : (rest more : Option (List ℕ)) (at next count : ℕ) (fault : Stop) (reads : ReadsNext rest more at next count (Err fault)) → Took rest more at next (tail_of rest more at next count fault reads)
  unfolding tail_of
  tail_took rest more at next count (stop.BadMessage place) reads = reads.1
  tail_took rest more at next count (stop.BadStream place) reads = reads.1
  tail_took rest more at next count stop.TooManyMessages reads = reads.2
  tail_took rest more at next count stop.Input reads = reads.1
  tail_took rest more at next count stop.Memory reads = reads.1
  tail_took rest more at next count (stop.Taken fault) reads = absurd reads

  tail_ends : (rest more : Option (List ℕ)) (at next count start : ℕ) (fault : Stop) (reads : ReadsNext rest more at next count (Err fault)) → at ≡ start → count ≤ greatest_messages
      → TailOf more start count (tail_of rest more at next count fault reads) (Err fault)
  unfolding tail_of
  tail_ends rest more at next count start (stop.BadMessage place) reads is few = (reads.2.0, reads.2.1, reads.2.2 ∙ ap (λ (k : ℕ). k + reads.2.0) is)
  tail_ends rest more at next count start (stop.BadStream place) reads is few = (reads.2, reads.3, reads.4 ∙ (let e : next ≡ start + length reads.0 = omega (arith, reads.1.counted, is) in e))
  tail_ends rest more at next count start stop.TooManyMessages reads is few = (reads.0, reads.1, refl, (let e : count ≡ greatest_messages = omega (arith, reads.3, few) in e))
  tail_ends rest more at next count start stop.Input reads is few = reads.2
  tail_ends rest more at next count start stop.Memory reads is few = reads.2
  tail_ends rest more at next count start (stop.Taken fault) reads is few = absurd reads

  -- nothing came after the messages
  last_none : (w : Work) (e : D) (rest more : Option (List ℕ)) (at next count : ℕ) (tail : List ℕ) (now : SinkState) (fault : Stop) → ReadsNext rest more at next count (Err fault)
      → EndsThere reveals state w w e e tail now now (Err fault)
  last_none w e rest more at next count tail now (stop.BadMessage place) reads = (refl, refl, refl)
  last_none w e rest more at next count tail now (stop.BadStream place) reads = (refl, refl, refl)
  last_none w e rest more at next count tail now stop.TooManyMessages reads = (refl, refl, refl)
  last_none w e rest more at next count tail now stop.Input reads = (refl, refl, refl)
  last_none w e rest more at next count tail now stop.Memory reads = (refl, refl, refl)
  last_none w e rest more at next count tail now (stop.Taken fault) reads = absurd reads

  pub ends_early : (v w : Work) (d e : D) (left rest more : Option (List ℕ)) (before now : SinkState) (count at next : ℕ) (fault : Stop) → HasGone v w d e left rest before now count at
      → ReadsNext rest more at next count (Err fault) → ServesAll reveals state v w d e left more before now (Err fault)
  ends_early v w d e left rest more before now count at next fault gone reads = record {
    handled = gone.messages;
    are = gone.are;
    most = omega (arith, gone.counted, gone.few);
    tail = tail_of rest more at next count fault reads;
    taken = Consumes-trans left rest more (spelled_all gone.messages) (tail_of rest more at next count fault reads) gone.took.taken (tail_took rest more at next count fault reads).taken;
    ends = subst (λ (k : ℕ). TailOf more (length (spelled_all gone.messages)) k (tail_of rest more at next count fault reads) (Err fault)) gone.counted
        (tail_ends rest more at next count (length (spelled_all gone.messages)) fault reads (start_is v w d e left rest before now count at gone) gone.few);
    here = w;
    there = e;
    mid = now;
    served = λ m keeps. let traced = gone.served m keeps in (traced.0, traced.1, traced.3, traced.4);
    flushed = gone.flushed;
    last = last_none w e rest more at next count (tail_of rest more at next count fault reads) now fault reads;
  }

  pub ends_taken : (v u w : Work) (d e f : D) (left rest more : Option (List ℕ)) (before now then : SinkState) (count at next : ℕ) (message : Message) (fault : TakeFault) → HasGone v u d e left rest before now count at
      → ReadsNext rest more at next count (Ok (Some message)) → Takes reveals u w message (state e) (state f) now then (Err fault) → ServesAll reveals state v w d f left more before then (Err (stop.Taken fault))
  ends_taken v u w d e f left rest more before now then count at next message fault gone reads takes = record {
    handled = gone.messages;
    are = gone.are;
    most = omega (arith, gone.counted, gone.few);
    tail = spelled message;
    taken = Consumes-trans left rest more (spelled_all gone.messages) (spelled message) gone.took.taken reads.1.taken;
    ends = (message, reads.0, refl, (let few : length gone.messages < greatest_messages = omega (arith, gone.counted, reads.2) in few));
    here = u;
    there = e;
    mid = now;
    served = λ m keeps. let traced = gone.served m keeps in (traced.0, traced.1, traced.3, traced.4);
    flushed = gone.flushed;
    last = (message, reads.0, refl, takes);
  }
