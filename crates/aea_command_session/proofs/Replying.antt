-- The replies of a run, and the space for them.
pub mod Alike
pub mod Going
use Rattle.std.proofs.Common.{◌≡◌, ◌≢◌, ◌⊎◌, ⊎_elim, inl, inr, ℕ, ◌+◌, ◌-◌, ◌<◌, ◌≤◌, List, [], ◌∷◌, ◌++◌, length, replicate, take, Option, Some, Result, Ok, Err, refl, sym, ◌∙◌, ap, subst, arith, length-append}
use Rattle.std.specs.Io.KnownBytes.{Consumes, Appends}
use Rattle.std.proofs.KnownBytes.{Appends-nil, Appends-trans}
use Rattle.std.proofs.lemmas.List.{length-replicate}
use Rattle.std.proofs.lemmas.List.Elements.{All-replicate}
use Rattle.aea_io.specs.Streams.{SinkState}
use Rattle.aea_lattice.specs.declared.shape.Shape.{Shape}
use Rattle.aea_disk.specs.State.{State, IsSynced}
use Rattle.aea_ledger.specs.Values.{Opened, HasSomeRecords, IsThisOne}
use Rattle.aea_archive.specs.Lasts.{AreLastsHonest}
use Rattle.aea_messages.specs.declared.message.Message.{Message}
use Rattle.aea_messages.specs.declared.message.Message.TheVariants.{Open, Chunk, Close, Abort, Read, Patrol}
use Rattle.aea_messages.specs.Messages.{spelled, spelled_all, IsMessage}
use Rattle.aea_machine.specs.Closings.{closing_in}
use Rattle.aea_machine.specs.Machine.{Machine, begun, after}
use Rattle.aea_uploads.specs.Laws.{AreWide}
use Rattle.aea_session.specs.declared.fault.TakeFault.{TakeFault}
use Rattle.aea_session.specs.declared.fault.TakeFault.TheVariants.{Damaged, DiskFault, WriteFault, NoMemory}
use Rattle.aea_session.specs.declared.serving.Stop.{Stop}
use Rattle.aea_session.specs.declared.serving.Stop.TheVariants as stop
use Rattle.aea_session.specs.declared.work.Work.{Work}
use Rattle.aea_session.specs.Looks.{MayBegin, RepliesPart}
use Rattle.aea_session.specs.Serving.{greatest_messages, EndsThere, ServesAll, TailOf}
use Rattle.aea_session.specs.Stands.{KeepsMachine, StandsFor}
use Rattle.aea_command_session.specs.Session.{Serves}
use Rattle.aea_command_session.specs.Space.{BeginsWith, FitsSo, FitsAnswers, greatest_replies}
use Rattle.aea_command_session.specs.Standing.{Standing, standing, IsHonestFor, MayTell, EndsWith, EndsIn, PrintsReplies}
use Rattle.aea_command_session.proofs.Began.{Began}
use Rattle.aea_command_session.proofs.Replying.Alike.{greatest_for, most_alike}
use Rattle.aea_command_session.proofs.Replying.Going.{stands_at, leaves_xw, kept_all, replied_all, long_all, greatest_more}
use Rattle.aea_command_session.proofs.Writing.Prefixes.{taken_first, are_more, spelled_more}

-- ---- what stands behind the replies

-- some first bytes were appended, or none
abbrev HasPart : Type 0 → Standing → List ℕ → Result (Unit {0}) Stop → SinkState → SinkState → Type 0
HasPart reveals u tail result before then = (part : List ℕ) × EndsWith reveals u tail result part × Appends before.written then.written part

module _ (reveals : Type 0) {D : Type 0} (state : D → State) (here x : Work) (there e : D) (tail : List ℕ) (mid then : SinkState) (m : Machine) (keeps : KeepsMachine here m) where
  -- nothing came
  part_none : then ≡ mid → Appends mid.written then.written []
  part_none none = subst (λ (s : SinkState). Appends mid.written s.written []) (sym none) (Appends-nil mid.written)

  -- of the reply to the message that was not taken
  part_taken : (fault : TakeFault) → EndsThere reveals state here x there e tail mid then (Err (stop.Taken fault)) → HasPart reveals (stands_at m here (state there).files) tail (Err (stop.Taken fault)) mid then
  part_taken fault last = ⊎_elim
      (λ (none : then ≡ mid). part_nothing fault last none)
      (λ (some : RepliesPart (MayBegin reveals here.ledger m (state there).files last.0) mid then). ⊎_elim
      (λ (tells : MayTell fault (stands_at m here (state there).files) last.0).
      (take some.2.0 some.0, (last.0, last.1, last.2, inr (some.0, some.2.0, some.1, some.2.1, refl, tells)), some.2.2))
      (λ (none : then ≡ mid). part_nothing fault last none)
      (may_tell fault last.0 last.3.unsaid))
      (last.3.part m keeps)
    where
      part_nothing : (fault : TakeFault) → EndsThere reveals state here x there e tail mid then (Err (stop.Taken fault)) → then ≡ mid → HasPart reveals (stands_at m here (state there).files) tail (Err (stop.Taken fault)) mid then
      part_nothing fault last none = ([], (last.0, last.1, last.2, inl refl), part_none none)

      -- a message is a close, or closes nothing
      close_or : (message : Message) → ((slot : ℕ) × (message ≡ Close slot)) ⊎ (closing_in here.ledger.shape m message ≡ [])
      close_or (Open slot name) = inr refl
      close_or (Chunk slot bytes) = inr refl
      close_or (Close slot) = inl (slot, refl)
      close_or (Abort slot) = inr refl
      close_or (Read name) = inr refl
      close_or (Patrol first count) = inr refl

      quiet_or : (fault : TakeFault) → fault ≢ WriteFault → (message : Message) → (fault ≢ WriteFault → (slot : ℕ) → message ≡ Close slot → then ≡ mid) → (closing_in here.ledger.shape m message ≡ []) ⊎ (then ≡ mid)
      quiet_or fault fine message unsaid = elim (close_or message) [
        | inl close ↦ inr (unsaid fine close.0 close.1)
        | inr none ↦ inl none
      ]

      may_tell : (fault : TakeFault) (message : Message) → (fault ≢ WriteFault → (slot : ℕ) → message ≡ Close slot → then ≡ mid) → MayTell fault (stands_at m here (state there).files) message ⊎ (then ≡ mid)
      may_tell WriteFault message unsaid = inl tt
      may_tell (Damaged b) message unsaid = quiet_or (Damaged b) (λ is. cc) message unsaid
      may_tell DiskFault message unsaid = quiet_or DiskFault (λ is. cc) message unsaid
      may_tell NoMemory message unsaid = quiet_or NoMemory (λ is. cc) message unsaid

  -- the files at the end, by the result: those there, or files that have the blocks of X and W as they were
  pub rests_any : reveals → (result : Result (Unit {0}) Stop) → EndsThere reveals state here x there e tail mid then result → EndsIn (stands_at m here (state there).files) result (state e).files
  rests_any revealed (Ok u) last = ap (λ (y : D). (state y).files) last.1
  rests_any revealed (Err (stop.BadMessage at)) last = ap (λ (y : D). (state y).files) last.1
  rests_any revealed (Err (stop.BadStream at)) last = ap (λ (y : D). (state y).files) last.1
  rests_any revealed (Err stop.TooManyMessages) last = ap (λ (y : D). (state y).files) last.1
  rests_any revealed (Err stop.Input) last = ap (λ (y : D). (state y).files) last.1
  rests_any revealed (Err stop.Memory) last = ap (λ (y : D). (state y).files) last.1
  rests_any revealed (Err (stop.Taken fault)) last = leaves_xw here m (state there).files (state e).files keeps (last.3.leaves.writes.contents revealed)

  -- by the result
  part_any : (result : Result (Unit {0}) Stop) → EndsThere reveals state here x there e tail mid then result → HasPart reveals (stands_at m here (state there).files) tail result mid then
  part_any (Ok u) last = ([], refl, part_none last.2)
  part_any (Err (stop.BadMessage at)) last = ([], refl, part_none last.2)
  part_any (Err (stop.BadStream at)) last = ([], refl, part_none last.2)
  part_any (Err stop.TooManyMessages) last = ([], refl, part_none last.2)
  part_any (Err stop.Input) last = ([], refl, part_none last.2)
  part_any (Err stop.Memory) last = ([], refl, part_none last.2)
  part_any (Err (stop.Taken fault)) last = part_taken fault last

-- ---- the run

module _ (reveals : Type 0) {D : Type 0} (state : D → State) (v : Opened) (w x : Work) (old : State) (d e : D) (left rest : Option (List ℕ)) (before then : SinkState) (result : Result (Unit {0}) Stop)
    (began : Began reveals v w old (state d)) (run : ServesAll reveals state w x d e left rest before then result) where
  -- the state of the machine at its end, over some data list
  abbrev machine_there : List (List ℕ) → Machine
  machine_there datas = after w.ledger.shape (begun datas v.objects) run.handled

  -- where the run begins, over some data list
  abbrev first_of : List (List ℕ) → Opened → Standing
  first_of datas o = record { machine = begun datas v.objects; ledger = o; files = (state d).files }

  -- the session stands for X where the archive records it, and the last parities are honest for it
  stands_first : (datas : List (List ℕ)) → reveals × IsHonestFor (first_of datas w.ledger) → StandsFor w (begun datas v.objects)
  stands_first datas is =
      let at : IsHonestFor (first_of datas v) = subst (λ (o : Opened). IsHonestFor (first_of datas o)) began.ledger is.1 in
      began.stands is.0 at.0.0 datas at.0.1 at.0.2 (subst (AreLastsHonest v.shape v.lattice v.digests datas) (began.reads.contents is.0) at.1)

  -- the replies over any data list
  prints_all : (reveals → IsThisOne v (old.files 0)) → (datas : List (List ℕ)) → length datas ≡ v.lattice.n → AreWide v.shape datas
      → PrintsReplies reveals (standing v datas (state d).files) run.handled run.tail before then result (state e).files
  prints_all this datas long wide =
      let m : Machine = begun datas v.objects in
      let keeps = began.keeps datas long wide in
      let served = run.served m keeps in
      let kept = kept_all reveals state m w run.here d run.there run.handled served.0 keeps served.1 in
      let part = part_any reveals state run.here x run.there e run.tail run.mid then (machine_there datas) kept.0 result run.last in
      subst (λ (o : Opened). PrintsReplies reveals (first_of datas o) run.handled run.tail before then result (state e).files) began.ledger
      (record {
        last = stands_at (machine_there datas) run.here (state run.there).files;
        bytes = served.0;
        part = part.0;
        replied = replied_all reveals state (reveals × IsHonestFor (first_of datas w.ledger)) m w run.here d run.there run.handled served.0 keeps (λ revealed. (began.this revealed (this revealed)).ledger) (stands_first datas) served.1;
        ends = part.1;
        appended = Appends-trans before.written run.mid.written then.written served.0 part.0 served.2 part.2;
        there = λ revealed. rests_any reveals state run.here x run.there e run.tail run.mid then (machine_there datas) kept.0 revealed result run.last;
      })

  -- ---- the space

  -- some data list with as many blocks as there are nodes: of zeros
  abbrev zeros : List (List ℕ)
  zeros = replicate v.lattice.n (replicate v.shape.block 0)

  -- it is one: so long, and of blocks
  zeros_long : length zeros ≡ v.lattice.n
  zeros_long = length-replicate v.lattice.n (replicate v.shape.block 0)

  zeros_wide : AreWide v.shape zeros
  zeros_wide = All-replicate (λ (b : List ℕ). length b ≡ v.shape.block) v.lattice.n (replicate v.shape.block 0) (length-replicate v.shape.block 0)

  -- the machine over it at the beginning, which the session keeps
  abbrev start : Machine
  start = begun zeros v.objects

  keeps_start : KeepsMachine w start
  keeps_start = began.keeps zeros zeros_long zeros_wide

  -- the space where the next message would be taken, where there was so much for the messages and more
  room_there : (room more : ℕ) → before.room ≡ Some room → greatest_replies w.ledger.shape start run.handled + more ≤ room → (space : ℕ) × (run.mid.room ≡ Some space) × (more ≤ space)
  room_there room more revealed enough =
      let served = run.served start keeps_start in
      let most = long_all reveals state start w run.here d run.there run.handled served.0 served.1 in
      (room - length served.0, served.3 room revealed (omega (arith, most, enough)), omega (arith, most, enough))

  -- the source begins with the messages that were taken
  begins_there : BeginsWith left run.handled
  begins_there =
      let first = taken_first left rest (spelled_all run.handled) run.tail run.taken in
      record { are = run.are; few = run.most; rest = first.0; taken = first.1 }

  -- and with the next one, where it was read
  begins_next : (message : Message) → IsMessage message → run.tail ≡ spelled message → length run.handled < greatest_messages → BeginsWith left (run.handled ++ message ∷ [])
  begins_next message is read few = record {
    are = are_more run.handled message run.are is;
    few = omega (arith, few, length-append run.handled (message ∷ []));
    rest = rest;
    taken = subst (Consumes left rest) (ap (λ (l : List ℕ). spelled_all run.handled ++ l) read ∙ spelled_more run.handled message) run.taken;
  }

  -- the session has the archive's shape
  same_shape : v.shape ≡ w.ledger.shape
  same_shape = ap (λ (o : Opened). o.shape) (sym began.ledger)

  -- the space for the replies over this shape
  fits_at : FitsAnswers v left before → (messages : List Message) → BeginsWith left messages → FitsSo before (greatest_replies w.ledger.shape start messages)
  fits_at fits messages begins = subst (λ (s : Shape). FitsSo before (greatest_replies s start messages)) same_shape (fits zeros zeros_long zeros_wide messages begins)

  -- the message that was not taken did not fail for want of space
  fits_taken : FitsAnswers v left before → (fault : TakeFault) → TailOf rest (length (spelled_all run.handled)) (length run.handled) run.tail (Err (stop.Taken fault))
      → EndsThere reveals state run.here x run.there e run.tail run.mid then (Err (stop.Taken fault)) → fault ≢ WriteFault
  fits_taken fits fault ends last is =
      let other : Message = ends.0 in
      let m : Machine = machine_there zeros in
      let fit = fits_at fits (run.handled ++ other ∷ []) (begins_next other ends.1 ends.2 ends.3) in
      let all = greatest_more w.ledger.shape start run.handled other in
      let enough = fit.enough in
      let space = room_there fit.room (greatest_for w.ledger.shape m other) fit.revealed (omega (arith, all, enough)) in
      let served = run.served start keeps_start in
      let kept = kept_all reveals state start w run.here d run.there run.handled served.0 keeps_start served.1 in
      let alike = most_alike w.ledger.shape m last.0 other ends.1 (sym last.2 ∙ ends.2) in
      let most = space.2 in
      last.3.in_room space.0 space.1 m kept.0 (subst (λ (s : Shape). greatest_for s m last.0 ≤ space.0) (sym kept.1) (omega (arith, alike, most))) (ap Err is)

  -- nor did a run that came to the end of the input hide the space
  revealed_at_end : FitsAnswers v left before → EndsThere reveals state run.here x run.there e run.tail run.mid then (Ok tt) → (room : ℕ) × (then.room ≡ Some room)
  revealed_at_end fits last =
      let fit = fits_at fits run.handled begins_there in
      let enough = fit.enough in
      let space = room_there fit.room 0 fit.revealed (omega (arith, enough)) in
      (space.0, subst (λ (s : SinkState). s.room ≡ Some space.0) (sym last.2) space.1)

-- What was printed are the replies of the messages, each over the files as they stand at its step.
pub serves_all : (reveals : Type 0) {D : Type 0} (state : D → State) (v : Opened) (w x : Work) (old : State) (d e : D) (left rest : Option (List ℕ)) (before then : SinkState) (result : Result (Unit {0}) Stop)
    → HasSomeRecords v → (reveals → IsThisOne v (old.files 0)) → (reveals → IsSynced old) → Began reveals v w old (state d)
    → (run : ServesAll reveals state w x d e left rest before then result) → Serves reveals v (state d).files (state e).files left rest before then run.handled run.tail result
serves_all reveals state v w x old d e left rest before then result some this synced began run = record {
  are = run.are;
  few = run.most;
  taken = run.taken;
  ends = run.ends;
  prints = prints_all reveals state v w x old d e left rest before then result began run this;
}

-- Where the output has space for the replies to each first messages of the source, it does not fail.
pub answers_fit : (reveals : Type 0) {D : Type 0} (state : D → State) (v : Opened) (w x : Work) (old : State) (d e : D) (left rest : Option (List ℕ)) (before then : SinkState) (result : Result (Unit {0}) Stop)
    → HasSomeRecords v → (reveals → IsThisOne v (old.files 0)) → (reveals → IsSynced old) → Began reveals v w old (state d)
    → (run : ServesAll reveals state w x d e left rest before then result) → FitsAnswers v left before → result ≢ Err (stop.Taken WriteFault)
answers_fit reveals {D} state v w x old d e left rest before then result some this synced began run fits is =
    fits_taken reveals state v w x old d e left rest before then result began run fits WriteFault
    (subst (λ (r : Result (Unit {0}) Stop). TailOf rest (length (spelled_all run.handled)) (length run.handled) run.tail r) is run.ends)
    (subst (λ (r : Result (Unit {0}) Stop). EndsThere reveals state run.here x run.there e run.tail run.mid then r) is run.last) refl

-- And after a run that came to the end of the input its space is known.
pub answers_revealed : (reveals : Type 0) {D : Type 0} (state : D → State) (v : Opened) (w x : Work) (old : State) (d e : D) (left rest : Option (List ℕ)) (before then : SinkState) (result : Result (Unit {0}) Stop)
    → HasSomeRecords v → (reveals → IsThisOne v (old.files 0)) → (reveals → IsSynced old) → Began reveals v w old (state d)
    → (run : ServesAll reveals state w x d e left rest before then result) → FitsAnswers v left before → result ≡ Ok tt → (room : ℕ) × (then.room ≡ Some room)
answers_revealed reveals {D} state v w x old d e left rest before then result some this synced began run fits well =
    revealed_at_end reveals state v w x old d e left rest before then result began run fits
    (subst (λ (r : Result (Unit {0}) Stop). EndsThere reveals state run.here x run.there e run.tail run.mid then r) well run.last)
