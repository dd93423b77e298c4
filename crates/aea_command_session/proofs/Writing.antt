-- What a run writes, and the space for it.
pub mod Entries
pub mod Prefixes
pub mod Steps
pub mod Rooming
pub mod Going
use Rattle.std.proofs.Common.{◌≡◌, ℕ, true, List, [], ◌∷◌, ◌++◌, length, replicate, Option, Result, Ok, Err, refl, sym, ◌∙◌, ap, subst, arith, append_assoc, length-append}
use Rattle.std.specs.Io.KnownBytes.{Consumes}
use Rattle.std.proofs.lemmas.List.{append-nil, length-replicate}
use Rattle.std.proofs.lemmas.List.Elements.{All-replicate}
use Rattle.aea_io.specs.Streams.{SinkState}
use Rattle.aea_disk.specs.Ends.{EndsAt}
use Rattle.aea_disk.specs.Frames.{OnlyWrites}
use Rattle.aea_disk.specs.State.{State, IsReady}
use Rattle.aea_disk.proofs.Frames.{writes_as}
use Rattle.aea_records.specs.Format.{limit_when}
use Rattle.aea_ledger.specs.Values.{Opened, HasSomeRecords, IsThisOne}
use Rattle.aea_archive.specs.Blocks.{IsBlockIn}
use Rattle.aea_archive.specs.Cells.{IsBesides, ChangesArchive}
use Rattle.aea_messages.specs.declared.message.Message.{Message}
use Rattle.aea_messages.specs.declared.message.Message.TheVariants.{Open, Chunk, Close, Abort, Read, Patrol}
use Rattle.aea_messages.specs.Messages.{spelled, spelled_all, IsMessage}
use Rattle.aea_machine.specs.Closings.{Closing, closing_in}
use Rattle.aea_machine.specs.Machine.{Machine, begun, step}
use Rattle.aea_uploads.specs.Laws.{AreWide}
use Rattle.aea_session.specs.declared.fault.TakeFault.{TakeFault}
use Rattle.aea_session.specs.declared.fault.TakeFault.TheVariants.{DiskFault}
use Rattle.aea_session.specs.declared.serving.Stop.{Stop}
use Rattle.aea_session.specs.declared.serving.Stop.TheVariants as stop
use Rattle.aea_session.specs.declared.work.Work.{Work}
use Rattle.aea_session.specs.Serving.{HasServed, ServesAll, EndsThere, TailOf}
use Rattle.aea_command_store.proofs.PutLemmas.Opening.{changes}
use Rattle.aea_command_session.specs.Space.{BeginsWith, FitsMessages}
use Rattle.aea_command_session.proofs.Began.{Began}
use Rattle.aea_command_session.proofs.Writing.Going.{HasWritten, written_none, written_more, writes_next}
use Rattle.aea_command_session.proofs.Writing.Prefixes.{taken_first, begins_first, are_more, spelled_more, close_is}

-- ---- some data list with as many blocks as there are nodes: of zeros

zeros : Opened → List (List ℕ)
zeros v = replicate v.lattice.n (replicate v.shape.block 0)

zeros_long : (v : Opened) → length (zeros v) ≡ v.lattice.n
unfolding zeros
zeros_long v = length-replicate v.lattice.n (replicate v.shape.block 0)

zeros_wide : (v : Opened) → AreWide v.shape (zeros v)
unfolding zeros
zeros_wide v = All-replicate (λ (d : List ℕ). length d ≡ v.shape.block) v.lattice.n (replicate v.shape.block 0) (length-replicate v.shape.block 0)

-- ---- the messages that were taken

module _ (reveals : Type 0) {D : Type 0} (state : D → State) (v : Opened) (some : HasSomeRecords v) (old : State) (this : reveals → IsThisOne v (old.files 0)) (raised : v.raised ≡ true) (left : Option (List ℕ))
    (ended : (y : D) (b c : List ℕ) (m n : ℕ) → EndsAt c n → (state y).takes 0 b m → (state y).takes 0 c n)
    (alike : (y : D) (b c : List ℕ) (n : ℕ) → (one : EndsAt b n) (two : EndsAt c n) → one.records ≡ two.records → (state y).keeps b → (state y).keeps c) where
  -- what all of them wrote
  written_all : (messages : List Message) (u w : Work) (f e : D) (early : List Message) (m : Machine) (bytes : List ℕ) → BeginsWith left (early ++ messages) → HasWritten reveals v (zeros v) left old (state f) u early m
      → HasServed reveals state m u f messages bytes w e → (k : Machine) × HasWritten reveals v (zeros v) left old (state e) w (early ++ messages) k
  written_all [] u w f e early m bytes begins gone served = (
    m,
    subst (λ (l : List Message). HasWritten reveals v (zeros v) left old (state e) w l m) (sym (append-nil early))
        (subst (λ (y : D). HasWritten reveals v (zeros v) left old (state y) w early m) (sym served.1)
        (subst (λ (y : Work). HasWritten reveals v (zeros v) left old (state f) y early m) (sym served.0) gone)),
  )
  written_all (message ∷ messages) u w f e early m bytes begins gone served =
      let all = subst (BeginsWith left) (sym (append_assoc early (message ∷ []) messages)) begins in
      let beyond = begins_first left (early ++ message ∷ []) messages all in
      let next = written_more reveals v (zeros v) (zeros_long v) (zeros_wide v) left old (state f) raised this u early m gone message (ended f) (alike f) beyond (begins_first left early (message ∷ []) beyond)
      served.0 (state served.1) served.2 served.3 served.5 in
      let rest = written_all messages served.0 w served.1 e (early ++ message ∷ []) (step u.ledger.shape m message).state served.4 all next served.7 in
      (rest.0, subst (λ (l : List Message). HasWritten reveals v (zeros v) left old (state e) w l rest.0) (append_assoc early (message ∷ []) messages) rest.1)

  -- ---- how it ends

  module _ (here x : Work) (there e : D) (rest : Option (List ℕ)) (handled : List Message) (tail : List ℕ) (mid after : SinkState) (m : Machine)
      (begins : BeginsWith left handled) (gone : HasWritten reveals v (zeros v) left old (state there) here handled m) where
    -- nothing came after them
    quiet : (fault : Type 0) → (fault → ⊥) → e ≡ there → OnlyWrites reveals (IsReady old) (FitsMessages v left old) fault (changes v) old (state e)
    quiet fault none same =
        subst (λ (y : D). OnlyWrites reveals (IsReady old) (FitsMessages v left old) fault (changes v) old (state y)) (sym same)
        (writes_as reveals (IsReady old) (FitsMessages v left old) ⊥ fault (changes v) old (state there) none (λ bad. absurd bad) gone.writes)

    -- the source begins with them and with a close whose bytes were taken after them
    with_close : (message : Message) → tail ≡ spelled message → Consumes left rest (spelled_all handled ++ tail) → (fault : TakeFault) → TailOf rest (length (spelled_all handled)) (length handled) tail (Err (stop.Taken fault))
        → (c : Closing) → closing_in here.ledger.shape m message ≡ c ∷ [] → BeginsWith left (handled ++ message ∷ [])
    with_close (Open slot name) is taken fault ends c closes = absurd (let e : [] ≡ c ∷ [] = closes in cc)
    with_close (Chunk slot bytes) is taken fault ends c closes = absurd (let e : [] ≡ c ∷ [] = closes in cc)
    with_close (Close slot) is taken fault ends c closes = record {
      are = are_more handled (Close slot) begins.are (close_is slot ends.0 ends.1 (sym ends.2 ∙ is));
      few = (let few = ends.3 in omega (arith, few, length-append handled (Close slot ∷ [])));
      rest = rest;
      taken = subst (Consumes left rest) (ap (λ (l : List ℕ). spelled_all handled ++ l) is ∙ spelled_more handled (Close slot)) taken;
    }
    with_close (Abort slot) is taken fault ends c closes = absurd (let e : [] ≡ c ∷ [] = closes in cc)
    with_close (Read name) is taken fault ends c closes = absurd (let e : [] ≡ c ∷ [] = closes in cc)
    with_close (Patrol first count) is taken fault ends c closes = absurd (let e : [] ≡ c ∷ [] = closes in cc)

    -- by the result
    ends : (result : Result (Unit {0}) Stop) → Consumes left rest (spelled_all handled ++ tail) → TailOf rest (length (spelled_all handled)) (length handled) tail result → EndsThere reveals state here x there e tail mid after result
        → OnlyWrites reveals (IsReady old) (FitsMessages v left old) (result ≡ Err (stop.Taken DiskFault)) (changes v) old (state e)
    ends (Ok u) taken tail_is last = quiet (Ok u ≡ Err (stop.Taken DiskFault)) (λ bad. absurd (cc)) last.1
    ends (Err (stop.BadMessage at)) taken tail_is last = quiet (Err (stop.BadMessage at) ≡ Err (stop.Taken DiskFault)) (λ bad. absurd (cc)) last.1
    ends (Err (stop.BadStream at)) taken tail_is last = quiet (Err (stop.BadStream at) ≡ Err (stop.Taken DiskFault)) (λ bad. absurd (cc)) last.1
    ends (Err stop.TooManyMessages) taken tail_is last = quiet (Err stop.TooManyMessages ≡ Err (stop.Taken DiskFault)) (λ bad. absurd (cc)) last.1
    ends (Err stop.Input) taken tail_is last = quiet (Err stop.Input ≡ Err (stop.Taken DiskFault)) (λ bad. absurd (cc)) last.1
    ends (Err stop.Memory) taken tail_is last = quiet (Err stop.Memory ≡ Err (stop.Taken DiskFault)) (λ bad. absurd (cc)) last.1
    ends (Err (stop.Taken fault)) taken tail_is last =
        let failed : Result ℕ TakeFault = Err fault in
        let over : Result (Unit {0}) Stop = Err (stop.Taken fault) in
        writes_as reveals (IsReady old) (FitsMessages v left old) (failed ≡ Err DiskFault) (over ≡ Err (stop.Taken DiskFault)) (changes v) old (state e)
        (λ is. (let same : fault ≡ DiskFault = cc in ap Err same)) (λ is. (let same : fault ≡ DiskFault = cc in ap (λ (f : TakeFault). Err (stop.Taken f)) same))
        (writes_next reveals v (zeros v) (zeros_long v) (zeros_wide v) left old (state there) raised this here handled m gone last.0 (ended there) (alike there) begins (with_close last.0 last.2 taken fault tail_is)
        (failed ≡ Err DiskFault) (state e) last.3.leaves.writes)

-- What a run writes, and when it fails for the disk: where the contents are known and the disk takes the calls, not within the space
-- for all messages of the source. The disk's two laws say that it takes writes past the end of a ledger, and that what a sync needs
-- is decided by where the ledger ends.
pub writes_all : (reveals : Type 0) {D : Type 0} (state : D → State) (v : Opened) (w x : Work) (old : State) (d e : D) (left rest : Option (List ℕ)) (before after : SinkState) (result : Result (Unit {0}) Stop)
    → HasSomeRecords v → (reveals → IsThisOne v (old.files 0)) → Began reveals v w old (state d) → (run : ServesAll reveals state w x d e left rest before after result)
    → ((y : D) (b c : List ℕ) (m n : ℕ) → EndsAt c n → (state y).takes 0 b m → (state y).takes 0 c n)
    → ((y : D) (b c : List ℕ) (n : ℕ) → (one : EndsAt b n) (two : EndsAt c n) → one.records ≡ two.records → (state y).keeps b → (state y).keeps c)
    → OnlyWrites reveals (IsReady old) (FitsMessages v left old) (result ≡ Err (stop.Taken DiskFault))
    (ChangesArchive v.shape (limit_when v.raised) (IsBlockIn v.shape v.lattice.n) (IsBesides v.shape)) old (state e)
writes_all reveals state v w x old d e left rest before after result some this began run ended alike =
    let part = taken_first left rest (spelled_all run.handled) run.tail run.taken in
    let begins : BeginsWith left run.handled = record { are = run.are; few = run.most; rest = part.0; taken = part.1 } in
    let m : Machine = begun (zeros v) v.objects in
    let start = written_none reveals v (zeros v) left old (state d) w (zeros_long v) (zeros_wide v) some began in
    let served = run.served m (began.keeps (zeros v) (zeros_long v) (zeros_wide v)) in
    let all = written_all reveals state v some old this began.raised left ended alike run.handled w run.here d run.there [] m served.0 begins start served.1 in
    ends reveals state v some old this began.raised left ended alike run.here x run.there e rest run.handled run.tail run.mid after all.0 begins all.1 result run.taken run.ends run.last
