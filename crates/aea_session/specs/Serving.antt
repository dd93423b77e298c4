-- The messages of a stream that a session takes one after the other, and how this ends.
use Rattle.std.specs.Prelude.{◌≡◌, ◌≢◌, ◌⊎◌, ℕ, ◌+◌, ◌<◌, ◌≤◌, List, [], ◌∷◌, ◌++◌, length, Option, None, Some, Result, Ok, Err}
use Rattle.std.specs.Io.KnownBytes.{Consumes, Appends, IsAtEnd}
use Rattle.aea_io.specs.Streams.{SinkState}
use Rattle.aea_io.specs.Written.{IsFlushed}
use Rattle.aea_disk.specs.State.{State}
use Rattle.aea_messages.specs.declared.message.Message.{Message}
use Rattle.aea_messages.specs.Messages.{spelled, spelled_all, IsMessage, AreMessages, IsBad, Begins, IsCut}
use Rattle.aea_io.specs.Taken.{Took}
use Rattle.aea_machine.specs.Machine.{Machine, step}
use Rattle.aea_session.specs.declared.serving.Stop.{Stop}
use Rattle.aea_session.specs.declared.serving.Stop.TheVariants as stop
use Rattle.aea_session.specs.declared.work.Work.{Work}
use Rattle.aea_session.specs.Looks.{IsReplyTo, TakesSpace}
use Rattle.aea_session.specs.Stands.{KeepsMachine}
use Rattle.aea_session.specs.Takes.{Moves, Leaves, Takes}

-- the most messages that are taken
abbrev pub greatest_messages : ℕ
greatest_messages = 16777216

-- A message was taken, with this code and reply, where the machine was in the state m: the reply is one of these files, and the
-- session and the disk moved by the step.
pub record Answers (reveals : Type 0) (m : Machine) (v w : Work) (message : Message) (old new : State) (code : ℕ) (reply : List ℕ) : Type 0 where
  pub is_reply : IsReplyTo reveals v.ledger m old.files message code reply
  pub moves : Moves reveals v w message old new
  pub leaves : Leaves reveals v w message old new (Unit {0}) ⊥ ⊥

-- Messages were taken one after the other, with these replies, joined; `state` is the state of a disk. The machine begins in the
-- state m, and each message is taken where the one before it has left the session, the disk and the machine.
abbrev pub HasServed : Type 0 → {D : Type 0} → (D → State) → Machine → Work → D → List Message → List ℕ → Work → D → Type 0
HasServed reveals state m v d [] bytes w e = (w ≡ v) × (e ≡ d) × (bytes ≡ [])
HasServed reveals {D} state m v d (message ∷ messages) bytes w e =
    (u : Work) × (f : D) × (code : ℕ) × (reply : List ℕ) × (rest : List ℕ)
    × Answers reveals m v u message (state d) (state f) code reply × (bytes ≡ reply ++ rest)
    × HasServed reveals state (step v.ledger.shape m message).state u f messages rest w e

-- what is taken for the next message, where so many were taken
abbrev pub ReadsNext : Option (List ℕ) → Option (List ℕ) → ℕ → ℕ → ℕ → Result (Option Message) Stop → Type 0
ReadsNext left rest before after count (Ok None) = Took left rest before after [] × IsAtEnd rest
ReadsNext left rest before after count (Ok (Some message)) = IsMessage message × Took left rest before after (spelled message) × (count < greatest_messages)
ReadsNext left rest before after count (Err (stop.BadMessage at)) = (tail : List ℕ) × Took left rest before after tail × ((place : ℕ) × IsBad tail place × (at ≡ before + place))
ReadsNext left rest before after count (Err (stop.BadStream at)) = (tail : List ℕ) × Took left rest before after tail × IsCut tail × IsAtEnd rest × (at ≡ after)
ReadsNext left rest before after count (Err stop.TooManyMessages) = (message : Message) × IsMessage message × Took left rest before after (spelled message) × (greatest_messages ≤ count)
ReadsNext left rest before after count (Err stop.Input) = (tail : List ℕ) × Took left rest before after tail × ((more : List ℕ) × (more ≢ []) × Begins tail more)
ReadsNext left rest before after count (Err stop.Memory) = (tail : List ℕ) × Took left rest before after tail × ((more : List ℕ) × Begins tail more)
ReadsNext left rest before after count (Err (stop.Taken fault)) = ⊥

-- how a run ends that has taken these messages, of so many bytes, and has taken these bytes after them
abbrev pub TailOf : Option (List ℕ) → ℕ → ℕ → List ℕ → Result (Unit {0}) Stop → Type 0
TailOf rest start count tail (Ok u) = (tail ≡ []) × IsAtEnd rest
TailOf rest start count tail (Err (stop.BadMessage at)) = (place : ℕ) × IsBad tail place × (at ≡ start + place)
TailOf rest start count tail (Err (stop.BadStream at)) = IsCut tail × IsAtEnd rest × (at ≡ start + length tail)
TailOf rest start count tail (Err stop.TooManyMessages) = (message : Message) × IsMessage message × (tail ≡ spelled message) × (count ≡ greatest_messages)
TailOf rest start count tail (Err stop.Input) = (more : List ℕ) × (more ≢ []) × Begins tail more
TailOf rest start count tail (Err stop.Memory) = (more : List ℕ) × Begins tail more
TailOf rest start count tail (Err (stop.Taken fault)) = (message : Message) × IsMessage message × (tail ≡ spelled message) × (count < greatest_messages)

-- What came after the messages that were taken: where the next one was not taken, what that call left; else nothing.
abbrev pub EndsThere : Type 0 → {D : Type 0} → (D → State) → Work → Work → D → D → List ℕ → SinkState → SinkState → Result (Unit {0}) Stop → Type 0
EndsThere reveals state v w d e tail before after (Err (stop.Taken fault)) =
    (message : Message) × IsMessage message × (tail ≡ spelled message) × Takes reveals v w message (state d) (state e) before after (Err fault)
EndsThere reveals state v w d e tail before after result = (w ≡ v) × (e ≡ d) × (after ≡ before)

-- Of a run over a stream, with the session, the disk, the stream and the output before and after it: the messages that were taken,
-- what was taken of the stream after them, and, in whatever state the session kept its machine, their replies. Where a message was
-- not taken, what it left comes after these.
pub record ServesAll (reveals : Type 0) {D : Type 0} (state : D → State) (v w : Work) (d e : D) (left rest : Option (List ℕ)) (before after : SinkState) (result : Result (Unit {0}) Stop) : Type 0 where
  pub handled : List Message
  pub are : AreMessages handled
  pub most : length handled ≤ greatest_messages
  pub tail : List ℕ
  pub taken : Consumes left rest (spelled_all handled ++ tail)
  pub ends : TailOf rest (length (spelled_all handled)) (length handled) tail result
  -- the session, the disk and the output where the next message would be taken
  pub here : Work
  pub there : D
  pub mid : SinkState
  pub served : (m : Machine) → KeepsMachine v m → (bytes : List ℕ) × HasServed reveals state m v d handled bytes here there × Appends before.written mid.written bytes × TakesSpace before mid (length bytes)
  -- each reply was flushed
  pub flushed : ((handled ≡ []) × (mid ≡ before)) ⊎ IsFlushed mid
  pub last : EndsThere reveals state here w there e tail mid after result
