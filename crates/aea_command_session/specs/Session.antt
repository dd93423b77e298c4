-- What `session` does: it takes the messages of its input, one after the other, and prints the reply to each.
use Rattle.std.specs.Prelude.{◌≡◌, ◌≢◌, ◌⊎◌, ◌≤◌, ℕ, List, ◌++◌, length, Option, Some, true, Result, Ok, Err, IsErr, IfOk}
use Rattle.std.specs.Io.KnownBytes.{Consumes}
use Rattle.aea_io.specs.Streams.{SinkState}
use Rattle.aea_disk.specs.Files.{Files}
use Rattle.aea_disk.specs.State.{State, KeepsImages, IsReady, NeverFails}
use Rattle.aea_shelf.specs.Writes.{KeepsPadded}
use Rattle.aea_ledger.specs.Stops.{IsOpened, StaysAll}
use Rattle.aea_ledger.specs.Values.{Opened, HasSomeRecords, IsThisOne}
use Rattle.aea_archive.specs.Blocks.{IsBlockIn}
use Rattle.aea_messages.specs.declared.message.Message.{Message}
use Rattle.aea_messages.specs.Messages.{spelled_all, AreMessages}
use Rattle.aea_uploads.specs.Laws.{AreWide}
use Rattle.aea_session.specs.declared.serving.Stop.{Stop}
use Rattle.aea_session.specs.Serving.{greatest_messages, TailOf}
use Rattle.aea_command.specs.declared.refusal.Failure.TheVariants as failure
use Rattle.aea_command.specs.declared.status.Status.TheVariants.{Done}
use Rattle.aea_command.specs.Failures.{Answer}
use Rattle.aea_command.specs.Openings.{OpensThen}
use Rattle.aea_command_session.specs.Closes.{HasClosedAll}
use Rattle.aea_command_session.specs.Failures.{stop_failure}
use Rattle.aea_command_session.specs.Space.{FitsSession, FitsAnswers, FitsReplies}
use Rattle.aea_command_session.specs.Standing.{standing, PrintsReplies}

-- The session did not begin: it was refused, or the disk failed, or memory ran out. Nothing of the input was taken, nothing was
-- printed, and the disk was only read.
pub record IsNotBegun (reveals : Type 0) (old new : State) (left rest : Option (List ℕ)) (before after : SinkState) (answer : Answer) : Type 0 where
  pub failed : IsErr answer
  pub not_output : answer ≢ Err failure.Output
  pub not_input : answer ≢ Err failure.Input
  pub unread : rest ≡ left
  pub unused : after ≡ before
  pub images : KeepsImages old new
  pub files : reveals → new.files ≡ old.files

-- how a run ends whose messages ended so: at the end of the input all is done, unless the last flush fails
abbrev pub AnswersBy : Result (Unit {0}) Stop → Answer → Type 0
AnswersBy (Ok u) answer = (answer ≡ Ok Done) ⊎ (answer ≡ Err failure.Output)
AnswersBy (Err stop) answer = answer ≡ Err (stop_failure stop)

-- Messages of the input were taken over an opened archive, from these files on to those: which ones, what was taken of the input after
-- them, how this ended, and what was printed, whichever X of as many blocks as the archive has nodes it records.
pub record Serves (reveals : Type 0) (v : Opened) (c d : Files) (left rest : Option (List ℕ)) (before after : SinkState) (messages : List Message) (tail : List ℕ) (result : Result (Unit {0}) Stop) : Type 0 where
  pub are : AreMessages messages
  pub few : length messages ≤ greatest_messages
  pub taken : Consumes left rest (spelled_all messages ++ tail)
  pub ends : TailOf rest (length (spelled_all messages)) (length messages) tail result
  pub prints : (datas : List (List ℕ)) → length datas ≡ v.lattice.n → AreWide v.shape datas → PrintsReplies reveals (standing v datas c) messages tail before after result d

-- The session began over an opened archive: what it printed, and what it left of the archive, which `Grown` says of the closes.
pub record HasBegun (reveals : Type 0) (v : Opened) (old new : State) (left rest : Option (List ℕ)) (before after : SinkState) (answer : Answer) (Grown : List Message → List ℕ → Result (Unit {0}) Stop → Type 0) : Type 0 where
  pub raised : v.raised ≡ true
  pub messages : List Message
  pub tail : List ℕ
  pub result : Result (Unit {0}) Stop
  pub by : AnswersBy result answer
  pub files : Files
  pub same : reveals → files ≡ old.files
  pub serves : Serves reveals v files new.files left rest before after messages tail result
  pub closes : reveals → Grown messages tail result
  -- but after a fault of the disk the homes of the blocks that there were read as they did, with zeros past the ends of files
  pub padded : answer ≢ Err failure.Disk → reveals → KeepsPadded v.shape (IsBlockIn v.shape v.lattice.n) old.files new.files

-- Of a run over an opened archive, with the disk, the input and the output before and after it, and its answer:
pub record ServesOpened (reveals : Type 0) (v : Opened) (old new : State) (left rest : Option (List ℕ)) (before after : SinkState) (answer : Answer) : Type 0 where
  pub done : IfOk answer (λ status. status ≡ Done)
  pub ran : IsNotBegun reveals old new left rest before after answer
      ⊎ HasBegun reveals v old new left rest before after answer (λ messages tail result. HasClosedAll v messages tail result old new)
  pub answers_in_room : FitsAnswers v left before → answer ≢ Err failure.Output

-- the run began over the archive, once its first sync had succeeded
abbrev pub HasRun : Type 0 → State → State → Option (List ℕ) → Option (List ℕ) → SinkState → SinkState → Answer → Type 0
HasRun reveals old new left rest before after answer =
    (v : Opened) × HasSomeRecords v × (reveals → IsThisOne v (old.files 0))
    × HasBegun reveals v old new left rest before after answer (λ messages tail result. OpensThen old new (HasClosedAll v messages tail result))

-- it did not begin; and but after a fault of the disk the first sync has succeeded
abbrev pub HasNotRun : Type 0 → State → State → Option (List ℕ) → Option (List ℕ) → SinkState → SinkState → Answer → Type 0
HasNotRun reveals old new left rest before after answer =
    IsNotBegun reveals old new left rest before after answer × (answer ≢ Err failure.Disk → reveals → IsOpened old new (StaysAll old.files))

-- Of a run of `session`, with the disk, the input and the output before and after it, and its answer:
pub record Sessions (reveals : Type 0) (old new : State) (left rest : Option (List ℕ)) (before after : SinkState) (answer : Answer) : Type 0 where
  -- no block is lost
  pub done : IfOk answer (λ status. status ≡ Done)
  -- what was taken and printed, and what is left of the archive
  pub ran : HasNotRun reveals old new left rest before after answer ⊎ HasRun reveals old new left rest before after answer
  -- where the disk is ready and has the space nothing fails
  pub in_room : reveals → IsReady old → NeverFails (FitsSession reveals left old) (answer ≢ Err failure.Disk) old new
  -- and where the output has space for the replies it does not fail
  pub replies_in_room : reveals → (input : List ℕ) → left ≡ Some input → FitsReplies old.files input before → answer ≢ Err failure.Output
