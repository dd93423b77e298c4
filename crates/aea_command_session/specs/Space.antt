-- The space that a session needs.
use Rattle.std.specs.Prelude.{◌≡◌, ◌≢◌, ◌≤◌, ℕ, ◌+◌, List, [], ◌∷◌, length, Option, Some, true}
use Rattle.std.specs.Io.KnownBytes.{Consumes}
use Rattle.aea_io.specs.Streams.{SinkState}
use Rattle.aea_lattice.specs.declared.shape.Shape.{Shape}
use Rattle.aea_disk.specs.Files.{Files}
use Rattle.aea_disk.specs.State.{State, IsRoomy}
use Rattle.aea_records.specs.Catalogued.{objects_of}
use Rattle.aea_records.specs.Format.{Record, nodes_of, raised_limit, spelled}
use Rattle.aea_ledger.specs.Stops.{HasLedger}
use Rattle.aea_ledger.specs.Taking.{FitsAdding}
use Rattle.aea_ledger.specs.Values.{Opened}
use Rattle.aea_archive.specs.Cells.{HaveSitesRoom}
use Rattle.aea_messages.specs.declared.message.Message.{Message}
use Rattle.aea_messages.specs.Messages.{spelled_all, AreMessages}
use Rattle.aea_machine.specs.Closings.{Closing, closings_of}
use Rattle.aea_machine.specs.Machine.{Machine, begun, step}
use Rattle.aea_uploads.specs.Laws.{AreWide}
use Rattle.aea_session.specs.Closes.{close_entry}
use Rattle.aea_session.specs.Looks.{greatest_reply}
use Rattle.aea_session.specs.Serving.{greatest_messages}
use Rattle.aea_command_store.specs.Put.{HasLimit}
use Rattle.aea_command_session.specs.Closes.{closes_of}

-- The source begins with these messages, no more than are taken.
pub record BeginsWith (left : Option (List ℕ)) (messages : List Message) : Type 0 where
  pub are : AreMessages messages
  pub few : length messages ≤ greatest_messages
  pub rest : Option (List ℕ)
  pub taken : Consumes left rest (spelled_all messages)

-- ---- of the disk

-- where a ledger that ends at this place ends with the records of these closes after its own
abbrev pub end_with_closes : Shape → ℕ → List Closing → ℕ
end_with_closes shape end [] = end
end_with_closes shape end (c ∷ closings) = end_with_closes shape (end + close_entry shape c) closings

-- The files are an archive; and with the closes of some first messages of the source, over some X with as many blocks as it has
-- nodes, its ledger has so many records more and its ending gate at this place.
pub record WouldClose (left : Option (List ℕ)) (files : Files) (more end : ℕ) : Type 0 where
  pub shape : Shape
  pub records : List Record
  pub ledger : HasLedger shape records (files 0)
  pub raised : HasLimit shape raised_limit (files 0)
  pub datas : List (List ℕ)
  pub long : length datas ≡ nodes_of records
  pub wide : AreWide shape datas
  pub messages : List Message
  pub begins : BeginsWith left messages
  pub some : closings_of shape (begun datas (objects_of records)) messages ≢ []
  pub count : more ≡ length (closings_of shape (begun datas (objects_of records)) messages)
  pub place : end ≡ end_with_closes shape (length (spelled shape records)) (closings_of shape (begun datas (objects_of records)) messages)

-- The disk has some space, and to sync; and where it has an archive that sessions may have, space for all rows that its sites may
-- have, and for the records up to each place at which its ledger may end in a session over this source, of a disk on which the file
-- is not known wherever that is.
pub record FitsSession (reveals : Type 0) (left : Option (List ℕ)) (s : State) : Type 0 where
  pub some : IsRoomy s
  pub sites : (shape : Shape) → (reveals → HasLimit shape raised_limit (s.files 0)) → HaveSitesRoom shape raised_limit s
  pub behind : (more end : ℕ) → (reveals → WouldClose left s.files more end) → FitsAdding s more end

-- The disk has some space, and to sync; and where sessions may have the opened archive, space for all that a run may write that
-- takes the messages of the source.
pub record FitsMessages (v : Opened) (left : Option (List ℕ)) (s : State) : Type 0 where
  pub some : IsRoomy s
  pub sites : v.raised ≡ true → HaveSitesRoom v.shape raised_limit s
  pub ledger : v.raised ≡ true → (datas : List (List ℕ)) → length datas ≡ v.lattice.n → AreWide v.shape datas → (messages : List Message) → BeginsWith left messages
      → closes_of v datas messages ≢ [] → FitsAdding s (length (closes_of v datas messages)) (end_with_closes v.shape v.end (closes_of v datas messages))

-- ---- of the output

-- how many bytes the replies to these messages have at most
abbrev pub greatest_replies : Shape → Machine → List Message → ℕ
greatest_replies shape m [] = 0
greatest_replies shape m (message ∷ messages) = greatest_reply (step shape m message).answer + greatest_replies shape (step shape m message).state messages

-- the sink is known to have space for so many bytes
pub record FitsSo (out : SinkState) (size : ℕ) : Type 0 where
  pub room : ℕ
  pub revealed : out.room ≡ Some room
  pub enough : size ≤ room

-- the output has space for the replies to each first messages of the source, over an opened archive and any X with as many blocks
-- as it has nodes
abbrev pub FitsAnswers : Opened → Option (List ℕ) → SinkState → Type 0
FitsAnswers v left out =
    (datas : List (List ℕ)) → length datas ≡ v.lattice.n → AreWide v.shape datas → (messages : List Message) → BeginsWith left messages
    → FitsSo out (greatest_replies v.shape (begun datas v.objects) messages)

-- the same over the archive that the files are, whose limit was raised
abbrev pub FitsReplies : Files → List ℕ → SinkState → Type 0
FitsReplies files input out =
    (shape : Shape) (records : List Record) (datas : List (List ℕ)) → HasLedger shape records (files 0) → HasLimit shape raised_limit (files 0)
    → length datas ≡ nodes_of records → AreWide shape datas → (messages : List Message) → BeginsWith (Some input) messages
    → FitsSo out (greatest_replies shape (begun datas (objects_of records)) messages)
