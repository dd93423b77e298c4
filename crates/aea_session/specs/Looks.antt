-- The messages that only look: what they leave of the session, which bytes are their replies, and which begin one.
use Rattle.std.specs.Prelude.{◌≡◌, ◌⊎◌, ◌≤◌, ℕ, ◌+◌, ◌-◌, ◌*◌, Bool, not, ◌&&◌, nat_le, List, ◌++◌, length, take, filter, Some, All}
use Rattle.std.specs.List.{range_with_len}
use Rattle.std.specs.Io.KnownBytes.{Appends}
use Rattle.aea_io.specs.Streams.{SinkState}
use Rattle.aea_io.specs.Written.{AppendsPart}
use Rattle.aea_lattice.specs.declared.blocks.BlockId.{BlockId}
use Rattle.aea_catalog.specs.Catalogs.{Placed}
use Rattle.aea_disk.specs.Files.{Files}
use Rattle.aea_ledger.specs.Values.{Opened}
use Rattle.aea_archive.specs.Blocks.{IsIntactBy}
use Rattle.aea_archive.specs.Objects.{data_of, ArePayloads, joined, IsFront}
use Rattle.aea_fetch.specs.Payloads.{IsPayload}
use Rattle.aea_messages.specs.declared.message.Message.{Message}
use Rattle.aea_machine.specs.Machine.{Machine, Answer, Reads, Patrols, greatest_patrol, step}
use Rattle.aea_machine.specs.Replies.{reply, body_of, object_body, RevealsRange, IsObjectReply, IsRangeReply, IsReply}
use Rattle.aea_session.specs.declared.work.Work.{Work}
use Rattle.aea_session.specs.Stands.{KeepsMachine, StandsFor, IsTheSessions}

-- All that the session keeps is as it was, but for what is in its buffer, which has as many bytes.
pub record KeepsAllButCell (v w : Work) : Type 0 where
  pub ledger : w.ledger ≡ v.ledger
  pub heads : w.heads ≡ v.heads
  pub digests : w.digests ≡ v.digests
  pub slots : w.slots ≡ v.slots
  pub cell : length w.cell.items ≡ length v.cell.items

-- A session of which only the buffer changed keeps what it kept, stands for what it stood for, and has the disk that it had.
abbrev pub LooksKeep : Type 0
LooksKeep =
    (v w : Work) → KeepsAllButCell v w
    → ((m : Machine) → KeepsMachine v m → KeepsMachine w m)
    × ((m : Machine) → StandsFor v m → StandsFor w m)
    × ((c : Files) → IsTheSessions v c → IsTheSessions w c)

-- so many bytes were taken from the sink's space, where it reveals it
abbrev pub TakesSpace : SinkState → SinkState → ℕ → Type 0
TakesSpace old new count = (room : ℕ) → old.room ≡ Some room → count ≤ room → new.room ≡ Some (room - count)

-- ---- replies over an opened ledger and these files

-- The payloads of the blocks were appended behind this head, of them the first bytes, so many, and taken from the sink's space.
pub record HasSentBehind (has : BlockId → List ℕ → Type 0) (blocks : List BlockId) (most : ℕ) (head : List ℕ) (old new : SinkState) : Type 0 where
  pub payloads : List (List ℕ)
  pub are : ArePayloads has blocks payloads
  pub appended : Appends old.written new.written (head ++ take most (joined payloads))
  pub space : TakesSpace old new (length (head ++ take most (joined payloads)))

-- the reply is that of the object, read from its cells
abbrev pub IsReplyOfObject : Type 0 → Opened → Files → Message → Placed → ℕ → List ℕ → Type 0
IsReplyOfObject reveals v c message placed code bytes = IsObjectReply reveals (IsPayload reveals v.shape v.digests c) v.shape v.digests c message placed code bytes

-- The bytes begin the reply of an object all of whose data blocks are intact: its code, its length, and its first bytes, of
-- payloads of some first ones of its data blocks.
pub record BeginsObject (reveals : Type 0) (v : Opened) (c : Files) (message : Message) (placed : Placed) (bytes : List ℕ) : Type 0 where
  pub front : List BlockId
  pub is_front : IsFront front (data_of placed.parts)
  pub payloads : List (List ℕ)
  pub are : ArePayloads (IsPayload reveals v.shape v.digests c) front payloads
  pub intact : reveals → All (IsIntactBy v.shape v.digests c) (data_of placed.parts)
  pub bytes_are : bytes ≡ reply message 0 (object_body placed.object.length (take placed.object.length (joined payloads)))

-- they are the reply of an object, or begin it
abbrev pub MayBeginObject : Type 0 → Opened → Files → Message → Placed → List ℕ → Type 0
MayBeginObject reveals v c message placed bytes = ((code : ℕ) × IsReplyOfObject reveals v c message placed code bytes) ⊎ BeginsObject reveals v c message placed bytes

-- whether the archive has a range of so many blocks from this number on, and it is neither empty nor too long
abbrev pub has_range : Opened → ℕ → ℕ → Bool
has_range v first count = nat_le 1 count && nat_le count greatest_patrol && nat_le (first + count) (v.lattice.n * (1 + v.shape.alpha))

-- The numbers are those of the blocks of a range that are not intact, in order, by a test of the range's blocks.
pub record AreDamaged (reveals : Type 0) (v : Opened) (c : Files) (first count : ℕ) (numbers : List ℕ) : Type 0 where
  pub intact : ℕ → Bool
  pub by : reveals → RevealsRange v.shape v.lattice.n v.digests c first count intact
  pub are : numbers ≡ filter (λ k. not (intact k)) (range_with_len first count)

-- the reply is that of the range
abbrev pub IsReplyOfRange : Type 0 → Opened → Files → Message → ℕ → ℕ → ℕ → List ℕ → Type 0
IsReplyOfRange reveals v c message first count code bytes = IsRangeReply reveals v.shape v.lattice.n v.digests c message first count code bytes

-- ---- replies of a session

-- The bytes are a reply with this code to the message, in this state of the machine: where the machine asks for an object or a
-- range, of what stands in the files.
abbrev pub IsReplyTo : Type 0 → Opened → Machine → Files → Message → ℕ → List ℕ → Type 0
IsReplyTo reveals v m c message code bytes =
    IsReply reveals (IsPayload reveals v.shape v.digests c) v.shape (length m.datas) v.digests c message (step v.shape m message).answer code bytes

-- they are such a reply, or begin that of an object
abbrev pub MayBegin : Type 0 → Opened → Machine → Files → Message → List ℕ → Type 0
MayBegin reveals v m c message bytes =
    ((code : ℕ) × IsReplyTo reveals v m c message code bytes)
    ⊎ ((placed : Placed) × ((step v.shape m message).answer ≡ Reads placed) × BeginsObject reveals v c message placed bytes)

-- such bytes were appended, and taken from the sink's space
abbrev pub Replies : (List ℕ → Type 0) → SinkState → SinkState → Type 0
Replies is old new = (bytes : List ℕ) × is bytes × Appends old.written new.written bytes × TakesSpace old new (length bytes)

-- or a first part of such bytes
abbrev pub RepliesPart : (List ℕ → Type 0) → SinkState → SinkState → Type 0
RepliesPart is old new = (bytes : List ℕ) × is bytes × AppendsPart old.written new.written bytes

-- how many bytes the reply to an answer of the machine has at most
abbrev pub greatest_reply : Answer → ℕ
greatest_reply (Reads placed) = 10 + placed.object.length
greatest_reply (Patrols first count) = 6 + 4 * count
greatest_reply answer = 2 + length (body_of answer)
