-- How a message is spelled, and which bytes begin one, are cut inside one, or begin none.
use Rattle.std.specs.Prelude.{◌≡◌, ◌≢◌, ◌⊎◌, ℕ, ◌<◌, ◌≤◌, ◌^◌, List, [], ◌∷◌, ◌++◌, length}
use Rattle.std.specs.List.{flat_map}
use Rattle.std.specs.Int.{w16, w32, to_be_bytes}
use Rattle.aea_records.specs.TableLaws.{AreBytes}
use Rattle.aea_messages.specs.declared.message.Message.{Message}
use Rattle.aea_messages.specs.declared.message.Message.TheVariants.{Open, Chunk, Close, Abort, Read, Patrol}

-- the most bytes of a chunk
abbrev pub greatest_chunk : ℕ
greatest_chunk = 65536

-- the byte that a message begins with
abbrev pub kind_of : Message → ℕ
kind_of (Open slot name) = 1
kind_of (Chunk slot bytes) = 2
kind_of (Close slot) = 3
kind_of (Abort slot) = 4
kind_of (Read name) = 5
kind_of (Patrol first count) = 6

-- the fields behind it: a slot in 1 byte; a name behind its length, in 2; the bytes of a chunk behind their number, in 4; the
-- first number of a range and how many there are, in 4 each; numbers with high bytes first
abbrev pub fields_of : Message → List ℕ
fields_of (Open slot name) = slot ∷ to_be_bytes w16 (length name) ++ name
fields_of (Chunk slot bytes) = slot ∷ to_be_bytes w32 (length bytes) ++ bytes
fields_of (Close slot) = slot ∷ []
fields_of (Abort slot) = slot ∷ []
fields_of (Read name) = to_be_bytes w16 (length name) ++ name
fields_of (Patrol first count) = to_be_bytes w32 first ++ to_be_bytes w32 count

-- how a message is spelled
abbrev pub spelled : Message → List ℕ
spelled message = kind_of message ∷ fields_of message

-- messages, one after the other
abbrev pub spelled_all : List Message → List ℕ
spelled_all messages = flat_map spelled messages

-- its fields can be spelled
abbrev pub HasFields : Message → Type 0
HasFields (Open slot name) = (slot < 2 ^ 8) × AreBytes name × (length name < 2 ^ 16)
HasFields (Chunk slot bytes) = (slot < 2 ^ 8) × AreBytes bytes × (length bytes < 2 ^ 32)
HasFields (Close slot) = slot < 2 ^ 8
HasFields (Abort slot) = slot < 2 ^ 8
HasFields (Read name) = AreBytes name × (length name < 2 ^ 16)
HasFields (Patrol first count) = (first < 2 ^ 32) × (count < 2 ^ 32)

-- a chunk is not too long
abbrev pub IsShort : Message → Type 0
IsShort (Chunk slot bytes) = length bytes ≤ greatest_chunk
IsShort message = Unit {0}

-- A message: its fields can be spelled, and a chunk is not too long. Whether a name is one, and a slot, is judged later.
pub record IsMessage (message : Message) : Type 0 where
  pub fields : HasFields message
  pub short : IsShort message

-- each of these is one
abbrev pub AreMessages : List Message → Type 0
AreMessages [] = Unit {0}
AreMessages (message ∷ messages) = IsMessage message × AreMessages messages

-- The bytes tell that no message begins so, and a place tells why: that of a first byte that is none, or of a chunk's length
-- that is too great.
abbrev pub IsBad : List ℕ → ℕ → Type 0
IsBad bytes place =
    ((kind : ℕ) × (bytes ≡ kind ∷ []) × ((kind ≡ 0) ⊎ (6 < kind)) × (place ≡ 0))
    ⊎ ((slot : ℕ) × (long : ℕ) × (bytes ≡ 2 ∷ slot ∷ to_be_bytes w32 long) × (greatest_chunk < long) × (long < 2 ^ 32) × (place ≡ 2))

-- A message can go on so: these bytes, and these behind them. A chunk's length is judged where it stands whole.
pub record Begins (bytes more : List ℕ) : Type 0 where
  pub message : Message
  pub fields : HasFields message
  pub spells : spelled message ≡ bytes ++ more
  pub well : IsShort message ⊎ (length bytes < 6)

-- the bytes end inside a message: it has begun, and more of it is to come
abbrev pub IsCut : List ℕ → Type 0
IsCut bytes = (bytes ≢ []) × ((more : List ℕ) × (more ≢ []) × Begins bytes more)
