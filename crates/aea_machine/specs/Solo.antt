-- The machine as one slot sees it: its own messages, and the codes that answered them.
use Rattle.std.specs.Prelude.{◌≡◌, ◌≢◌, ◌<◌, ℕ, ◌==◌, if◌then◌else◌, List, [], ◌∷◌, ◌++◌, length, Option, None, Some}
use Rattle.aea_lattice.specs.declared.shape.Shape.{Shape}
use Rattle.aea_messages.specs.declared.message.Message.{Message}
use Rattle.aea_messages.specs.declared.message.Message.TheVariants.{Open, Chunk, Close, Abort, Read, Patrol}
use Rattle.aea_machine.specs.Machine.{Upload, Machine, Answer, Reads, Patrols, step, after, in_slot, slots_count}
use Rattle.aea_machine.specs.Replies.{code_of}

-- an upload as its client sees it: the name, and its chunks joined
pub record Own : Type 0 where
  pub name : List ℕ
  pub bytes : List ℕ

-- of what stands in a slot
abbrev pub own_of : Option Upload → Option Own
own_of None = None
own_of (Some u) = Some (record { name = u.name; bytes = u.bytes })

-- with a chunk more
abbrev pub longer : List ℕ → Option Own → Option Own
longer bytes None = None
longer bytes (Some own) = Some (record { name = own.name; bytes = own.bytes ++ bytes })

-- what becomes of it by a message that was answered with code 0; those to other slots leave it
abbrev pub solo : ℕ → Message → Option Own → Option Own
solo slot (Open other name) own = if other == slot then Some (record { name = name; bytes = [] }) else own
solo slot (Chunk other bytes) own = if other == slot then longer bytes own else own
solo slot (Close other) own = if other == slot then None else own
solo slot (Abort other) own = if other == slot then None else own
solo slot (Read name) own = own
solo slot (Patrol first count) own = own

-- and by one with any code: a refusal leaves it
abbrev pub solo_step : ℕ → Message → ℕ → Option Own → Option Own
solo_step slot message code own = if code == 0 then solo slot message own else own

-- and by messages, each with the code that answered it
abbrev pub solo_after : ℕ → List (Message × ℕ) → Option Own → Option Own
solo_after slot [] own = own
solo_after slot (m ∷ messages) own = solo_after slot messages (solo_step slot m.0 m.1 own)

-- the messages with the codes that answer them
abbrev pub answered : Shape → Machine → List Message → List (Message × ℕ)
answered shape m [] = []
answered shape m (message ∷ messages) = (message, code_of (step shape m message).answer) ∷ answered shape (step shape m message).state messages

-- A refusal leaves the state.
abbrev pub RefusalsStay : Type 0
RefusalsStay = (shape : Shape) (m : Machine) (message : Message) → code_of (step shape m message).answer ≢ 0 → (step shape m message).state ≡ m

-- the answer asks for blocks, so that the code of its reply may be that of a damaged one
abbrev pub Asks : Answer → Type 0
Asks (Reads placed) = Unit {0}
Asks (Patrols first count) = Unit {0}
Asks answer = ⊥

-- What asks leaves it too, whatever the reply is.
abbrev pub AsksStay : Type 0
AsksStay = (shape : Shape) (m : Machine) (message : Message) → Asks (step shape m message).answer → (step shape m message).state ≡ m

-- There are as many slots after each message.
abbrev pub SlotsStay : Type 0
SlotsStay = (shape : Shape) (m : Machine) (message : Message) → length m.slots ≡ slots_count → length (step shape m message).state.slots ≡ slots_count

-- What a slot holds after messages is what its own make of it, whatever stands between them.
abbrev pub SlotsStandAlone : Type 0
SlotsStandAlone =
    (shape : Shape) (m : Machine) (messages : List Message) (slot : ℕ) → length m.slots ≡ slots_count → slot < slots_count
    → own_of (in_slot (after shape m messages) slot) ≡ solo_after slot (answered shape m messages) (own_of (in_slot m slot))
