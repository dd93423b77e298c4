-- Why a session is refused.
use Rattle.std.specs.Prelude.{◌≡◌, ◌≤◌, ℕ, ◌+◌, List, ◌++◌, length}
use Rattle.aea_lattice.specs.declared.shape.Shape.{Shape}
use Rattle.aea_disk.specs.Files.{Files}
use Rattle.aea_records.specs.Faults.{IsNoArchive, IsBadAt}
use Rattle.aea_records.specs.Format.{first_limit}
use Rattle.aea_messages.specs.declared.message.Message.{Message}
use Rattle.aea_messages.specs.Messages.{spelled, spelled_all, IsMessage, AreMessages, IsBad, IsCut}
use Rattle.aea_session.specs.Serving.{greatest_messages}
use Rattle.aea_command.specs.declared.refusal.Refusal.{Refusal}
use Rattle.aea_command.specs.declared.refusal.Refusal.TheVariants.{NoArchive, LedgerBad, HeadDamaged, BadStream, NotUpgraded, BadMessage, TooManyMessages}
use Rattle.aea_command_store.specs.Put.{HasDamagedHead, HasLimit}

-- The input is these messages, no more than are taken, and a tail.
pub record HasMessages (input : List ℕ) (messages : List Message) (tail : List ℕ) : Type 0 where
  pub are : AreMessages messages
  pub few : length messages ≤ greatest_messages
  pub input_is : input ≡ spelled_all messages ++ tail

-- why the input is not taken to its end
abbrev pub StreamCauses : List ℕ → Refusal → Type 0
StreamCauses input (BadMessage at) =
    (messages : List Message) × (bytes : List ℕ) × (rest : List ℕ) × (place : ℕ)
    × HasMessages input messages (bytes ++ rest) × IsBad bytes place × (at ≡ length (spelled_all messages) + place)
StreamCauses input (BadStream at) =
    (messages : List Message) × (bytes : List ℕ) × HasMessages input messages bytes × IsCut bytes × (at ≡ length input)
StreamCauses input TooManyMessages =
    (messages : List Message) × (message : Message) × (rest : List ℕ)
    × HasMessages input messages (spelled message ++ rest) × IsMessage message × (length messages ≡ greatest_messages)
StreamCauses input why = ⊥

-- why a run over these files and this input is refused, after its opening
abbrev pub OpenedCauses : Files → List ℕ → Refusal → Type 0
OpenedCauses files input NotUpgraded = (shape : Shape) × HasLimit shape first_limit (files 0)
OpenedCauses files input (HeadDamaged block) = HasDamagedHead files block
OpenedCauses files input why = StreamCauses input why

-- why it is refused
abbrev pub SessionCauses : Files → List ℕ → Refusal → Type 0
SessionCauses files input NoArchive = IsNoArchive (files 0)
SessionCauses files input (LedgerBad at) = IsBadAt (files 0) at
SessionCauses files input why = OpenedCauses files input why

-- a refusal that the input decides too
abbrev pub IsByInput : Refusal → Type 0
IsByInput (BadStream at) = Unit {0}
IsByInput (BadMessage at) = Unit {0}
IsByInput TooManyMessages = Unit {0}
IsByInput why = ⊥
