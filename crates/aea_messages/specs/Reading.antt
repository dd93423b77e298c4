-- What a reading of a message has taken of a source.
use Rattle.std.specs.Prelude.{◌≡◌, ◌≢◌, ℕ, ◌+◌, List, [], Option, None, Some, Result, Ok, Err}
use Rattle.std.specs.Io.KnownBytes.{IsAtEnd}
use Rattle.aea_io.specs.Taken.{Took}
use Rattle.aea_messages.specs.declared.message.Message.{Message}
use Rattle.aea_messages.specs.declared.fault.MessageFault.{MessageFault}
use Rattle.aea_messages.specs.declared.fault.MessageFault.TheVariants.{BadMessage, BadStream, ReadFault, NoMemory}
use Rattle.aea_messages.specs.Messages.{spelled, IsMessage, IsBad, Begins, IsCut}

-- what these first bytes of a stream tell of a message that is not read, where so many bytes stand before them; memory is
-- wanting only where a message has begun
abbrev pub RevealsFault : Option (List ℕ) → ℕ → ℕ → List ℕ → MessageFault → Type 0
RevealsFault rest start after bytes (BadMessage at) = (place : ℕ) × IsBad bytes place × (at ≡ start + place)
RevealsFault rest start after bytes (BadStream at) = IsCut bytes × IsAtEnd rest × (at ≡ after)
RevealsFault rest start after bytes ReadFault = (more : List ℕ) × (more ≢ []) × Begins bytes more
RevealsFault rest start after bytes NoMemory = (bytes ≢ []) × ((more : List ℕ) × Begins bytes more)

-- What a stream began with: nothing, and it is at its end; a message; or what tells why none is read.
abbrev pub ReadsMessage : Option (List ℕ) → Option (List ℕ) → ℕ → ℕ → Result (Option Message) MessageFault → Type 0
ReadsMessage left rest before after (Ok None) = Took left rest before after [] × IsAtEnd rest
ReadsMessage left rest before after (Ok (Some message)) = IsMessage message × Took left rest before after (spelled message)
ReadsMessage left rest before after (Err fault) =
    (bytes : List ℕ) × Took left rest before after bytes × RevealsFault rest before after bytes fault
