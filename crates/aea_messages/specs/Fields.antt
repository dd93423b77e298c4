-- What a reading of one field of a message has taken of a source, and one of all fields behind the first bytes.
use Rattle.std.specs.Prelude.{◌≡◌, ℕ, ◌+◌, ◌<◌, ◌≤◌, List, ◌++◌, length, Option, Result, Ok, Err}
use Rattle.std.specs.Io.KnownBytes.{IsAtEnd}
use Rattle.aea_io.specs.Taken.{Took}
use Rattle.aea_records.specs.TableLaws.{AreBytes}
use Rattle.aea_messages.specs.declared.message.Message.{Message}
use Rattle.aea_messages.specs.declared.fault.MessageFault.{MessageFault}
use Rattle.aea_messages.specs.declared.fault.MessageFault.TheVariants.{BadMessage, BadStream, ReadFault, NoMemory}
use Rattle.aea_messages.specs.Messages.{spelled, IsMessage}
use Rattle.aea_messages.specs.Reading.{RevealsFault}

-- Why k bytes were not taken, where only so many were: the source is at its end, a read failed, or memory was wanting, which
-- may also be told behind the last one.
abbrev pub IsLacking : Option (List ℕ) → ℕ → ℕ → ℕ → MessageFault → Type 0
IsLacking rest after k many (BadMessage at) = ⊥
IsLacking rest after k many (BadStream at) = (many < k) × IsAtEnd rest × (at ≡ after)
IsLacking rest after k many ReadFault = many < k
IsLacking rest after k many NoMemory = many ≤ k

-- Of k bytes that were wanted only these were taken.
pub record Lacks (left rest : Option (List ℕ)) (before after k : ℕ) (fault : MessageFault) : Type 0 where
  pub bytes : List ℕ
  pub are : AreBytes bytes
  pub took : Took left rest before after bytes
  pub lacking : IsLacking rest after k (length bytes) fault

-- the buffer was filled, or was not
abbrev pub FillsField : Option (List ℕ) → Option (List ℕ) → ℕ → ℕ → List ℕ → Result (Unit {0}) MessageFault → Type 0
FillsField left rest before after buffer (Ok u) = Took left rest before after buffer
FillsField left rest before after buffer (Err fault) = Lacks left rest before after (length buffer) fault

-- a field of k bytes was taken, as its value is spelled, or was not
abbrev pub ReadsField : {T : Type 0} → Option (List ℕ) → Option (List ℕ) → ℕ → ℕ → ℕ → (T → List ℕ) → Result T MessageFault → Type 0
ReadsField left rest before after k spell (Ok value) = Took left rest before after (spell value)
ReadsField left rest before after k spell (Err fault) = Lacks left rest before after k fault

-- The first bytes of a message had been taken; what was taken now is the rest of it, or tells why it is not read.
abbrev pub ReadsBehind : List ℕ → Option (List ℕ) → Option (List ℕ) → ℕ → ℕ → Result Message MessageFault → Type 0
ReadsBehind front left rest before after (Ok message) =
    IsMessage message × ((bytes : List ℕ) × Took left rest before after bytes × (spelled message ≡ front ++ bytes))
ReadsBehind front left rest before after (Err fault) =
    (bytes : List ℕ) × Took left rest before after bytes × ((start : ℕ) → start + length front ≡ before → RevealsFault rest start after (front ++ bytes) fault)
