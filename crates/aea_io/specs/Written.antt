-- What is on a sink.
use Rattle.std.specs.Prelude.{◌≡◌, ℕ, ◌-◌, ◌≤◌, min, IsOk, IfOk, OnOk, List, length, take, Option, Some, None, Result, MatchResult, ⊤}
use Rattle.std.specs.Io.KnownBytes.{Appends}
use Rattle.aea_io.specs.Streams.{SinkState}

-- where both are known, the number is that of the bytes
abbrev pub CountsBytes : Option (List ℕ) → Option ℕ → Type 0
CountsBytes (Some bytes) (Some count) = count ≡ length bytes
CountsBytes None count = ⊤
CountsBytes (Some bytes) None = ⊤

-- where the number is known, it has not fallen
abbrev pub HasNotFallen : Option ℕ → Option ℕ → Type 0
HasNotFallen None new = ⊤
HasNotFallen (Some before) None = ⊥
HasNotFallen (Some before) (Some now) = before ≤ now

-- all bytes written are flushed, where the sink reveals it
abbrev pub IsFlushed : SinkState → Type 0
IsFlushed s = CountsBytes s.written s.flushed

-- what was flushed stays flushed, where the sink reveals it
abbrev pub StaysFlushed : SinkState → SinkState → Type 0
StaysFlushed old new = HasNotFallen old.flushed new.flushed

-- some first bytes of the piece were appended
abbrev pub AppendsPart : Option (List ℕ) → Option (List ℕ) → List ℕ → Type 0
AppendsPart old new bytes = (k : ℕ) × (k ≤ length bytes) × Appends old new (take k bytes)

-- all the bytes were appended, or, where the answer is a fault, some first ones
abbrev pub PutsAll : {T E : Type 0} → Option (List ℕ) → Option (List ℕ) → Result T E → List ℕ → Type 0
PutsAll old new result bytes = MatchResult result (λ _. Appends old new bytes) (λ _. AppendsPart old new bytes)

-- Where the sink reveals its space: with space left, or for an empty piece, a write is no fault; what it appends it
-- takes from the space; and the count of faults stays.
pub record WritesInRoom {E : Type 0} (old new : SinkState) (result : Result ℕ E) (bytes : List ℕ) : Type 0 where
  pub fits : (room : ℕ) → old.room ≡ Some room → min 1 (length bytes) ≤ room → IsOk result
  pub left : (room : ℕ) → old.room ≡ Some room → IfOk result (λ k. (k ≤ room) × (new.room ≡ Some (room - k)))
  pub steady : (room : ℕ) → old.room ≡ Some room → OnOk result (new.faults ≡ old.faults)

-- where the sink reveals its space, a flush is no fault and changes neither space nor count
pub record FlushesInRoom {T E : Type 0} (old new : SinkState) (result : Result T E) : Type 0 where
  pub fits : (room : ℕ) → old.room ≡ Some room → IsOk result
  pub left : (room : ℕ) → old.room ≡ Some room → new.room ≡ Some room
  pub steady : (room : ℕ) → old.room ≡ Some room → new.faults ≡ old.faults

-- where the sink reveals space for all the bytes, they go in without a fault
pub record PutsInRoom {T E : Type 0} (old new : SinkState) (result : Result T E) (bytes : List ℕ) : Type 0 where
  pub fits : (room : ℕ) → old.room ≡ Some room → length bytes ≤ room → IsOk result
  pub left : (room : ℕ) → old.room ≡ Some room → length bytes ≤ room → new.room ≡ Some (room - length bytes)
  pub steady : (room : ℕ) → old.room ≡ Some room → length bytes ≤ room → new.faults ≡ old.faults
