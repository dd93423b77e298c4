-- Printing through a page: bytes are gathered on a page of a fixed size, and written when it is full.
use Rattle.std.specs.Prelude.{◌≡◌, ℕ, ◌+◌, ◌≤◌, List, ◌++◌, length, Some, Result, MatchResult, IsOk}
use Rattle.std.specs.Io.KnownBytes.{Appends}
use Rattle.aea_faults.specs.Faults.{HasCause}
use Rattle.aea_io.specs.Streams.{SinkState}
use Rattle.aea_io.specs.Written.{AppendsPart}

-- The piece came after the bytes of the page, some first of all these bytes were appended to the sink, and the
-- others are on the page.
abbrev pub Gathers : SinkState → List ℕ → SinkState → List ℕ → List ℕ → Type 0
Gathers old before new after piece = (sent : List ℕ) × Appends old.written new.written sent × (before ++ piece ≡ sent ++ after)

-- The piece is printed, or, where a write failed, a first part of the page's bytes and the piece is on the sink.
-- A sink that reveals space for all these bytes does not fail, and they are taken from its space as they are written.
pub record Prints {T E : Type 0} (old : SinkState) (before : List ℕ) (new : SinkState) (after : List ℕ) (result : Result T E) (piece : List ℕ) : Type 0 where
  pub bytes : MatchResult result (λ _. Gathers old before new after piece) (λ _. AppendsPart old.written new.written (before ++ piece))
  pub fits : (room : ℕ) → old.room ≡ Some room → length (before ++ piece) ≤ room → IsOk result
  pub left : (room : ℕ) → old.room ≡ Some room → length (before ++ piece) ≤ room
      → (rest : ℕ) × (new.room ≡ Some rest) × (rest + length (before ++ piece) ≡ room + length after)
  pub steady : (room : ℕ) → old.room ≡ Some room → length (before ++ piece) ≤ room → new.faults ≡ old.faults
  pub cause : HasCause old.faults new.faults result
