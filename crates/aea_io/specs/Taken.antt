-- What was taken from a source.
use Rattle.std.specs.Prelude.{◌≡◌, ℕ, ◌+◌, ◌<◌, ◌≤◌, List, length, take, Option, Result, Ok, Err}
use Rattle.std.specs.Io.KnownBytes.{Consumes, IsAtEnd}
use Rattle.aea_io.specs.declared.full.FillFault.{FillFault}
use Rattle.aea_io.specs.declared.full.FillFault.TheVariants.{Ended}

-- at most n bytes were taken
abbrev pub TakesAtMost : Option (List ℕ) → Option (List ℕ) → ℕ → Type 0
TakesAtMost old new n = (bytes : List ℕ) × Consumes old new bytes × (length bytes ≤ n)

-- The first k bytes of the buffer were taken, fewer than it holds only where nothing is left.
pub record TakesFirst (old new : Option (List ℕ)) (k : ℕ) (buffer : List ℕ) : Type 0 where
  pub within : k ≤ length buffer
  pub taken : Consumes old new (take k buffer)
  pub end : k < length buffer → IsAtEnd new

-- These bytes were taken, and the number that counts them grew by as many.
pub record Took (left rest : Option (List ℕ)) (before after : ℕ) (bytes : List ℕ) : Type 0 where
  pub taken : Consumes left rest bytes
  pub counted : after ≡ before + length bytes

-- At most n bytes were taken, and the number that counts them grew by as many.
pub record Counts (left rest : Option (List ℕ)) (before after n : ℕ) : Type 0 where
  pub bytes : List ℕ
  pub taken : Consumes left rest bytes
  pub counted : after ≡ before + length bytes
  pub most : length bytes ≤ n

-- Only these first bytes of the buffer were taken: the source ended, or a read failed.
pub record FillsFront (left rest : Option (List ℕ)) (before after : ℕ) (buffer : List ℕ) (fault : FillFault) : Type 0 where
  pub count : ℕ
  pub short : count < length buffer
  pub took : Took left rest before after (take count buffer)
  pub end : fault ≡ Ended → IsAtEnd rest

-- the buffer was filled, or its front was
abbrev pub FillsAll : Option (List ℕ) → Option (List ℕ) → ℕ → ℕ → List ℕ → Result (Unit {0}) FillFault → Type 0
FillsAll left rest before after buffer (Ok u) = Took left rest before after buffer
FillsAll left rest before after buffer (Err fault) = FillsFront left rest before after buffer fault
