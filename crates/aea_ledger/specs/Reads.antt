-- What was read of a file.
use Rattle.std.specs.Prelude.{◌≡◌, ℕ, List, length, take, drop}

-- a place of a file, and bytes that were read from there on
pub record Ahead : Type 0 where
  pub place : ℕ
  pub bytes : List ℕ

-- the bytes are those that the file has at the place
abbrev pub IsAhead : Ahead → List ℕ → Type 0
IsAhead a file = a.bytes ≡ take (length a.bytes) (drop a.place file)
