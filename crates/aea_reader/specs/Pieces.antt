-- Lines of a source that are read piece by piece through a page.
use Rattle.std.specs.Prelude.{◌≡◌, ℕ, ◌+◌, ◌≤◌, List, [], ◌∷◌, ◌++◌, length, Bool, true, false, Option}
use Rattle.std.specs.Io.KnownBytes.{Consumes, IsAtEnd}
use Rattle.aea_report.specs.Faults.{greatest_line}
use Rattle.aea_reader.specs.declared.lines.LineEnd.{LineEnd}
use Rattle.aea_reader.specs.declared.lines.LineEnd.TheVariants.{Newline, Last, TooLong}
use Rattle.aea_reader.specs.Words.{IsFree}

-- what follows a piece of a line: a newline and the rest, or the rest alone
abbrev pub behind : Bool → List ℕ → List ℕ
behind true rest = 10 ∷ rest
behind false rest = rest

-- A piece of what was ahead was moved to the end of the line, up to a newline that was met, or else all of it.
pub record Moves (line ahead grown after : List ℕ) (met : Bool) : Type 0 where
  pub are : line ++ ahead ≡ grown ++ behind met after
  pub plain : IsFree 10 line → IsFree 10 grown
  pub rest : met ≡ false → after ≡ []

-- what was ahead, and what the source has given since, are these bytes together
pub record Gathers (ahead : List ℕ) (old new : Option (List ℕ)) (bytes : List ℕ) : Type 0 where
  pub taken : List ℕ
  pub consumed : Consumes old new taken
  pub are : ahead ++ taken ≡ bytes

-- A line was read of what was ahead and what the source gave: up to its newline; or all that there was; or its first byte
-- that is too many, and nothing after that. What is ahead now follows it.
abbrev pub HasLine : List ℕ → Option (List ℕ) → Option (List ℕ) → List ℕ → List ℕ → LineEnd → Type 0
HasLine ahead old new line after Newline = Gathers ahead old new (line ++ 10 ∷ after) × (length line ≤ greatest_line)
HasLine ahead old new line after Last = Gathers ahead old new line × (after ≡ []) × IsAtEnd new × (length line ≤ greatest_line)
HasLine ahead old new line after TooLong = Gathers ahead old new line × (after ≡ []) × (length line ≡ greatest_line + 1)
