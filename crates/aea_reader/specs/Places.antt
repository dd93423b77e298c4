-- Where a reader is in its input.
use Rattle.std.specs.Prelude.{◌≡◌, ℕ, ◌+◌, ◌≤◌, List, [], ◌∷◌, ◌++◌, length, Bool, true, false, Option, Some, Result, Ok, Err}
use Rattle.aea_report.specs.Faults.{greatest_line, IsAtLine, IsBadLine, IsLongLine}
use Rattle.aea_reader.specs.declared.fault.ReportFault.{ReportFault}
use Rattle.aea_reader.specs.declared.fault.ReportFault.TheVariants.{BadLine, LineTooLong, ReadFault, NoMemory}
use Rattle.aea_reader.specs.Words.{IsFree}

-- what was taken and not read yet, and what the source has left, are these bytes together
pub record Stands (ahead : List ℕ) (left : Option (List ℕ)) (bytes : List ℕ) : Type 0 where
  pub rest : List ℕ
  pub revealed : left ≡ Some rest
  pub are : bytes ≡ ahead ++ rest

-- Line k of the input is to be read next, after these lines, with which some report begins.
pub record IsAt (input : List ℕ) (k : ℕ) (texts : List (List ℕ)) (ahead : List ℕ) (left : Option (List ℕ)) : Type 0 where
  pub rest : List ℕ
  pub at : IsAtLine input k texts rest
  pub stands : Stands ahead left rest

-- Line k of the input was read, up to its newline.
pub record HasText (input : List ℕ) (k : ℕ) (texts : List (List ℕ)) (text : List ℕ) (ahead : List ℕ) (left : Option (List ℕ)) : Type 0 where
  pub rest : List ℕ
  pub at : IsAtLine input k texts (text ++ 10 ∷ rest)
  pub plain : IsFree 10 text
  pub short : length text ≤ greatest_line
  pub stands : Stands ahead left rest

-- Of line k the source gave the first byte that is too many, and none after it.
pub record IsStopped (input : List ℕ) (k : ℕ) (left : Option (List ℕ)) : Type 0 where
  pub texts : List (List ℕ)
  pub line : List ℕ
  pub rest : List ℕ
  pub at : IsAtLine input k texts (line ++ rest)
  pub plain : IsFree 10 line
  pub long : length line ≡ greatest_line + 1
  pub revealed : left ≡ Some rest

-- What a fault at line k says of the input: that this line is bad, or too long. A fault of the source and a lack of memory
-- say nothing of it.
abbrev pub IsFault : List ℕ → ℕ → Option (List ℕ) → ReportFault → Type 0
IsFault input k left (BadLine j) = (j ≡ k) × IsBadLine input k
IsFault input k left (LineTooLong j) = (j ≡ k) × IsLongLine input k × IsStopped input k left
IsFault input k left ReadFault = Unit {0}
IsFault input k left NoMemory = Unit {0}

-- What was found at line k: its text; that nothing is left; or a fault.
abbrev pub HasFound : List ℕ → ℕ → List (List ℕ) → List ℕ → List ℕ → Option (List ℕ) → Result Bool ReportFault → Type 0
HasFound input k texts text ahead left (Ok true) = HasText input k texts text ahead left
HasFound input k texts text ahead left (Ok false) = IsAtLine input k texts [] × (ahead ≡ []) × (left ≡ Some [])
HasFound input k texts text ahead left (Err fault) = IsFault input k left fault
