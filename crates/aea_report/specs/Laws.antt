-- What follows of the grammar, and of what is printed.
use Rattle.std.specs.Prelude.{◌≡◌, ◌⊎◌, ◌↔◌, ℕ, ◌<◌, Bool, List, length, All, Option, Some, IfSome, IsTrue}
use Rattle.aea_lattice.specs.declared.blocks.BlockId.{BlockId}
use Rattle.aea_lattice.specs.declared.grid.Lattice.{Lattice}
use Rattle.aea_lattice.specs.Blocks.{HasBlock}
use Rattle.aea_lattice.specs.Data.{IsBytes, Determines}
use Rattle.aea_report.specs.declared.head.Head.{Head}
use Rattle.aea_report.specs.declared.line.Line.{Line}
use Rattle.aea_report.specs.Format.{report_texts, report_bytes}
use Rattle.aea_report.specs.Grammar.{IsReport}
use Rattle.aea_report.specs.Faults.{IsBadLine, IsLongLine}
use Rattle.aea_report.specs.Fits.{Fits}
use Rattle.aea_report.specs.Printed.{IsPrinted}

-- No bytes are reports of two heads or of two lists of lines.
abbrev pub HaveOneReading : Type 0
HaveOneReading =
    (bytes : List ℕ) (h g : Head) (lines others : List Line)
    → IsReport bytes h lines → IsReport bytes g others → (h ≡ g) × (lines ≡ others)

-- A report is bad or too long at no line.
abbrev pub ReportsAreNotBad : Type 0
ReportsAreNotBad =
    (bytes : List ℕ) (h : Head) (lines : List Line) (k : ℕ)
    → IsReport bytes h lines → (IsBadLine bytes k → ⊥) × (IsLongLine bytes k → ⊥)

-- No bytes are bad or too long at two lines, or bad and too long.
abbrev pub AreBadAtOneLine : Type 0
AreBadAtOneLine =
    (bytes : List ℕ) (j k : ℕ)
    → (IsBadLine bytes j → IsBadLine bytes k → j ≡ k)
    × (IsLongLine bytes j → IsLongLine bytes k → j ≡ k)
    × (IsBadLine bytes j → IsLongLine bytes k → ⊥)

-- the bytes are a report of some head and lines
abbrev pub AreReport : List ℕ → Type 0
AreReport bytes = (h : Head) × (lines : List Line) × IsReport bytes h lines

-- All bytes are a report, or bad at a line, or too long at a line.
abbrev pub AreReportOrBad : Type 0
AreReportOrBad = (bytes : List ℕ) → AreReport bytes ⊎ ((k : ℕ) × (IsBadLine bytes k ⊎ IsLongLine bytes k))

-- No line of a report has 7,400,000 bytes: it has at most 1,048,576 nodes, of which no more than 48,577 have seven digits.
-- So none is too long.
abbrev pub LinesAreShort : Type 0
LinesAreShort =
    (bytes : List ℕ) (h : Head) (lines : List Line) → IsReport bytes h lines
    → All (λ text. length text < 7400000) (report_texts h lines)

-- What is printed is a report.
abbrev pub PrintedAreReports : Type 0
PrintedAreReports =
    (l : Lattice) (known : BlockId → Bool) (seal : Option (List ℕ)) (h : Head) (lines : List Line)
    → IfSome seal (IsBytes 32) → IsPrinted l known seal h lines → IsReport (report_bytes h lines) h lines

-- What is printed for the known blocks fits where exactly the blocks that they determine are intact.
abbrev pub PrintedReportsFit : Type 0
PrintedReportsFit =
    (l : Lattice) (known intact : BlockId → Bool) (seal : List ℕ) (h : Head) (lines : List Line)
    → IsPrinted l known (Some seal) h lines
    → ((b : BlockId) → HasBlock l b → IsTrue (intact b) ↔ Determines l known b)
    → Fits l seal intact h lines

-- For a lattice, its known blocks and a seal no two reports are printed.
abbrev pub PrintedAreOne : Type 0
PrintedAreOne =
    (l : Lattice) (known : BlockId → Bool) (seal : Option (List ℕ)) (h g : Head) (lines others : List Line)
    → IsPrinted l known seal h lines → IsPrinted l known seal g others → (h ≡ g) × (lines ≡ others)
