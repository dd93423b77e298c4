-- What checking a report may return. The blocks that are intact are given by a test.
use Rattle.std.specs.Prelude.{◌≡◌, ◌↔◌, ◌⊎◌, ℕ, Bool, List, Contains, Result, Ok, Err, IsOk, IfOk}
use Rattle.aea_lattice.specs.declared.blocks.BlockId.{BlockId}
use Rattle.aea_lattice.specs.Blocks.{HasBlock}
use Rattle.aea_disk.specs.Files.{Files}
use Rattle.aea_ledger.specs.Values.{Opened}
use Rattle.aea_archive.specs.Blocks.{RevealsSurvivors}
use Rattle.aea_report.specs.declared.head.Head.{Head}
use Rattle.aea_report.specs.declared.line.Line.{Line}
use Rattle.aea_report.specs.declared.line.Line.TheVariants.{Lost}
use Rattle.aea_report.specs.Grammar.{IsReport}
use Rattle.aea_report.specs.Faults.{IsBadLine, IsLongLine}
use Rattle.aea_report.specs.Fits.{Fits}
use Rattle.aea_reader.specs.declared.fault.ReportFault.{ReportFault}
use Rattle.aea_reader.specs.declared.fault.ReportFault.TheVariants as reading
use Rattle.aea_verify.specs.declared.verdict.Verdict.{Verdict}
use Rattle.aea_verify.specs.declared.verdict.Verdict.TheVariants.{Accepted}
use Rattle.aea_verify.specs.declared.verdict.VerifyFault.{VerifyFault}
use Rattle.aea_verify.specs.declared.verdict.VerifyFault.TheVariants.{BadLine, LineTooLong, ReadFault, DiskFault, NoMemory}
use Rattle.aea_verify.specs.Rules.{verdict_of}
use Rattle.aea_verify.specs.Shown.{IsOpenTo}

-- the fault of a check whose reading of the report has this one
abbrev pub fault_of : ReportFault → VerifyFault
fault_of (reading.BadLine k) = BadLine k
fault_of (reading.LineTooLong k) = LineTooLong k
fault_of reading.ReadFault = ReadFault
fault_of reading.NoMemory = NoMemory

-- The input is a report, and this is the verdict on it where these files are on the disk.
pub record IsJudged (v : Opened) (c : Files) (input : List ℕ) (verdict : Verdict) : Type 0 where
  pub head : Head
  pub lines : List Line
  pub report : IsReport input head lines
  pub verdict_is : (intact : BlockId → Bool) → RevealsSurvivors v.shape v.lattice.n v.digests c intact → verdict ≡ verdict_of v.lattice v.seal intact head lines

-- A verdict has its cause in the input and the files. (Of a line that is named `IsReadAs` says that it is bad or too long.)
abbrev pub Answers : Opened → Files → List ℕ → Result Verdict VerifyFault → Type 0
Answers v c input answer = IfOk answer (IsJudged v c input)

-- the result is a fault of the source or the disk, or lack of memory
abbrev pub IsFree : Result Verdict VerifyFault → Type 0
IsFree result = (result ≡ Err ReadFault) ⊎ ((result ≡ Err DiskFault) ⊎ (result ≡ Err NoMemory))

-- What the input alone decides, whatever the disk is: a verdict is one on a report, and a line that is named is bad or too long;
-- and each kind of input has its answer, but for those.
pub record IsReadAs (input : List ℕ) (result : Result Verdict VerifyFault) : Type 0 where
  pub judged : IsOk result → (h : Head) × (lines : List Line) × IsReport input h lines
  pub named_bad : (k : ℕ) → result ≡ Err (BadLine k) → IsBadLine input k
  pub named_long : (k : ℕ) → result ≡ Err (LineTooLong k) → IsLongLine input k
  pub report : (h : Head) (lines : List Line) → IsReport input h lines → IsOk result ⊎ IsFree result
  pub bad : (k : ℕ) → IsBadLine input k → (result ≡ Err (BadLine k)) ⊎ IsFree result
  pub long : (k : ℕ) → IsLongLine input k → (result ≡ Err (LineTooLong k)) ⊎ IsFree result

-- What the input and the files decide of a verdict on a report.
pub record IsAnswered (v : Opened) (c : Files) (input : List ℕ) (result : Result Verdict VerifyFault) : Type 0 where
  -- a report is accepted exactly where it fits
  pub fits : (intact : BlockId → Bool) (h : Head) (lines : List Line) → RevealsSurvivors v.shape v.lattice.n v.digests c intact → IsReport input h lines
      → IsOk result → (result ≡ Ok Accepted) ↔ Fits v.lattice v.seal intact h lines
  -- what a yes shows: no lost block can be determined from the intact ones
  pub shows : (intact : BlockId → Bool) (h : Head) (lines : List Line) (b : BlockId) (nodes : List ℕ) → RevealsSurvivors v.shape v.lattice.n v.digests c intact → IsReport input h lines
      → result ≡ Ok Accepted → Contains lines (Lost b nodes) → HasBlock v.lattice b × IsOpenTo v.lattice v.shape.block intact b
