-- What a report says that is judged by a test for the intact blocks.
use Rattle.std.specs.Prelude.{◌≡◌, ℕ, ◌<◌, ◌≤◌, Bool, true, List, Option, None, Some, Result, Ok, Err}
use Rattle.aea_lattice.specs.declared.blocks.BlockId.{BlockId}
use Rattle.aea_lattice.specs.declared.grid.Lattice.{Lattice}
use Rattle.aea_lattice.specs.Blocks.{blocks_count}
use Rattle.aea_report.specs.declared.head.Head.{Head}
use Rattle.aea_report.specs.declared.line.Line.{Line}
use Rattle.aea_report.specs.Grammar.{IsReport}
use Rattle.aea_report.specs.Faults.{IsBadLine, IsLongLine}
use Rattle.aea_reader.specs.declared.fault.ReportFault.{ReportFault}
use Rattle.aea_reader.specs.declared.fault.ReportFault.TheVariants.{BadLine, LineTooLong, ReadFault, NoMemory}
use Rattle.aea_reader.specs.Readings.{Reading, IsReading}
use Rattle.aea_verify.specs.declared.verdict.Why.TheVariants.{OtherArchive}
use Rattle.aea_verify.specs.declared.verdict.Verdict.{Verdict}
use Rattle.aea_verify.specs.declared.verdict.Verdict.TheVariants.{Rejected}
use Rattle.aea_verify.specs.declared.tally.Tally.{Tally}
use Rattle.aea_verify.specs.Rules.{has_lattice, has_seal, verdict_of}
use Rattle.aea_verify.specs.Tallies.{IsTally, IsSmall}

-- the two lattices have the same blocks, with the same numbers
pub record HasSameBlocks (l m : Lattice) : Type 0 where
  pub alpha : m.alpha ≡ l.alpha
  pub nodes : m.n ≡ l.n

-- the tally goes with the reader: it is small, and both have the same least number for the block of the next line
pub record IsGoing (l : Lattice) (v : Reading) (t : Tally) : Type 0 where
  pub blocks : HasSameBlocks l v.lattice
  pub small : IsSmall l t
  pub least : t.least ≡ v.least

-- a line was read, and where it was judged, the tally goes with the reader
pub record MovesOn (judged : Bool) (l : Lattice) (old new : Reading) (t : Tally) : Type 0 where
  pub open_still : new.settled ≡ None
  pub lattice : new.lattice ≡ old.lattice
  pub rises : old.least < new.least
  pub inside : new.least ≤ blocks_count old.lattice
  pub going : judged ≡ true → IsGoing l new t

-- the same of what may be the end of the report
abbrev pub GoesOn : Bool → Lattice → Reading → Reading → Option Tally → Type 0
GoesOn judged l old new None = Unit {0}
GoesOn judged l old new (Some t) = MovesOn judged l old new t

-- What a fault says of the input. A fault of the source and lack of memory say nothing of it.
abbrev pub FaultSays : List ℕ → ReportFault → Type 0
FaultSays input (BadLine k) = IsBadLine input k
FaultSays input (LineTooLong k) = IsLongLine input k
FaultSays input ReadFault = Unit {0}
FaultSays input NoMemory = Unit {0}

-- Some lines were read of a report with this head; where they are judged, the tally is theirs.
pub record HasSome (judged : Bool) (l : Lattice) (intact : BlockId → Bool) (input : List ℕ) (h : Head) (v : Reading) (left : Option (List ℕ)) (t : Tally) : Type 0 where
  pub lines : List Line
  pub reading : IsReading input h lines v left
  pub tally : judged ≡ true → IsTally l intact lines t

-- The input is a report with this head; where its lines are judged, the tally is theirs.
pub record HasAll (judged : Bool) (l : Lattice) (intact : BlockId → Bool) (input : List ℕ) (h : Head) (t : Tally) : Type 0 where
  pub lines : List Line
  pub report : IsReport input h lines
  pub tally : judged ≡ true → IsTally l intact lines t

-- What the answer says of the next line.
abbrev pub LineSays : Bool → Lattice → (BlockId → Bool) → List ℕ → Head → Reading → Option (List ℕ) → Tally → Result (Option Tally) ReportFault → Type 0
LineSays judged l intact input h v left t (Ok None) = HasAll judged l intact input h t
LineSays judged l intact input h v left t (Ok (Some u)) = HasSome judged l intact input h v left u
LineSays judged l intact input h v left t (Err fault) = FaultSays input fault

-- What the answer says of the lines after a head.
abbrev pub LinesSay : Bool → Lattice → (BlockId → Bool) → List ℕ → Head → Result Tally ReportFault → Type 0
LinesSay judged l intact input h (Ok t) = HasAll judged l intact input h t
LinesSay judged l intact input h (Err fault) = FaultSays input fault

-- What the answer says of the rules on a head: it keeps both; or the first that it breaks is named at this line.
abbrev pub HeadSays : Lattice → List ℕ → Head → Option ℕ → Type 0
HeadSays l seal h None = (has_lattice l h ≡ true) × (has_seal seal h.seal ≡ true)
HeadSays l seal h (Some k) = (intact : BlockId → Bool) (lines : List Line) → verdict_of l seal intact h lines ≡ Rejected k OtherArchive

-- The input is a report, and this is the verdict on it.
pub record HasVerdict (l : Lattice) (seal : List ℕ) (intact : BlockId → Bool) (input : List ℕ) (verdict : Verdict) : Type 0 where
  pub head : Head
  pub lines : List Line
  pub report : IsReport input head lines
  pub verdict_is : verdict ≡ verdict_of l seal intact head lines

-- What the answer says of a whole report.
abbrev pub ReportSays : Lattice → List ℕ → (BlockId → Bool) → List ℕ → Result Verdict ReportFault → Type 0
ReportSays l seal intact input (Ok verdict) = HasVerdict l seal intact input verdict
ReportSays l seal intact input (Err fault) = FaultSays input fault
