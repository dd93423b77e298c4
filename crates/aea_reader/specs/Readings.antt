-- A reader of a report, and what it returns.
use Rattle.std.specs.Prelude.{◌≡◌, ℕ, ◌+◌, ◌≤◌, List, [], ◌∷◌, ◌++◌, length, Option, Some, None, Result, Ok, Err, refl}
use Rattle.std.specs.Coded.{Coded, code_by, coded×, coded_list, coded_ℕ, coded_option}
use Rattle.aea_lattice.specs.declared.grid.Lattice.{Lattice}
use Rattle.aea_lattice.specs.contracts.grid.Lattice as lattices
use Rattle.aea_lattice.specs.Blocks.{number_of}
use Rattle.aea_report.specs.declared.head.Head.{Head}
use Rattle.aea_report.specs.declared.line.Line.{Line}
use Rattle.aea_report.specs.Format.{block_in, report_bytes}
use Rattle.aea_report.specs.Grammar.{IsHeadOf, IsLine, AreLines, IsReport}
use Rattle.aea_report.specs.Faults.{IsBadLine, IsLongLine}
use Rattle.aea_reader.specs.declared.fault.ReportFault.{ReportFault}
use Rattle.aea_reader.specs.declared.fault.ReportFault.TheVariants.{BadLine, LineTooLong, ReadFault, NoMemory}
use Rattle.aea_reader.specs.declared.answer.Next.{Next}
use Rattle.aea_reader.specs.declared.answer.Next.TheVariants as next
use Rattle.aea_reader.specs.declared.answer.Ending.{Ending}
use Rattle.aea_reader.specs.declared.answer.Ending.TheVariants.{Ended, Failed}
use Rattle.aea_reader.specs.contracts.answer.Ending as endings
use Rattle.aea_reader.specs.Places.{IsStopped}

-- A reader: the lattice of line 2, the number of the next line, the least number that its block may have, the bytes that it
-- took from the source and has not judged yet, and what it returns from now on, once that is settled.
pub record Reading : Type 0 where
  pub lattice : Lattice
  pub line : ℕ
  pub least : ℕ
  pub ahead : List ℕ
  pub settled : Option Ending

-- a reader as the tuple of its parts
abbrev pub reading_code : Coded Reading
reading_code =
    code_by (Lattice × (ℕ × (ℕ × (List ℕ × Option Ending))))
    (coded× lattices.the_row.coded (coded× coded_ℕ (coded× coded_ℕ (coded× (coded_list coded_ℕ) (coded_option endings.the_row.coded)))))
    (λ v. (v.lattice, (v.line, (v.least, (v.ahead, v.settled)))))
    (λ t. record { lattice = t.0; line = t.1.0; least = t.1.1.0; ahead = t.1.1.1.0; settled = t.1.1.1.1 })
    (λ _. refl)

-- the least number that the block of a line after these may have
abbrev pub least_after : Lattice → ℕ → List Line → ℕ
least_after l least [] = least
least_after l least (line ∷ lines) = least_after l (number_of l (block_in line) + 1) lines

-- The reader has read the head and these lines of the input, and what it took beyond them and what the source has left are
-- the rest.
pub record IsReading (input : List ℕ) (h : Head) (lines : List Line) (v : Reading) (left : Option (List ℕ)) : Type 0 where
  pub head : IsHeadOf v.lattice h
  pub valid : AreLines v.lattice lines
  pub open_still : v.settled ≡ None
  pub line : v.line ≡ 5 + length lines
  pub least : v.least ≡ least_after v.lattice 0 lines
  pub rest : List ℕ
  pub revealed : left ≡ Some rest
  pub spelling : input ≡ report_bytes h lines ++ (v.ahead ++ rest)

-- What a fault in a head says of the input: that a line of the head is bad or too long. A fault of the source and a lack of
-- memory say nothing of it.
abbrev pub IsHeadFault : List ℕ → Option (List ℕ) → ReportFault → Type 0
IsHeadFault input left (BadLine k) = (k ≤ 4) × IsBadLine input k
IsHeadFault input left (LineTooLong k) = (k ≤ 4) × IsLongLine input k × IsStopped input k left
IsHeadFault input left ReadFault = Unit {0}
IsHeadFault input left NoMemory = Unit {0}

-- What the beginning of a reader says of the input: it has read the head, or a line of the head is bad or too long.
abbrev pub HasBegun : List ℕ → Option (List ℕ) → Result (Reading × Head) ReportFault → Type 0
HasBegun input left (Ok v) = IsReading input v.1 [] v.0 left
HasBegun input left (Err fault) = IsHeadFault input left fault

-- What the next answer of a reader says that has read the head and these lines of the input: one line more; that the
-- input is a report of these; or that the next line is bad or too long.
abbrev pub HasRead : List ℕ → Head → List Line → Reading → Option (List ℕ) → Result Next ReportFault → Type 0
HasRead input h lines v left (Ok (next.Line line)) = IsReading input h (lines ++ line ∷ []) v left
HasRead input h lines v left (Ok next.End) = IsReport input h lines × (v.ahead ≡ []) × (left ≡ Some [])
HasRead input h lines v left (Err (BadLine k)) = (k ≡ 5 + length lines) × IsBadLine input k
HasRead input h lines v left (Err (LineTooLong k)) = (k ≡ 5 + length lines) × IsLongLine input k × IsStopped input k left
HasRead input h lines v left (Err ReadFault) = Unit {0}
HasRead input h lines v left (Err NoMemory) = Unit {0}

-- Over any source: a line that was read may follow those before it, and the reader goes on after it.
pub record Advances (old new : Reading) (line : Line) : Type 0 where
  pub lattice : new.lattice ≡ old.lattice
  pub valid : IsLine old.lattice old.least line
  pub number : new.line ≡ old.line + 1
  pub least : new.least ≡ number_of old.lattice (block_in line) + 1
  pub open_still : new.settled ≡ None

-- what a reader that is settled returns
abbrev pub answer_of : Ending → Result Next ReportFault
answer_of Ended = Ok next.End
answer_of (Failed fault) = Err fault

-- an answer settles a reader, but for a line
abbrev pub Settles : Result Next ReportFault → Option Ending → Type 0
Settles (Ok (next.Line line)) settled = settled ≡ None
Settles (Ok next.End) settled = settled ≡ Some Ended
Settles (Err fault) settled = settled ≡ Some (Failed fault)
