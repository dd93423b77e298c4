-- What a reader returns, by what was found at the line where it is.
use Rattle.std.proofs.Common.{◌≡◌, ℕ, List, [], Option, Some, Ok, Err, arith, sym, subst}
use Rattle.aea_report.specs.declared.head.Head.{Head}
use Rattle.aea_report.specs.declared.line.Line.{Line}
use Rattle.aea_report.specs.Format.{report_texts}
use Rattle.aea_report.specs.Grammar.{IsLine}
use Rattle.aea_report.specs.Faults.{IsAtLine, IsBadLine, IsLongLine}
use Rattle.aea_report.specs.Laws.{HaveOneReading}
use Rattle.aea_reader.specs.declared.fault.ReportFault.{ReportFault}
use Rattle.aea_reader.specs.declared.fault.ReportFault.TheVariants.{BadLine, LineTooLong, ReadFault, NoMemory}
use Rattle.aea_reader.specs.declared.answer.Next.TheVariants as next
use Rattle.aea_reader.specs.Places.{HasText, IsFault, IsStopped}
use Rattle.aea_reader.specs.Readings.{Reading, IsReading, HasRead}
use Rattle.aea_reader.proofs.Places.{text_bad}
use Rattle.aea_reader.proofs.NextLines.{reading_end}
use Rattle.aea_reader.proofs.Following.{followed}
use Rattle.aea_reader.proofs.BlockLines.{NoLine}

-- a fault
pub read_fault : (input : List ℕ) (h : Head) (lines : List Line) (v w : Reading) (left now : Option (List ℕ)) (fault : ReportFault) → IsReading input h lines v left
    → IsFault input v.line now fault → HasRead input h lines w now (Err fault)
read_fault input h lines v w left now (BadLine j) is fault =
    let place = is.line in let at : j ≡ v.line = fault.0 in
    (omega arith, subst (IsBadLine input) (sym at) fault.1)
read_fault input h lines v w left now (LineTooLong j) is fault =
    let place = is.line in let at : j ≡ v.line = fault.0 in
    (omega arith, subst (IsLongLine input) (sym at) fault.1, subst (λ i. IsStopped input i now) (sym at) fault.2)
read_fault input h lines v w left now ReadFault is fault = tt
read_fault input h lines v w left now NoMemory is fault = tt

-- the end
pub read_end : (input : List ℕ) (h : Head) (lines : List Line) (v w : Reading) (left now : Option (List ℕ)) → IsReading input h lines v left
    → IsAtLine input v.line (report_texts h lines) [] × (w.ahead ≡ []) × (now ≡ Some []) → HasRead input h lines w now (Ok next.End)
read_end input h lines v w left now is found = (reading_end input h lines v left v.line is found.0, found.1, found.2)

-- a line that may not follow
pub read_bad : HaveOneReading → (input : List ℕ) (h : Head) (lines : List Line) (v w : Reading) (left now : Option (List ℕ)) (text ahead : List ℕ) → IsReading input h lines v left
    → HasText input v.line (report_texts h lines) text ahead now → NoLine v.lattice v.least text → HasRead input h lines w now (Err (BadLine v.line))
read_bad one input h lines v w left now text ahead is has none = (
  is.line,
  text_bad input v.line (report_texts h lines) text ahead now has
      (λ begins.
      let found = followed one v.lattice h lines text is.head is.valid begins in
      none found.0 (subst (λ k. IsLine v.lattice k found.0) (sym is.least) found.1) found.2),
)
