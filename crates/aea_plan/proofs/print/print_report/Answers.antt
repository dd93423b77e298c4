use Rattle.aea_io.proofs.Printing.{prints_then, prints_stopped}
use Rattle.aea_plan.specs.Plans.{head_by}
use Rattle.aea_plan.specs.Verdicts.{lines_by}
use Rattle.aea_plan.proofs.Printing.{report-parts, texts_of}
use Rattle.aea_plan.proofs.print.print_report.Goals as goal

pub returns-in_err-print_head : goal.returns-in_err-print_head
returns-in_err-print_head g c =
    let plan = c.args.plan.now in
    rw (report-parts (head_by c.args.seal.now plan) (lines_by plan.verdicts))
    (prints_stopped (texts_of (lines_by plan.verdicts)) c.from_residual.ensures.0 (rw c.head_of.ensures at c.in_err-print_head.ensures))

pub returns : goal.returns
returns g c =
    let plan = c.args.plan.now in
    rw (report-parts (head_by c.args.seal.now plan) (lines_by plan.verdicts))
    (prints_then (rw c.head_of.ensures at c.in_ok-print_head.ensures) c.print_lines.ensures)
