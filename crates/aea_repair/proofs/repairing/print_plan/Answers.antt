use Rattle.aea_io.proofs.Printing.{prints_then_nothing, prints_failed, prints_as}
use Rattle.aea_repair.proofs.repairing.print_plan.Goals as goal

pub returns-in_err-print_report-clause-prints : goal.returns-in_err-print_report-clause-prints
returns-in_err-print_report-clause-prints g c =
    prints_failed {T = Unit {0}} c.from_residual.ensures.0 (rw c.seal.ensures at (rw c.new-page.ensures at c.in_err-print_report.ensures))

pub returns-in_err-finish-clause-prints : goal.returns-in_err-finish-clause-prints
returns-in_err-finish-clause-prints g c =
    prints_failed {T = Unit {0}} c.from_residual-in_err-finish.ensures.0
    (prints_then_nothing (rw c.seal.ensures at (rw c.new-page.ensures at c.in_ok-print_report.ensures)) c.in_err-finish.ensures.prints)

pub returns-clause-prints : goal.returns-clause-prints
returns-clause-prints g c =
    prints_as tt
    (prints_then_nothing (rw c.seal.ensures at (rw c.new-page.ensures at c.in_ok-print_report.ensures))
    (rw c.in_ok-finish.ensures.empty at c.in_ok-finish.ensures.prints))
