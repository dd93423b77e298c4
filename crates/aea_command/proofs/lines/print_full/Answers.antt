use Rattle.std.proofs.Common.{codes}
use Rattle.aea_io.proofs.Printing.{prints_then, prints_stopped}
use Rattle.aea_command.proofs.lines.print_full.Goals as goal

pub returns-in_err-print_number : goal.returns-in_err-print_number
returns-in_err-print_number g c = prints_stopped (codes " nodes\n") c.from_residual.ensures.0 (rw c.from.ensures at c.in_err-print_number.ensures)

pub returns : goal.returns
returns g c = prints_then (rw c.from.ensures at c.in_ok-print_number.ensures) c.print.ensures
