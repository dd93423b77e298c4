use Rattle.aea_io.proofs.Printing.{prints_then}
use Rattle.aea_command.proofs.lines.print_counted.Goals as goal

pub returns : goal.returns
returns g c = prints_then c.in_ok-print_number.ensures c.print.ensures
