use Rattle.std.proofs.Common.{◌++◌, codes, decimal}
use Rattle.aea_command.specs.Lines.{newline}
use Rattle.aea_io.proofs.Printing.{prints_then, prints_stopped}
use Rattle.aea_command.proofs.lines.print_copies_bad.Goals as goal

pub returns-in_err-print_number : goal.returns-in_err-print_number
returns-in_err-print_number g c = prints_stopped (codes " and " ++ decimal c.args.second ++ newline) c.from_residual.ensures.0 c.in_err-print_number.ensures

pub returns : goal.returns
returns g c = prints_then c.in_ok-print_number.ensures c.print_counted.ensures
