use Rattle.std.proofs.Common.{◌++◌, codes, decimal}
use Rattle.aea_io.proofs.Printing.{prints_then, prints_stopped}
use Rattle.aea_command.specs.Lines.{newline}
use Rattle.aea_command_loss.specs.Sites.{first_text}
use Rattle.aea_command_loss.proofs.sites.lines.print_loss.Goals as goal

pub returns-in_err-print_case : goal.returns-in_err-print_case
returns-in_err-print_case g c =
    prints_stopped ((codes " lost " ++ decimal c.args.loss.now.lost) ++ (first_text c.args.loss.now.first ++ newline)) c.from_residual.ensures.0 c.in_err-print_case.ensures

pub returns-in_err-print_number : goal.returns-in_err-print_number
returns-in_err-print_number g c =
    prints_then c.in_ok-print_case.ensures (prints_stopped (first_text c.args.loss.now.first ++ newline) c.from_residual-in_err-print_number.ensures.0 (rw c.from.ensures at c.in_err-print_number.ensures))

pub returns-in_err-print_first : goal.returns-in_err-print_first
returns-in_err-print_first g c =
    prints_then c.in_ok-print_case.ensures (prints_then (rw c.from.ensures at c.in_ok-print_number.ensures) (prints_stopped newline c.from_residual-in_err-print_first.ensures.0 c.in_err-print_first.ensures))

pub returns : goal.returns
returns g c = prints_then c.in_ok-print_case.ensures (prints_then (rw c.from.ensures at c.in_ok-print_number.ensures) (prints_then c.in_ok-print_first.ensures c.print.ensures))
