use Rattle.std.proofs.Common.{◌++◌, codes, decimal}
use Rattle.aea_io.proofs.Printing.{prints_then, prints_stopped}
use Rattle.aea_command_loss.proofs.SitesLemmas.Cases.{pair_text}
use Rattle.aea_command_loss.proofs.sites.lines.print_case.Goals as goal

pub returns-in_err-print_number : goal.returns-in_err-print_number
returns-in_err-print_number g c =
    rw (pair_text c.args.a c.args.b c.if-a-b.false) (prints_stopped (codes " " ++ decimal c.args.b) c.from_residual.ensures.0 (rw c.from-else-a-b.ensures at c.in_err-print_number.ensures))

pub returns-in_ok-print_number : goal.returns-in_ok-print_number
returns-in_ok-print_number g c =
    rw (pair_text c.args.a c.args.b c.if-a-b.false) (prints_then (rw c.from-else-a-b.ensures at c.in_ok-print_number.ensures) (rw c.from-else-a-b-2.ensures at c.print_number-else-a-b-2.ensures))
