use Rattle.std.proofs.Common.{◌++◌, codes}
use Rattle.aea_io.proofs.Printing.{prints_then, prints_stopped}
use Rattle.aea_report.specs.Format.{numbers_text}
use Rattle.aea_command_loss.proofs.sites.lines.print_first.Goals as goal

pub returns-in_err-print_block : goal.returns-in_err-print_block
returns-in_err-print_block g c = rw c.in-Some.is (prints_stopped (codes " by" ++ numbers_text c.in-Some.first.nodes) c.from_residual.ensures.0 c.in_err-print_block.ensures)

pub returns-in_err-print : goal.returns-in_err-print
returns-in_err-print g c =
    rw c.in-Some.is (prints_then c.in_ok-print_block.ensures (prints_stopped (numbers_text c.in-Some.first.nodes) c.from_residual-in_err-print.ensures.0 c.in_err-print.ensures))

pub returns : goal.returns
returns g c = rw c.in-Some.is (prints_then c.in_ok-print_block.ensures (prints_then c.in_ok-print.ensures c.print_nodes.ensures))
