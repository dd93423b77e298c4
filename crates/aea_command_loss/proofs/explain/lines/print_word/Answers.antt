use Rattle.std.proofs.Common.{◌++◌}
use Rattle.aea_io.proofs.Printing.{prints_then, prints_stopped}
use Rattle.aea_report.specs.Format.{numbers_text}
use Rattle.aea_command.specs.Lines.{newline}
use Rattle.aea_command_loss.proofs.explain.lines.print_word.Goals as goal

pub returns-in_err-print : goal.returns-in_err-print
returns-in_err-print g c = prints_stopped (numbers_text c.args.nodes.now ++ newline) c.from_residual.ensures.0 c.in_err-print.ensures

pub returns-in_err-print_nodes : goal.returns-in_err-print_nodes
returns-in_err-print_nodes g c =
    prints_then c.in_ok-print.ensures (prints_stopped newline c.from_residual-in_err-print_nodes.ensures.0 c.in_err-print_nodes.ensures)

pub returns : goal.returns
returns g c = prints_then c.in_ok-print.ensures (prints_then c.in_ok-print_nodes.ensures c.print-2.ensures)
