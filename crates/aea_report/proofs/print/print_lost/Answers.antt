use Rattle.std.proofs.Common.{◌++◌}
use Rattle.aea_report.specs.Format.{newline, numbers_text}
use Rattle.aea_io.proofs.Printing.{prints_then, prints_stopped}
use Rattle.aea_report.proofs.Writes.{lost_pieces, lost_first}
use Rattle.aea_report.proofs.print.print_lost.Goals as goal

pub returns-in_err-print : goal.returns-in_err-print
returns-in_err-print g c =
    rw (lost_first c.args.block (numbers_text c.args.nodes.now))
    (prints_stopped (numbers_text c.args.nodes.now ++ newline) c.from_residual.ensures.0 (rw (c.bytes.ensures, c.block_text.ensures) at c.in_err-print.ensures))

pub returns-in_err-print_nodes : goal.returns-in_err-print_nodes
returns-in_err-print_nodes g c =
    rw (lost_pieces c.args.block (numbers_text c.args.nodes.now))
    (prints_stopped newline c.from_residual-in_err-print_nodes.ensures.0
    (prints_then (rw (c.bytes.ensures, c.block_text.ensures) at c.in_ok-print.ensures) c.in_err-print_nodes.ensures))

pub returns : goal.returns
returns g c =
    rw (lost_pieces c.args.block (numbers_text c.args.nodes.now))
    (prints_then (prints_then (rw (c.bytes.ensures, c.block_text.ensures) at c.in_ok-print.ensures) c.in_ok-print_nodes.ensures) c.print-2.ensures)
