use Rattle.std.proofs.Common.{◌++◌}
use Rattle.std.specs.Int.{w64, to_be_bytes}
use Rattle.aea_io.proofs.Printing.{prints_then, prints_stopped}
use Rattle.aea_machine.proofs.reply.print_closed.Goals as goal

pub returns-in_err-print_reply : goal.returns-in_err-print_reply
returns-in_err-print_reply g c =
    prints_stopped (to_be_bytes w64 c.args.length ++ c.args.digest.now) c.from_residual.ensures.0 (rw c.to_be_bytes-number.ensures at c.in_err-print_reply.ensures)

pub returns-in_err-print : goal.returns-in_err-print
returns-in_err-print g c =
    prints_then (rw c.to_be_bytes-number.ensures at c.in_ok-print_reply.ensures) (prints_stopped c.args.digest.now c.from_residual-in_err-print.ensures.0 (rw c.to_be_bytes-size.ensures at c.in_err-print.ensures))

pub returns : goal.returns
returns g c = prints_then (rw c.to_be_bytes-number.ensures at c.in_ok-print_reply.ensures) (prints_then (rw c.to_be_bytes-size.ensures at c.in_ok-print.ensures) c.print-2.ensures)
