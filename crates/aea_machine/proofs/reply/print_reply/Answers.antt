use Rattle.aea_io.proofs.Printing.{prints_then, prints_stopped}
use Rattle.aea_machine.proofs.reply.print_reply.Goals as goal

pub returns-in_err-print : goal.returns-in_err-print
returns-in_err-print g c = prints_stopped c.args.body.now c.from_residual.ensures.0 (rw c.kind.ensures at c.in_err-print.ensures)

pub returns : goal.returns
returns g c = prints_then (rw c.kind.ensures at c.in_ok-print.ensures) c.print-2.ensures
