use Rattle.aea_io.proofs.Printing.{prints_then_nothing, prints_failed}
use Rattle.aea_session.proofs.read.send_head.Goals as goal

pub returns-in_err-print_object_head-clause-prints : goal.returns-in_err-print_object_head-clause-prints
returns-in_err-print_object_head-clause-prints g c = prints_failed c.from_residual.ensures.0 (rw c.requires.empty at c.in_err-print_object_head.ensures)

pub returns-in_err-send-clause-prints : goal.returns-in_err-send-clause-prints
returns-in_err-send-clause-prints g c =
    prints_failed {T = Unit {0}} c.from_residual-in_err-send.ensures.0
    (prints_then_nothing (rw c.requires.empty at c.in_ok-print_object_head.ensures) c.in_err-send.ensures.prints)

pub returns-clause-prints : goal.returns-clause-prints
returns-clause-prints g c =
    prints_then_nothing (rw c.requires.empty at c.in_ok-print_object_head.ensures) (rw c.in_ok-send.ensures.empty at c.in_ok-send.ensures.prints)
