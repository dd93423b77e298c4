use Rattle.aea_io.proofs.Printing.{prints_then_nothing, prints_failed}
use Rattle.aea_session.proofs.answer.send_closed.Goals as goal

pub returns-in_err-finish-clause-prints : goal.returns-in_err-finish-clause-prints
returns-in_err-finish-clause-prints g c =
    prints_failed {T = Unit {0}} c.from_residual-in_err-finish.ensures.0
    (prints_then_nothing (rw c.new-page.ensures at c.in_ok-print_close.ensures) c.in_err-finish.ensures.prints)

pub returns-clause-prints : goal.returns-clause-prints
returns-clause-prints g c =
    prints_then_nothing (rw c.new-page.ensures at c.in_ok-print_close.ensures) (rw c.in_ok-finish.ensures.empty at c.in_ok-finish.ensures.prints)
