use Rattle.std.proofs.Common.{refl, Err}
use Rattle.aea_io.proofs.Printing.{prints_then, prints_stopped, prints_then_nothing, prints_failed}
use Rattle.aea_session.proofs.LookingOver.{numbers_text}
use Rattle.aea_session.proofs.patrol.send_range.Goals as goal

pub returns-in_err-print_range_head-clause-prints : goal.returns-in_err-print_range_head-clause-prints
returns-in_err-print_range_head-clause-prints g c =
    prints_failed {T = Unit {0}} c.from_residual.ensures.0
    (prints_stopped {T = Unit {0}} {result = Err c.in_err-print_range_head.field-0.0} (numbers_text c.args.numbers.now) refl
    (rw c.new-page.ensures at c.in_err-print_range_head.ensures))

pub returns-in_err-print_numbers-clause-prints : goal.returns-in_err-print_numbers-clause-prints
returns-in_err-print_numbers-clause-prints g c =
    prints_failed {T = Unit {0}} c.from_residual-in_err-print_numbers.ensures.0
    (prints_then (rw c.new-page.ensures at c.in_ok-print_range_head.ensures) c.in_err-print_numbers.ensures)

pub returns-in_err-finish-clause-prints : goal.returns-in_err-finish-clause-prints
returns-in_err-finish-clause-prints g c =
    prints_failed {T = Unit {0}} c.from_residual-in_err-finish.ensures.0
    (prints_then_nothing (prints_then (rw c.new-page.ensures at c.in_ok-print_range_head.ensures) c.in_ok-print_numbers.ensures) c.in_err-finish.ensures.prints)

pub returns-clause-prints : goal.returns-clause-prints
returns-clause-prints g c =
    prints_then_nothing (prints_then (rw c.new-page.ensures at c.in_ok-print_range_head.ensures) c.in_ok-print_numbers.ensures)
    (rw c.in_ok-finish.ensures.empty at c.in_ok-finish.ensures.prints)
