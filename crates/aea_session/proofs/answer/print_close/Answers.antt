use Rattle.aea_session.proofs.answer.print_close.Goals as goal

pub returns-in-Ok : goal.returns-in-Ok
returns-in-Ok g c = rw c.in-Ok.is c.print_closed.ensures
