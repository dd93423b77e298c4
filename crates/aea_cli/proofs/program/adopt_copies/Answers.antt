use Rattle.std.proofs.Common.{refl, ap, ◌∙◌, Err}
use Rattle.aea_cli.proofs.program.adopt_copies.Goals as goal

pub returns-in-Ok-clause-adopts : goal.returns-in-Ok-clause-adopts
returns-in-Ok-clause-adopts g c =
    let e = c.adopt.ensures in
    (c.adopt.result, record { answers = e.answers; revealed = e.revealed; near = e.near; exactly = e.exactly; idle = e.idle; stops = e.stops; opened = e.opened; synced = e.synced; writes = e.writes }, rw c.in-Ok.is refl)

pub returns-in-Err-CopiesBad-clause-adopts : goal.returns-in-Err-CopiesBad-clause-adopts
returns-in-Err-CopiesBad-clause-adopts g c =
    let e = c.adopt.ensures in
    (c.adopt.result, record { answers = e.answers; revealed = e.revealed; near = e.near; exactly = e.exactly; idle = e.idle; stops = e.stops; opened = e.opened; synced = e.synced; writes = e.writes }, rw (c.in-Err-CopiesBad.is ∙ ap Err c.in-Err-CopiesBad.field-0-is) refl)

pub returns-in-Err-CopiesDiffer-clause-adopts : goal.returns-in-Err-CopiesDiffer-clause-adopts
returns-in-Err-CopiesDiffer-clause-adopts g c =
    let e = c.adopt.ensures in
    (c.adopt.result, record { answers = e.answers; revealed = e.revealed; near = e.near; exactly = e.exactly; idle = e.idle; stops = e.stops; opened = e.opened; synced = e.synced; writes = e.writes }, rw (c.in-Err-CopiesDiffer.is ∙ ap Err c.in-Err-CopiesDiffer.field-0-is) refl)

pub returns-in-Err-DiskFault-clause-adopts : goal.returns-in-Err-DiskFault-clause-adopts
returns-in-Err-DiskFault-clause-adopts g c =
    let e = c.adopt.ensures in
    (c.adopt.result, record { answers = e.answers; revealed = e.revealed; near = e.near; exactly = e.exactly; idle = e.idle; stops = e.stops; opened = e.opened; synced = e.synced; writes = e.writes }, rw (c.in-Err-DiskFault.is ∙ ap Err c.in-Err-DiskFault.field-0-is) refl)
